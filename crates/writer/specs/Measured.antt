-- What is asked between the search, the pair and the count of words.
-- Assumes nothing.
use Rattle.std.specs.Prelude.{Bool, true, Option, Some, None, ℕ, Result, Ok, Err, ltb}
use Rattle.meaning.specs.declared.Cell.{Cell}
use Rattle.meaning.specs.declared.Refusal.{Refusal}
use Rattle.needs.specs.declared.Need.{Need}

-- the search went past the target's address, so that it may be written as its register's value
abbrev pub passes_target : Option Cell → Bool
passes_target (Some c) = ltb 1 c.0
passes_target None = true

-- the words that are needed, or why there are none
abbrev pub words_needed : Result Need Refusal → Result ℕ Refusal
words_needed (Ok need) = Ok need.in_all
words_needed (Err refusal) = Err refusal
