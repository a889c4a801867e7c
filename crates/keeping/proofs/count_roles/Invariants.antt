-- The invariant: the grants from a number on are fine exactly if all are, and complete the counts.
-- Assumes nothing.
use Rattle.meaning.specs.Words.{words_of}
use Rattle.meaning.specs.Grants.{grants_of}
use Rattle.keeping.proofs.Counting.{Counted}
use Rattle.keeping.proofs.count_roles.Given as goal

abbrev pub invariant-loop-number : goal.invariant-loop-number
invariant-loop-number l = Counted (grants_of (words_of l.grants)) l.counts l.number
