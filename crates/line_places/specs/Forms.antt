-- The form of a line from its parts, as the code goes along it.
-- Assumes nothing.
use Rattle.std.specs.Prelude.{List, ◌++◌, map, ℕ, replicate}
use Rattle.meaning.specs.Text.{ascii}
use Rattle.meaning.specs.ListingReader.{Slot, fixed, any_digit}

-- these bytes, n digits, and the line's end
abbrev pub form_with : List ℕ → ℕ → List Slot
form_with before n = map fixed before ++ (replicate n any_digit ++ map fixed (ascii "\n"))
