-- The head line: the digits of a count below 1,000, and the pieces of the line, one behind the other.
-- Assumes nothing.
use mathlib.Core.Path.{◌≡◌, refl, ap, ◌∙◌}
use mathlib.Core.List.{List, [], ◌∷◌, ◌++◌, append_assoc}
use Prim.Native.Nat.{ℕ, ◌+◌, ◌/◌, ◌%◌, ◌≤◌, ◌<◌}
use native.Mathlib.Omega.{arith}
use borrow.Author.Tests.{lt-ltb, le-ltb}
use lib.ListN.{length}
use lib.Seq.{sets}
use Rattle.meaning.specs.Text.{ascii}
use Rattle.meaning.specs.Lister.{digit, decimal}
use Rattle.lines.proofs.Stores.{behind}
use Rattle.lister.specs.Listed.{head_line}

-- what the tests of the definition come to
pub one_digit : (n : ℕ) → n < 10 → decimal n ≡ digit n ∷ []
unfolding decimal
one_digit n l = rw (lt-ltb n 10 l)

pub two_digits : (n : ℕ) → 10 ≤ n → n < 100 → decimal n ≡ digit (n / 10) ∷ digit (n % 10) ∷ []
unfolding decimal
two_digits n h l = rw (le-ltb n 10 h, lt-ltb n 100 l)

pub three_digits : (n : ℕ) → 10 ≤ n → 100 ≤ n → decimal n ≡ digit (n / 100) ∷ digit (n / 10 % 10) ∷ digit (n % 10) ∷ []
unfolding decimal
three_digits n k h = rw (le-ltb n 10 k, le-ltb n 100 h)

-- the first line, of which the count may have one digit or more
pub head_pieces : (l : List ℕ) (n digits : ℕ) → digits ≡ length (decimal n)
    → sets (sets (sets l 0 (ascii "cells=")) 6 (decimal n)) (6 + digits) (ascii "\n") ≡ sets l 0 (head_line n)
unfolding head_line
head_pieces l n digits e =
    behind l 0 (6 + digits) (ascii "cells=" ++ decimal n) (ascii "\n") (behind l 0 6 (ascii "cells=") (decimal n) refl refl) (omega arith)
    ∙ ap (sets l 0) (append_assoc (ascii "cells=") (decimal n) (ascii "\n"))
