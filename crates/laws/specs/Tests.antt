-- Tests on numbers.
-- Assumes nothing.
use Rattle.std.specs.Prelude.{Bool, true, false, ◌&&◌, ℕ, List, leb, eqb}
use Rattle.laws.specs.Lists.{some}

-- lo ≤ x ≤ hi
abbrev pub within : ℕ → ℕ → ℕ → Bool
within lo hi x = leb lo x && leb x hi

-- if a, then b
abbrev pub implies : Bool → Bool → Bool
implies true b = b
implies false b = true

-- x is one of the list
unfoldable pub one_of : ℕ → List ℕ → Bool
one_of x l = some (eqb x) l
