-- Texts stored one behind the other.
-- Assumes nothing.
use mathlib.Core.Path.{◌≡◌, ap, ◌∙◌}
use mathlib.Core.List.{List, ◌++◌}
use Prim.Native.Nat.{ℕ, ◌+◌}
use lib.ListN.{length}
use lib.Seq.{sets}
use Rattle.laws.proofs.Stores.{sets_behind}

-- a second text behind one that is known by an equation
pub behind : (l : List ℕ) (i j : ℕ) (xs ys : List ℕ) {new : List ℕ} → new ≡ sets l i xs → j ≡ i + length xs → sets new j ys ≡ sets l i (xs ++ ys)
behind l i j xs ys e n = ap (λ (x : List ℕ). sets x j ys) e ∙ sets_behind l i j xs ys n
