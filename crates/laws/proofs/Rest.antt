-- The rest of a list from a place on, and its first elements.
-- Assumes nothing.
use mathlib.Core.Path.{◌≡◌}
use mathlib.Core.List.{List, ◌∷◌}
use Prim.Native.Nat.{ℕ, suc, ◌+◌, ◌-◌, ◌≤◌, ◌<◌}
use native.Mathlib.Numerals.{add-one}
use native.Mathlib.Omega.{arith}
use lib.ListN.{length, drop, get_or}
use lib.Seq.{drop-cons}

pub rest : (l : List ℕ) (i : ℕ) → i < length l → drop i l ≡ get_or l i 0 ∷ drop (i + 1) l
rest l i h = rw (add-one, drop-cons l i 0)

-- the same where the place is a sum
pub rest_at : (l : List ℕ) (i k : ℕ) → i + k < length l → drop (i + k) l ≡ get_or l (i + k) 0 ∷ drop (i + suc k) l
rest_at l i k h = let e : i + suc k ≡ suc (i + k) = omega arith in rw (e, drop-cons l (i + k) 0)

pub rest5 : (l : List ℕ) (i : ℕ) → i + 5 ≤ length l
    → drop i l ≡ get_or l i 0 ∷ get_or l (i + 1) 0 ∷ get_or l (i + 2) 0 ∷ get_or l (i + 3) 0 ∷ get_or l (i + 4) 0 ∷ drop (i + 5) l
rest5 l i h =
    let h0 : i < length l = omega arith in
    let h1 : i + 1 < length l = omega arith in
    let h2 : i + 2 < length l = omega arith in
    let h3 : i + 3 < length l = omega arith in
    let h4 : i + 4 < length l = omega arith in
    rw (rest l i, rest_at l i 1, rest_at l i 2, rest_at l i 3, rest_at l i 4)
