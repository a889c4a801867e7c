-- `rules::must_be_clear` meets its contract: each bit of the mask is clear or set in the value, so that all of them are clear exactly if
-- none is set.
-- Assumes nothing.
use mathlib.Core.Path.{◌≡◌, refl}
use Prim.Native.Nat.{ℕ, zero, suc, ◌+◌, ◌-◌, ◌/◌, ◌%◌, ◌^◌, ◌<◌, min}
use native.Mathlib.Omega.{arith}
use borrow.Author.Tests.{eq-eqb, ne_eqb}
use lib.Dec.{eqb}
use lib.Bits.{bit_and, and_step}
use Rattle.rules.proofs.must_be_clear.Goals as goal

-- one bit of the mask, by one of the value
one_bit : (v m : ℕ) → v < 2 → m < 2 → min (1 - v) m + min v m ≡ m
one_bit zero zero p q = refl
one_bit zero (suc zero) p q = refl
one_bit (suc zero) zero p q = refl
one_bit (suc zero) (suc zero) p q = refl
one_bit (suc (suc v)) m p q = absurd (omega arith)
one_bit zero (suc (suc m)) p q = absurd (omega arith)
one_bit (suc zero) (suc (suc m)) p q = absurd (omega arith)

-- what is clear of the mask and what is set of it, k bits wide, make up the mask
clear-and-set : (k v m : ℕ) → v < 2 ^ k → m < 2 ^ k → bit_and (2 ^ k - 1 - v) m + bit_and v m ≡ m
clear-and-set zero zero zero p q = refl
clear-and-set zero (suc v) m p q = absurd (omega arith)
clear-and-set zero zero (suc m) p q = absurd (omega arith)
clear-and-set (suc k) v m p q =
    let clear : ℕ = 2 ^ suc k - 1 - v in
    let upper : clear / 2 ≡ 2 ^ k - 1 - v / 2 = omega arith in
    let lowest : clear % 2 ≡ 1 - v % 2 = omega arith in
    let rest = clear-and-set k (v / 2) (m / 2) (omega arith) (omega arith) in
    let bit = one_bit (v % 2) (m % 2) (omega arith) (omega arith) in
    rw (and_step clear m, and_step v m, upper, lowest) (omega arith)

-- a part is the whole exactly if the other part is nothing
whole_part : (x y m : ℕ) → x + y ≡ m → eqb x m ≡ eqb y 0
whole_part x zero m e = eq-eqb x m (omega arith)
whole_part x (suc y) m e = rw (ne_eqb x m (λ same. omega arith), ne_eqb (suc y) 0 (λ none. omega arith))

pub returns : goal.returns
returns c = record { clear = whole_part _ _ c.args.mask (clear-and-set 32 c.args.value c.args.mask (omega arith) (omega arith)) }
