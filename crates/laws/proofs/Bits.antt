-- Numbers joined by `|`, under tests that are true of the whole exactly if they are of both.
-- Assumes nothing.
use mathlib.Core.Path.{◌≡◌, refl}
use mathlib.Core.Bool.{◌&&◌}
use Prim.Native.Nat.{ℕ, zero, suc, ◌%◌}
use native.Mathlib.Omega.{arith}
use borrow.Author.Tests.{ne_eqb, lt-leb}
use lib.Dec.{eqb, leb}
use lib.Bits.{bit_or, or_zero_l, or_add_and, or_mod, and_le_l, and_le_r}

-- 0 exactly if both are
pub or_zero : (a b : ℕ) → eqb (bit_or a b) 0 ≡ (eqb a 0 && eqb b 0)
or_zero zero b = rw (or_zero_l b)
or_zero (suc a) b = rw (ne_eqb (suc a) 0 (λ e. omega arith)) (ne_eqb (bit_or (suc a) b) 0 (λ e. omega (arith, or_add_and (suc a) b, and_le_r (suc a) b)))

-- at most 1 exactly if both are
pub or_small : (a b : ℕ) → leb (bit_or a b) 1 ≡ (leb a 1 && leb b 1)
or_small zero b = rw (or_zero_l b)
or_small (suc zero) zero = refl
or_small (suc zero) (suc zero) = refl
or_small (suc zero) (suc (suc b)) =
    let sum = or_add_and 1 (suc (suc b)) in
    let l = and_le_l 1 (suc (suc b)) in
    rw (lt-leb (bit_or 1 (suc (suc b))) 1 (omega arith), lt-leb (suc (suc b)) 1 (omega arith))
or_small (suc (suc a)) b =
    let sum = or_add_and (suc (suc a)) b in
    let l = and_le_r (suc (suc a)) b in
    rw (lt-leb (bit_or (suc (suc a)) b) 1 (omega arith), lt-leb (suc (suc a)) 1 (omega arith))

-- a multiple of 4 exactly if both are
pub or_four : (a b : ℕ) → eqb (bit_or a b % 4) 0 ≡ (eqb (a % 4) 0 && eqb (b % 4) 0)
or_four a b = rw (or_mod a b 2) (or_zero (a % 4) (b % 4))
