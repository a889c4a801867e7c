-- What the tests of a definition come to, from what the arms of a `match` and the branches of an `if` know: rulesets for `search`.
-- Assumes nothing.
use mathlib.Core.Path.{◌≡◌, sym, ◌∙◌}
use mathlib.Core.Bool.{Bool, true, false, not}
use Prim.Native.Nat.{ℕ, suc, ◌<◌, ◌≤◌}
use native.Mathlib.Nat.{lt_of_lt_of_le, le_trans}
use native.Mathlib.Omega.{arith}
use lib.Dec.{eqb, leb, leb-zero}
use borrow.Author.Tests.{lt-ltb, le-ltb, le-leb, lt-leb, eq-eqb, ne_eqb, eqb-false, leb-true}

-- one number is not two different keys
pub apart : (a b c : ℕ) → a ≡ b → eqb b c ≡ false → a ≡ c → ⊥
apart a b c p q r = eqb-false b c q (sym p ∙ r)

-- a bound by a literal follows from a sharper one
pub below : (x a b : ℕ) → x < a → leb a b ≡ true → x < b
below x a b p q = lt_of_lt_of_le p (leb-true a b q)

pub above : (x a b : ℕ) → a ≤ x → leb b a ≡ true → b ≤ x
above x a b p q = le_trans (leb-true b a q) p

-- a range `lo..=hi` tells x < hi + 1, and past it hi + 1 ≤ x; a definition asks x ≤ hi
pub up_to : (x b : ℕ) → x < suc b → leb x b ≡ true
up_to x b p = le-leb x b (omega arith)

pub past : (x b : ℕ) → suc b ≤ x → leb x b ≡ false
past x b p = lt-leb x b (omega arith)

pub ruleset tests = (lt-ltb, le-ltb, le-leb, lt-leb, eq-eqb, ne_eqb, apart, leb-zero, up_to, past)

-- ranges with gaps between them
pub ruleset spans = (lt-ltb, le-ltb, le-leb, lt-leb, eq-eqb, ne_eqb, apart, leb-zero, up_to, past, below, above)

-- what a callee's answer, tested as `if !f(..)`, tells of the definition that the callee cites
pub told_true : {r s : Bool} → r ≡ s → r ≡ true → s ≡ true
told_true e t = sym e ∙ t

pub told_false : {r s : Bool} → r ≡ s → r ≡ false → s ≡ false
told_false e t = sym e ∙ t
