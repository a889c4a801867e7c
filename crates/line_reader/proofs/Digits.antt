-- A digit, and digits as they come in.
-- Assumes nothing.
use Rattle.std.specs.Prelude.{Option, Some, None, unwrap_or}
use Rattle.std.proofs.lemmas.Option.{none-some}
use mathlib.Core.Path.{◌≡◌, refl, sym, ap, ◌∙◌}
use mathlib.Core.Bool.{Bool, true, false, cond, ◌||◌}
use mathlib.Core.List.{[], ◌∷◌, ◌++◌}
use Prim.Native.Nat.{ℕ, zero, suc, ◌+◌, ◌*◌, ◌-◌, ◌/◌, ◌%◌, ◌≤◌, ◌<◌, ◌^◌}
use native.Mathlib.Omega.{arith}
use native.Mathlib.Nat.{pow-suc, mul_comm, div-div-eq-div-mul}
use borrow.Author.Tests.{le-leb, lt-leb, lt-ltb, le-ltb, ltb-true, ltb-false}
use lib.Dec.{T, leb, ltb, eqb}
use lib.ListN.{get_or}
use mir.Facts.{eqb_yes}
use Rattle.laws.specs.Lists.{every, from}
use Rattle.laws.specs.Tests.{within}
use Rattle.laws.proofs.Lists.{every_from}
use Rattle.laws.proofs.Tests.{within_iff, holds_of}
use Rattle.meaning.specs.Lister.{digit, hex}
use Rattle.meaning.specs.ListingReader.{is_hex, digit_worth}
use Rattle.listings.proofs.Digits.{digit_worth_lem, worth_digit}
use Rattle.line_reader.specs.Named.{digit_or_16, digit_table, hex_digit}

-- the table has what each byte counts
table_test : T (every (λ x. eqb (get_or digit_table x 0) (digit_or_16 x)) (from 0 256))
unfolding every from digit_table digit_or_16
table_test = tt

pub table_at : (x : ℕ) → x < 256 → get_or digit_table x 0 ≡ digit_or_16 x
table_at x l = eqb_yes (every_from (λ x. eqb (get_or digit_table x 0) (digit_or_16 x)) 0 256 table_test x (omega arith) (omega arith))

pub digit_small : (x : ℕ) → digit_or_16 x ≤ 16
unfolding digit_or_16
digit_small x = by (within 48 57 x) refl (within 97 102 x) refl
  where
    by : (p : Bool) → within 48 57 x ≡ p → (q : Bool) → within 97 102 x ≡ q → cond p (x - 48) (cond q (x - 87) 16) ≤ 16
    by true e q f = omega (arith, ((within_iff 48 57 x).0 (holds_of e)).1)
    by false e true f = omega (arith, ((within_iff 97 102 x).0 (holds_of f)).1)
    by false e false f = omega arith

-- what a byte counts, as it is told,
pub counts_none : (x : ℕ) {d : ℕ} → d ≡ digit_or_16 x → 15 < d → None ≡ hex_digit x
unfolding hex_digit
counts_none x e l = rw (lt-ltb 15 (digit_or_16 x) (omega (arith, e)))

pub counts_some : (x : ℕ) {d : ℕ} → d ≡ digit_or_16 x → d ≤ 15 → Some d ≡ hex_digit x
unfolding hex_digit
counts_some x e l = rw (le-ltb 15 (digit_or_16 x) (omega (arith, e)), e)

-- and what that tells
pub hex_none : (x : ℕ) → None ≡ hex_digit x → 15 < digit_or_16 x
unfolding hex_digit
hex_none x e = by (ltb 15 (digit_or_16 x)) refl e
  where
    by : (b : Bool) → ltb 15 (digit_or_16 x) ≡ b → None ≡ cond b None (Some (digit_or_16 x)) → 15 < digit_or_16 x
    by true l e = ltb-true 15 (digit_or_16 x) l
    by false l e = absurd (none-some (digit_or_16 x) e)

pub hex_some : (x : ℕ) {d : ℕ} → Some d ≡ hex_digit x → (d ≡ digit_or_16 x) × (d ≤ 15)
unfolding hex_digit
hex_some x {d} e = by (ltb 15 (digit_or_16 x)) refl e
  where
    by : (b : Bool) → ltb 15 (digit_or_16 x) ≡ b → Some d ≡ cond b None (Some (digit_or_16 x)) → (d ≡ digit_or_16 x) × (d ≤ 15)
    by true l e = absurd (none-some d (sym e))
    by false l e = let s : d ≡ digit_or_16 x = ap (λ (o : Option ℕ). unwrap_or o 0) e in (s, omega (arith, s, ltb-false 15 (digit_or_16 x) l))

hex_told : (x : ℕ) → digit_or_16 x < 16 → T (is_hex x) × (digit_worth x ≡ digit_or_16 x)
unfolding digit_or_16 is_hex digit_worth
hex_told x l = by (within 48 57 x) refl (within 97 102 x) refl l
  where
    by : (p : Bool) → within 48 57 x ≡ p → (q : Bool) → within 97 102 x ≡ q → cond p (x - 48) (cond q (x - 87) 16) < 16
        → T (p || q) × (cond (leb x 57) (x - 48) (x - 87) ≡ cond p (x - 48) (cond q (x - 87) 16))
    by true e q f l = let h : leb x 57 ≡ true = le-leb x 57 ((within_iff 48 57 x).0 (holds_of e)).1 in (tt, rw h)
    by false e true f l = let h : leb x 57 ≡ false = lt-leb x 57 (omega (arith, ((within_iff 97 102 x).0 (holds_of f)).0)) in (tt, rw h)
    by false e false f l = absurd (omega arith)

-- a byte that counts is the digit of what it counts,
pub counts_digit : (x : ℕ) → digit_or_16 x < 16 → digit (digit_or_16 x) ≡ x
counts_digit x l = let t = hex_told x l in ap digit (sym t.1) ∙ (worth_digit x t.0).0

-- and a digit counts
pub digit_counts : (x : ℕ) → T (is_hex x) → digit_or_16 x < 16
unfolding digit_or_16 is_hex
digit_counts x t = by (within 48 57 x) refl (within 97 102 x) refl t
  where
    by : (p : Bool) → within 48 57 x ≡ p → (q : Bool) → within 97 102 x ≡ q → T (p || q) → cond p (x - 48) (cond q (x - 87) 16) < 16
    by true e q f t = omega (arith, ((within_iff 48 57 x).0 (holds_of e)).1)
    by false e true f t = omega (arith, ((within_iff 97 102 x).0 (holds_of f)).1)
    by false e false f t = absurd t

-- the digits of a number are digits
pub hex_hex : (k n i : ℕ) → i < k → T (is_hex (get_or (hex k n) i 0))
unfolding hex
hex_hex zero n i l = absurd (omega arith)
hex_hex (suc k) n zero l = (digit_worth_lem (n / 16 ^ k % 16) (omega arith)).0
hex_hex (suc k) n (suc i) l = hex_hex k n i (omega arith)

-- one digit more
pub hex_more : (k v d : ℕ) → d < 16 → hex (suc k) (v * 16 + d) ≡ hex k v ++ digit d ∷ []
unfolding hex
hex_more zero v d l = let e : (v * 16 + d) / 1 % 16 ≡ d = omega arith in rw e
hex_more (suc k) v d l =
    let q : (v * 16 + d) / 16 ≡ v = omega arith in
    let e : (v * 16 + d) / 16 ^ suc k ≡ v / 16 ^ k = rw (pow-suc 16 k, mul_comm (16 ^ k) 16, ← div-div-eq-div-mul (v * 16 + d) 16 (16 ^ k), q) in
    rw (e, hex_more k v d l)
