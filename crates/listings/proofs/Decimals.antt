-- The count in decimal is read digit by digit.
-- Assumes nothing.
use mathlib.Core.Path.{◌≡◌, refl, ◌∙◌}
use mathlib.Core.List.{List, [], ◌∷◌, ◌++◌, append_assoc}
use Prim.Native.Nat.{ℕ, ◌+◌, ◌*◌, ◌-◌, ◌/◌, ◌%◌, ◌≤◌, ◌<◌}
use native.Mathlib.Omega.{arith}
use native.Mathlib.Decide.{dec_lt}
use borrow.Author.Tests.{lt-ltb}
use lib.Dec.{T, ltb}
use mir.Facts.{and_yes, yes_and, yes_ltb, ltb_yes, yes_leb, leb_yes}
use Rattle.laws.specs.Tests.{within}
use Rattle.laws.proofs.Tests.{within_iff}
use Rattle.meaning.specs.Registers.{cells}
use Rattle.meaning.specs.State.{Write}
use Rattle.meaning.specs.Lister.{digit, decimal}
use Rattle.lister.proofs.Head.{one_digit, two_digits, three_digits}
use Rattle.meaning.specs.ListingReader.{table_lines}
use Rattle.listings.proofs.Lines.{InLines}
use Rattle.listings.proofs.Count.{ends, goes, InCount, InFirst}

decimal_digit : (d : ℕ) → d < 10 → digit d ≡ 48 + d
unfolding digit
decimal_digit d l = rw (lt-ltb d 10 l)

is_decimal : (d : ℕ) → d < 10 → T (within 48 57 (48 + d))
is_decimal d l = (within_iff 48 57 (48 + d)).1 (omega arith, omega arith)

-- ---- from the count to its digits

step : (m d : ℕ) (ys : List ℕ) (ws : List Write) → 0 < m → d < 10 → m * 10 + d ≤ cells → InCount (m * 10 + d) ys ws → InCount m (digit d ∷ ys) ws
step m d ys ws p l h i =
    let e : 48 + d - 48 ≡ d = omega arith in
    let h' : m * 10 + (48 + d - 48) ≤ cells = rw e h in
    rw (decimal_digit d l) (goes (
      yes_and (within 48 57 (48 + d)) _ (is_decimal d l) (yes_and (ltb 0 m) _ (yes_ltb p) (yes_leb h')),
      rw e i,
    ))

first : (d : ℕ) (ys : List ℕ) (ws : List Write) → d < 10 → InCount d ys ws → InFirst (digit d ∷ ys) ws
first d ys ws l i =
    let e : 48 + d - 48 ≡ d = omega arith in
    rw (decimal_digit d l) (is_decimal d l, rw e i)

pub decimal_first : (n : ℕ) (zs : List ℕ) (ws : List Write) → n ≤ cells → InLines table_lines n zs ws → InFirst (decimal n ++ 10 ∷ zs) ws
decimal_first n zs ws l i = elim (dec_lt n 10) [
  | yes a ↦ rw (one_digit n a) (first n (10 ∷ zs) ws a (ends (refl, i)))
  | no a ↦ elim (dec_lt n 100) [
    | yes b ↦
        let e : n / 10 * 10 + n % 10 ≡ n = omega arith in
        let more : InCount (n / 10 * 10 + n % 10) (10 ∷ zs) ws = rw e (ends (refl, i)) in
        rw (two_digits n (omega arith) b)
        (first (n / 10) (digit (n % 10) ∷ 10 ∷ zs) ws (omega arith) (step (n / 10) (n % 10) (10 ∷ zs) ws (omega arith) (omega arith) (omega arith) more))
    | no b ↦
        let e : (n / 100 * 10 + n / 10 % 10) * 10 + n % 10 ≡ n = omega arith in
        let more : InCount ((n / 100 * 10 + n / 10 % 10) * 10 + n % 10) (10 ∷ zs) ws = rw e (ends (refl, i)) in
        rw (three_digits n (omega arith) (omega arith))
        (first (n / 100) (digit (n / 10 % 10) ∷ digit (n % 10) ∷ 10 ∷ zs) ws (omega arith)
        (step (n / 100) (n / 10 % 10) (digit (n % 10) ∷ 10 ∷ zs) ws (omega arith) (omega arith) (omega arith)
        (step (n / 100 * 10 + n / 10 % 10) (n % 10) (10 ∷ zs) ws (omega arith) (omega arith) (omega arith) more)))
  ]
]

-- ---- and back

-- a digit more
decimal_more : (m d : ℕ) → 0 < m → d < 10 → m * 10 + d ≤ cells → decimal (m * 10 + d) ≡ decimal m ++ digit d ∷ []
decimal_more m d p l h = elim (dec_lt m 10) [
  | yes a ↦
      let q : (m * 10 + d) / 10 ≡ m = omega arith in
      let r : (m * 10 + d) % 10 ≡ d = omega arith in
      rw (two_digits (m * 10 + d) (omega arith) (omega arith), one_digit m a, q, r)
  | no a ↦
      let q : (m * 10 + d) / 100 ≡ m / 10 = omega arith in
      let r : (m * 10 + d) / 10 % 10 ≡ m % 10 = omega arith in
      let s : (m * 10 + d) % 10 ≡ d = omega arith in
      rw (three_digits (m * 10 + d) (omega arith) (omega arith), two_digits m (omega arith) (omega arith), q, r, s)
]

-- the digits that make n and the text after them are a count's digits, a line's end and so many lines
pub record Counted (xs : List ℕ) (ws : List Write) : Type 0 where
  pub count : ℕ
  pub rest : List ℕ
  pub low : count ≤ cells
  pub lines : InLines table_lines count rest ws
  pub parts : xs ≡ decimal count ++ 10 ∷ rest

counted_from : (m : ℕ) (ys : List ℕ) (ws : List Write) → m ≤ cells → InCount m ys ws → Counted (decimal m ++ ys) ws
counted_from m [] ws l i = absurd i
counted_from m (y ∷ ys) ws l (ends i) = record { count = m; rest = ys; low = l; lines = i.1; parts = rw i.0 }
counted_from m (y ∷ ys) ws l (goes i) =
    let a = and_yes (within 48 57 y) _ i.0 in
    let b = and_yes (ltb 0 m) _ a.1 in
    let d = y - 48 in
    let w = (within_iff 48 57 y).0 a.0 in
    let s : y - 48 < 10 = omega (arith, w.1) in
    let h : m * 10 + (y - 48) ≤ cells = leb_yes b.1 in
    let e : digit (y - 48) ≡ y = decimal_digit (y - 48) s ∙ omega (arith, w.0) in
    let g = rw e at (decimal_more m (y - 48) (ltb_yes b.0) s h) in
    rw (g, append_assoc (decimal m) (y ∷ []) ys) at (counted_from (m * 10 + (y - 48)) ys ws h i.1)

pub first_counted : (xs : List ℕ) (ws : List Write) → InFirst xs ws → Counted xs ws
first_counted [] ws i = absurd i
first_counted (x ∷ xs) ws i =
    let w = (within_iff 48 57 x).0 i.0 in
    let s : x - 48 < 10 = omega (arith, w.1) in
    let e : digit (x - 48) ≡ x = decimal_digit (x - 48) s ∙ omega (arith, w.0) in
    rw (one_digit (x - 48) s, e) at (counted_from (x - 48) xs ws (omega arith) i.1)
