-- What the reading of the whole text tells: the texts of the first line's count, byte by byte, and then of so many lines.
-- Assumes nothing.
use mathlib.Core.Path.{◌≡◌, refl}
use mathlib.Core.Bool.{Bool, true, false, cond, ◌&&◌}
use mathlib.Core.List.{List, [], ◌∷◌, ◌++◌}
use Prim.Native.Nat.{ℕ, zero, suc, ◌+◌, ◌*◌, ◌-◌, ◌≤◌, max}
use native.Mathlib.Omega.{arith}
use borrow.Author.Tests.{eqb-true}
use lib.Dec.{T, eqb, leb, ltb}
use lib.ListN.{length, take, drop}
use mir.Facts.{and_yes, yes_eqb, leb_yes}
use Rattle.laws.specs.Tests.{within}
use Rattle.laws.proofs.Tests.{within_iff, fails_of, holds_of}
use Rattle.meaning.specs.Registers.{cells}
use Rattle.meaning.specs.State.{Write}
use Rattle.meaning.specs.ListingReader.{along, head_form, table_lines, Outcome, refused, further, at_least, read_lines, read_count, read_first, read_text}
use Rattle.listings.proofs.Forms.{some_text}
use Rattle.listings.proofs.Tells.{Texts, Starts, Some, Tells, tells_none, starts_there, Either, this, tells_whole, tells_left}
use Rattle.listings.proofs.Lines.{InLines, some_lines, lines_tell}
use Rattle.listings.proofs.Table.{lines_101, lines_apart}

-- ---- one byte

-- no text is empty
pub tells_end : (L : Texts) → ((ws : List Write) → L [] ws → ⊥) → Tells L [] (refused 0)
tells_end L none = tells_none L [] (λ n l s. l) none

-- none starts with x
pub tells_not : (L : Texts) (x : ℕ) (xs : List ℕ) → ((ys : List ℕ) (ws : List Write) → L (x ∷ ys) ws → ⊥) → Tells L (x ∷ xs) (refused 0)
tells_not L x xs none = tells_none L (x ∷ xs) by (none xs)
  where
    by : (n : ℕ) → n ≤ suc (length xs) → Starts L (x ∷ xs) n → n ≤ 0
    by zero l s = omega arith
    by (suc n) l s = absurd (none (take n xs ++ s.more) s.writes s.whole)

-- those that do go on as M has it
module _ (L M : Texts) (x : ℕ) (xs : List ℕ) (r : Outcome) (some : Some M) (to : (ys : List ℕ) (ws : List Write) → L (x ∷ ys) ws → M ys ws)
    (fro : (ys : List ℕ) (ws : List Write) → M ys ws → L (x ∷ ys) ws) (t : Tells M xs r) where
  byte_longest : (n : ℕ) → n ≤ suc (length xs) → Starts L (x ∷ xs) n → n ≤ 1 + r.answer.place
  byte_longest zero l s = omega arith
  byte_longest (suc n) l s =
      omega (arith, t.longest n (omega arith) (record { more = s.more; writes = s.writes; whole = to (take n xs ++ s.more) s.writes s.whole }))

  byte_begun : Starts L (x ∷ xs) (1 + r.answer.place)
  byte_begun =
      let s = starts_there M xs r some t in
      let e : 1 + r.answer.place ≡ suc r.answer.place = omega arith in
      rw e (record { more = s.more; writes = s.writes; whole = fro (take r.answer.place xs ++ s.more) s.writes s.whole })

  pub tells_byte : Tells L (x ∷ xs) (further 1 r)
  tells_byte = record {
    right = λ z. let p = t.right z in (fro xs r.writes p.0, omega (arith, p.1));
    found = λ ws i. t.found ws (to xs ws i);
    inside = omega (arith, t.inside);
    begun = λ l. byte_begun;
    longest = byte_longest;
    refusal = t.refusal;
  }

-- ---- the count

-- another digit may follow
abbrev pub goes_on : ℕ → ℕ → Bool
goes_on n x = within 48 57 x && (ltb 0 n && leb (n * 10 + (x - 48)) cells)

pub data Either2 (A B : Type 0) : Type 0 where
  ends : A → Either2 A B
  goes : B → Either2 A B

-- the count's digits so far make n
abbrev pub InCount : ℕ → Texts
InCount n [] ws = ⊥
InCount n (x ∷ xs) ws = Either2 ((x ≡ 10) × InLines table_lines n xs ws) (T (goes_on n x) × InCount (n * 10 + (x - 48)) xs ws)

some_count : (n : ℕ) → n ≤ cells → Some (InCount n)
some_count n l =
    let s = some_lines table_lines n (rw lines_101 l) in
    record { text = 10 ∷ s.text; writes = s.writes; whole = ends (refl, s.whole) }

-- the three ways on, by what the tests come to
module _ (n x : ℕ) (xs : List ℕ) (le : n ≤ cells) where
  abbrev by : Bool → Bool → Outcome
  by b c = cond b (further 1 (read_lines table_lines n xs)) (cond c (further 1 (read_count (n * 10 + (x - 48)) xs)) (refused 0))

  newline_ends : x ≡ 10 → T (goes_on n x) → ⊥
  newline_ends e t = let p = (within_iff 48 57 x).0 (and_yes (within 48 57 x) _ t).0 in omega (arith, p.0)

  ended : x ≡ 10 → (ys : List ℕ) (ws : List Write) → InCount n (x ∷ ys) ws → InLines table_lines n ys ws
  ended e ys ws (ends p) = p.1
  ended e ys ws (goes p) = absurd (newline_ends e p.0)

  gone : T (goes_on n x) → (ys : List ℕ) (ws : List Write) → InCount n (x ∷ ys) ws → InCount (n * 10 + (x - 48)) ys ws
  gone t ys ws (ends p) = absurd (newline_ends p.0 t)
  gone t ys ws (goes p) = p.1

  neither : eqb x 10 ≡ false → goes_on n x ≡ false → (ys : List ℕ) (ws : List Write) → InCount n (x ∷ ys) ws → ⊥
  neither e f ys ws (ends p) = fails_of e (yes_eqb p.0)
  neither e f ys ws (goes p) = fails_of f p.0

  fits : T (goes_on n x) → n * 10 + (x - 48) ≤ cells
  fits t = leb_yes (and_yes (ltb 0 n) _ (and_yes (within 48 57 x) _ t).1).1

  by_tells : (b c : Bool) → eqb x 10 ≡ b → goes_on n x ≡ c → (n * 10 + (x - 48) ≤ cells → Tells (InCount (n * 10 + (x - 48))) xs (read_count (n * 10 + (x - 48)) xs))
      → Tells (InCount n) (x ∷ xs) (by b c)
  by_tells true c e f more =
      let z = eqb-true x 10 e in
      tells_byte (InCount n) (InLines table_lines n) x xs (read_lines table_lines n xs) (some_lines table_lines n (rw lines_101 le)) (ended z) (λ ys ws i. ends (z, i))
      (lines_tell table_lines n xs lines_apart)
  by_tells false true e f more =
      let t : T (goes_on n x) = holds_of f in
      tells_byte (InCount n) (InCount (n * 10 + (x - 48))) x xs (read_count (n * 10 + (x - 48)) xs) (some_count (n * 10 + (x - 48)) (fits t)) (gone t) (λ ys ws i. goes (t, i))
      (more (fits t))
  by_tells false false e f more = tells_not (InCount n) x xs (neither e f)

count_tells : (n : ℕ) (xs : List ℕ) → n ≤ cells → Tells (InCount n) xs (read_count n xs)
unfolding read_count
count_tells n [] l = tells_end (InCount n) (λ ws i. i)
count_tells n (x ∷ xs) l = by_tells n x xs l (eqb x 10) (goes_on n x) refl refl (λ k. count_tells (n * 10 + (x - 48)) xs k)

-- ---- the whole text

abbrev pub InFirst : Texts
InFirst [] ws = ⊥
InFirst (x ∷ xs) ws = T (within 48 57 x) × InCount (x - 48) xs ws

some_first : Some InFirst
some_first = let s = some_count 0 (omega arith) in record { text = 48 ∷ s.text; writes = s.writes; whole = (tt, s.whole) }

first_by : (x : ℕ) (xs : List ℕ) (b : Bool) → within 48 57 x ≡ b → Tells InFirst (x ∷ xs) (cond b (further 1 (read_count (x - 48) xs)) (refused 0))
first_by x xs true e =
    let t : T (within 48 57 x) = holds_of e in
    let l : x - 48 ≤ cells = omega (arith, ((within_iff 48 57 x).0 t).1) in
    tells_byte InFirst (InCount (x - 48)) x xs (read_count (x - 48) xs) (some_count (x - 48) l) (λ ys ws i. i.1) (λ ys ws i. (t, i)) (count_tells (x - 48) xs l)
first_by x xs false e = tells_not InFirst x xs (λ ys ws i. fails_of e i.0)

first_tells : (xs : List ℕ) → Tells InFirst xs (read_first xs)
unfolding read_first
first_tells [] = tells_end InFirst (λ ws i. i)
first_tells (x ∷ xs) = first_by x xs (within 48 57 x) refl

abbrev Nothing : Texts
Nothing xs ws = ⊥

abbrev pub InText : Texts
InText = Either head_form (λ xs ws. ws) InFirst Nothing

pub some_listing : Some InText
some_listing =
    let t = some_text head_form in
    record {
      text = t.0 ++ some_first.text;
      writes = some_first.writes;
      whole = this (record { front = t.0; rest = some_first.text; later = some_first.writes; follows = t.1; texts = some_first.whole; parts = refl; all = refl });
    }

at_least_none : (n : ℕ) → at_least n (refused 0) ≡ refused n
at_least_none n = let z : max n 0 ≡ n = omega arith in rw z

text_by : (xs : List ℕ) (b : Bool) → eqb (along head_form xs) (length head_form) ≡ b
    → Tells InText xs (cond b (further (along head_form xs) (read_first (drop (along head_form xs) xs))) (refused (along head_form xs)))
text_by xs true e =
    tells_whole head_form (λ xs ws. ws) InFirst Nothing xs (eqb-true (along head_form xs) (length head_form) e) (λ n l s. absurd s.whole)
    (read_first (drop (along head_form xs) xs)) some_first (first_tells (drop (along head_form xs) xs))
text_by xs false e =
    rw (at_least_none (along head_form xs)) at (
    tells_left head_form (λ xs ws. ws) InFirst Nothing xs (λ w. fails_of e (yes_eqb w)) (refused 0) some_first
    (tells_none Nothing xs (λ n l s. absurd s.whole) (λ ws i. i))
    )

pub text_tells : (xs : List ℕ) → Tells InText xs (read_text xs)
unfolding read_text
text_tells xs = text_by xs (eqb (along head_form xs) (length head_form)) refl
