-- The count, byte by byte: to read on from here is to read the count.
-- Assumes nothing.
use Rattle.std.specs.Prelude.{Option, Some, None, unwrap_or}
use Rattle.std.proofs.lemmas.Option.{none-some}
use mathlib.Core.Path.{◌≡◌, refl, sym, ap, ◌∙◌}
use mathlib.Core.Bool.{Bool, true, false, cond, ◌&&◌}
use mathlib.Core.List.{List, [], ◌∷◌}
use mathlib.Core.Logic.{◌≢◌}
use Prim.Native.Nat.{ℕ, suc, ◌+◌, ◌*◌, ◌-◌, ◌≤◌, ◌<◌}
use native.Mathlib.Omega.{arith}
use native.Mathlib.Nat.{add_assoc}
use borrow.Author.Tests.{eq-eqb, ne_eqb, le-leb, lt-leb, lt-ltb, le-ltb}
use lib.Dec.{leb, ltb}
use lib.ListN.{length, drop, get_or, drop_of_length-le}
use lib.Seq.{drop-cons}
use Rattle.laws.specs.Tests.{within}
use Rattle.laws.proofs.Tests.{within_iff, holds_of}
use Rattle.meaning.specs.Registers.{cells}
use Rattle.meaning.specs.ListingReader.{table_lines, Outcome, refused, further, read_lines, read_count, read_first}
use Rattle.listing_reader.specs.Counted.{decimal_digit, Counted}

-- ---- a decimal digit

decimal_is : (x : ℕ) {d : ℕ} → Some d ≡ decimal_digit x → (within 48 57 x ≡ true) × ((x - 48 ≡ d) × (d ≤ 9))
unfolding decimal_digit
decimal_is x {d} e = by (within 48 57 x) refl e
  where
    by : (b : Bool) → within 48 57 x ≡ b → Some d ≡ cond b (Some (x - 48)) None → (b ≡ true) × ((x - 48 ≡ d) × (d ≤ 9))
    by true w s = let e : x - 48 ≡ d = ap (λ (o : Option ℕ). unwrap_or o 0) (sym s) in (refl, (e, omega (arith, ((within_iff 48 57 x).0 (holds_of w)).1)))
    by false w s = absurd (none-some d (sym s))

pub digit_few : (x : ℕ) {d : ℕ} → Some d ≡ decimal_digit x → d ≤ 9
digit_few x e = (decimal_is x e).1.1

decimal_not : (x : ℕ) → None ≡ decimal_digit x → within 48 57 x ≡ false
unfolding decimal_digit
decimal_not x e = by (within 48 57 x) e
  where
    by : (b : Bool) → None ≡ cond b (Some (x - 48)) None → b ≡ false
    by true e = absurd (none-some (x - 48) e)
    by false e = refl

-- ---- places

further_on : (a b : ℕ) (r : Outcome) → further a (further b r) ≡ further (a + b) r
further_on a b r = rw (add_assoc a b r.answer.place)

further_none : (a : ℕ) → further a (refused 0) ≡ refused a
further_none a = let z : a + 0 ≡ a = omega arith in rw z

module _ (text : List ℕ) (start : ℕ) where
  abbrev all : Outcome
  all = further start (read_first (drop start text))

  -- ---- the first digit

  pub first_none : length text ≤ start → all ≡ refused start
  unfolding read_first
  first_none h = let d : drop start text ≡ [] = drop_of_length-le text h in rw d (further_none start)

  module _ (l : start < length text) where
    cut : drop start text ≡ get_or text start 0 ∷ drop (suc start) text
    cut = drop-cons text start 0 l

    pub first_not : None ≡ decimal_digit (get_or text start 0) → all ≡ refused start
    unfolding read_first
    first_not h = rw (cut, decimal_not (get_or text start 0) h) (further_none start)

  -- ---- the digits before `at` make n
  pub record Counting (at n : ℕ) : Type 0 where
    pub few : n ≤ cells
    pub same : further start (read_first (drop start text)) ≡ further at (read_count n (drop at text))

  pub first_next : start < length text → {n : ℕ} → Some n ≡ decimal_digit (get_or text start 0) → Counting (start + 1) n
  unfolding read_first
  first_next l {n} e =
      let t = decimal_is (get_or text start 0) e in
      let s : start + 1 ≡ suc start = omega arith in
      record {
        few = omega (arith, t.1.1);
        same = rw (cut l, t.0, t.1.0) (further_on start 1 (read_count n (drop (suc start) text)) ∙ rw s);
      }

  module _ {at n : ℕ} (g : Counting at n) where
    pub count_end : length text ≤ at → at ≤ length text → all ≡ refused (length text)
    unfolding read_count
    count_end h k =
        let d : drop at text ≡ [] = drop_of_length-le text h in
        let e : at ≡ length text = omega arith in
        g.same ∙ rw d (further_none at) ∙ ap refused e

    module _ (l : at < length text) where
      abbrev x : ℕ
      x = get_or text at 0

      here : drop at text ≡ x ∷ drop (suc at) text
      here = drop-cons text at 0 l

      pub count_line : x ≡ 10 → Counted text start (at + 1) n
      unfolding read_count
      count_line e =
          let s : at + 1 ≡ suc at = omega arith in
          record {
            inside = omega arith;
            few = g.few;
            goes = g.same ∙ rw (here, eq-eqb x 10 e) (further_on at 1 (read_lines table_lines n (drop (suc at) text)) ∙ rw s);
          }

      module _ (ne : x ≢ 10) where
        -- another digit may not follow
        stops : within 48 57 x && (ltb 0 n && leb (n * 10 + (x - 48)) cells) ≡ false → all ≡ refused at
        unfolding read_count
        stops f = g.same ∙ rw (here, ne_eqb x 10 ne, f) (further_none at)

        pub count_not : None ≡ decimal_digit x → all ≡ refused at
        count_not h = stops (rw (decimal_not x h))

        module _ {d : ℕ} (e : Some d ≡ decimal_digit x) where
          pub count_zero : n ≡ 0 → all ≡ refused at
          count_zero z = let is = decimal_is x e in stops (rw (is.0, z, le-ltb 0 0 (omega arith)))

          pub count_great : n ≢ 0 → cells < n * 10 + d → all ≡ refused at
          count_great z k = let is = decimal_is x e in stops (rw (is.0, lt-ltb 0 n (omega arith), is.1.0, lt-leb (n * 10 + d) cells k))

          pub count_next : n ≢ 0 → n * 10 + d ≤ cells → Counting (at + 1) (n * 10 + d)
          unfolding read_count
          count_next z k =
              let is = decimal_is x e in
              let s : at + 1 ≡ suc at = omega arith in
              record {
                few = k;
                same =
                    g.same ∙ rw (here, ne_eqb x 10 ne, is.0, lt-ltb 0 n (omega arith), is.1.0, le-leb (n * 10 + d) cells k)
                    (further_on at 1 (read_count (n * 10 + d) (drop (suc at) text)) ∙ rw s);
              }
