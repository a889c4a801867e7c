-- The places of the query's answers: each is a byte, and a loop stores them one behind the other.
-- Assumes nothing.
use mathlib.Core.Path.{◌≡◌, refl, ◌∙◌}
use mathlib.Core.Bool.{Bool, true, false, ◌&&◌}
use mathlib.Core.List.{List}
use Prim.Native.Nat.{ℕ, zero, suc, ◌+◌, ◌-◌, ◌/◌, ◌≤◌, ◌<◌}
use native.Mathlib.Omega.{arith}
use lib.ListN.{length, set, length-set}
use lib.Seq.{sets}
use Rattle.laws.specs.Lists.{over}
use Rattle.laws.proofs.Stores.{sets_over}
use Rattle.meaning.specs.declared.Cell.{Cell}
use Rattle.meaning.specs.Words.{words_of}
use Rattle.meaning.specs.Registers.{cells, cell}
use Rattle.meaning.specs.Grants.{most_grants}
use Rattle.meaning.specs.State.{mark_at, is_mark, marked}
use Rattle.meaning.specs.Answers.{bad_buffer, provided, number_of}
use Rattle.meaning.specs.Query.{query_answer}
use Rattle.meaning.specs.Writer.{if_so}
use Rattle.meaning.specs.Exported.{word_buffer_fine, exported_which_grant}
use Rattle.meaning.proofs.Bytes.{number_tells}
use Rattle.numbering.proofs.Answers.{query_place, which_call_range}
use Rattle.name_grants.specs.Named.{grant_places}
use Rattle.name_grants.proofs.Fronts.{within}

-- ---- a place is a byte

module _ (st grants : List ℕ) (c : Cell) where
  pub place_low : (exported_which_grant st grants c).place ≤ most_grants
  unfolding exported_which_grant
  place_low = by (word_buffer_fine st && word_buffer_fine grants)
    where
      by : (b : Bool) → (provided b bad_buffer (query_answer (words_of st) (words_of grants) c)).place ≤ most_grants
      by true = query_place (words_of st) (words_of grants) c
      by false = omega arith

  -- and the call's number tells it
  pub place_told : {n : ℕ} → n ≡ number_of (exported_which_grant st grants c) → n / 256 ≡ (exported_which_grant st grants c).place
  place_told e = rw e (number_tells (exported_which_grant st grants c) (which_call_range st grants c)).1

-- ---- how many they are

so_few : (b : Bool) (x n : ℕ) (xs : List ℕ) → length xs ≤ n → length (if_so b x xs) ≤ suc n
so_few true x n xs h = omega arith
so_few false x n xs h = omega arith

module _ (st grants : List ℕ) where
  pub places_few : (i n : ℕ) → length (grant_places st grants i n) ≤ n
  unfolding grant_places
  places_few i zero = omega arith
  places_few i (suc n) = so_few (marked (words_of st) (cell i)) _ n (grant_places st grants (suc i) n) (places_few (suc i) n)

  -- they lie within their buffer
  pub places_within : (old : List ℕ) {new : List ℕ} {n : ℕ} → n ≡ length (grant_places st grants 0 cells) → new ≡ over (grant_places st grants 0 cells) old → n ≤ length new
  places_within = within (grant_places st grants 0 cells)

  -- the first cell of those that are left, and the rest
  places_next : (i : ℕ) → i < cells
      → grant_places st grants i (cells - i)
      ≡ if_so (marked (words_of st) (cell i)) (exported_which_grant st grants (cell i)).place (grant_places st grants (i + 1) (cells - (i + 1)))
  unfolding grant_places
  places_next i l =
      let e : cells - i ≡ suc (cells - suc i) = omega arith in
      let s : i + 1 ≡ suc i = omega arith in
      rw (e, s)

-- what is not 0 is a mark
is_mark_lem : (m : ℕ) → (m ≡ 0 → ⊥) → is_mark m ≡ true
is_mark_lem zero n = absurd (n refl)
is_mark_lem (suc m) n = refl

-- ---- the loop over the cells

-- The places that are left, stored behind those that are put, give what all give over the buffer at entry; and they end at the same place.
pub record Going (st grants out₀ out : List ℕ) (count c : ℕ) : Type 0 where
  pub past : count ≤ c
  pub same : length out ≡ length out₀
  pub ends : count + length (grant_places st grants c (cells - c)) ≡ length (grant_places st grants 0 cells)
  pub stored : sets out count (grant_places st grants c (cells - c)) ≡ sets out₀ 0 (grant_places st grants 0 cells)

module _ {st grants out₀ : List ℕ} where
  -- no cell is passed
  pub begin : Going st grants out₀ out₀ 0 0
  begin = record { past = omega arith; same = refl; ends = omega arith; stored = refl }

  module _ {out : List ℕ} {count c : ℕ} (g : Going st grants out₀ out count c) where
    -- no cell is left
    pub ended : cells ≤ c → cells ≤ length out₀ → (count ≡ length (grant_places st grants 0 cells)) × (out ≡ over (grant_places st grants 0 cells) out₀)
    unfolding grant_places
    ended h room =
        let none : cells - c ≡ 0 = omega arith in
        let few = places_few st grants 0 cells in (
          omega (arith, rw none at g.ends),
          rw none at g.stored ∙ sets_over (grant_places st grants 0 cells) out₀ (omega arith),
        )

    -- a cell is left, and its mark is read
    module _ (more : c < cells) {mark : ℕ} (read : mark ≡ mark_at (words_of st) (cell c)) where
      -- an unmarked cell has no place
      pub passed : mark ≡ 0 → Going st grants out₀ out count (c + 1)
      passed m = record {
        past = omega (arith, g.past);
        same = g.same;
        ends = rw (places_next st grants c more, ← read, m) at g.ends;
        stored = rw (places_next st grants c more, ← read, m) at g.stored;
      }

      -- that of a marked one goes behind the others
      pub put : (mark ≡ 0 → ⊥) → {n : ℕ} → n ≡ (exported_which_grant st grants (cell c)).place → Going st grants out₀ (set out count n) (count + 1) (c + 1)
      put m {n} e =
          let is : marked (words_of st) (cell c) ≡ true = rw (← read) (is_mark_lem mark m) in
          let next : count + 1 ≡ suc count = omega arith in
          record {
            past = omega (arith, g.past);
            same = length-set out count n ∙ g.same;
            ends = omega (arith, rw (places_next st grants c more, is) at g.ends);
            stored = rw (next, e) (rw (places_next st grants c more, is) at g.stored);
          }
