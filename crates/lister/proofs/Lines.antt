-- The lines of marked cells: how many, how long, and a loop that stores them one behind the other.
-- Assumes nothing.
use mathlib.Core.Path.{◌≡◌, refl, sym, ap, ◌∙◌}
use mathlib.Core.Bool.{true}
use mathlib.Core.List.{List, [], ◌++◌}
use Prim.Native.Nat.{ℕ, zero, suc, ◌+◌, ◌*◌, ◌-◌, ◌≤◌, ◌<◌}
use native.Mathlib.Omega.{arith}
use native.Mathlib.Nat.{zero-add, add-zero, suc-add, add-suc, mul-zero, mul-add, mul-one, lt_of_not-le}
use lib.ListN.{length, drop_of_length-le}
use lib.Seq.{sets, length-sets}
use Rattle.laws.specs.Lists.{join}
use Rattle.laws.proofs.Stores.{sets_behind}
use Rattle.meaning.specs.declared.Cell.{Cell}
use Rattle.meaning.specs.Registers.{cell}
use Rattle.meaning.specs.State.{value_at, mark_at, is_mark, marked, one, count_in}
use Rattle.meaning.specs.Writer.{if_so}
use Rattle.meaning.proofs.Writing.{so_length, so_join, so_append}
use Rattle.states.proofs.Counted.{count_next, count_none}
use Rattle.lister.specs.Listed.{lines_from}

module _ (line : Cell → ℕ → List ℕ) (st : List ℕ) where
  -- a line for each marked cell
  pub lines_count : (i n : ℕ) → length (lines_from line st i n) ≡ count_in (marked st) i n
  unfolding lines_from count_in
  lines_count i zero = refl
  lines_count i (suc n) = so_length (marked st (cell i)) _ (lines_from line st (suc i) n) ∙ ap (λ (k : ℕ). one (marked st (cell i)) + k) (lines_count (suc i) n)

  -- lines of one width
  pub lines_length : (wide : ℕ) → ((c : Cell) (v : ℕ) → length (line c v) ≡ wide) → (i n : ℕ) → length (join (lines_from line st i n)) ≡ wide * count_in (marked st) i n
  unfolding lines_from count_in
  lines_length wide h i zero = sym (mul-zero wide)
  lines_length wide h i (suc n) =
      so_join (marked st (cell i)) (line (cell i) (value_at st (cell i))) (lines_from line st (suc i) n)
      ∙ rw (h (cell i) (value_at st (cell i)), lines_length wide h (suc i) n, mul-add wide (one (marked st (cell i))) (count_in (marked st) (suc i) n))

  -- the lines of cells, then those of the cells after them
  pub lines_add : (i n m : ℕ) → lines_from line st i n ++ lines_from line st (i + n) m ≡ lines_from line st i (n + m)
  unfolding lines_from
  lines_add i zero m = rw (add-zero, zero-add)
  lines_add i (suc n) m =
      rw (suc-add n m, add-suc i n, ← suc-add i n)
      (so_append (marked st (cell i)) _ (lines_from line st (suc i) n) _
      ∙ ap (if_so (marked st (cell i)) (line (cell i) (value_at st (cell i)))) (lines_add (suc i) n m))

-- the first cell of a range, and the rest
lines_next : (line : Cell → ℕ → List ℕ) (st : List ℕ) (i end : ℕ) → i < end
    → lines_from line st i (end - i) ≡ if_so (marked st (cell i)) (line (cell i) (value_at st (cell i))) (lines_from line st (i + 1) (end - (i + 1)))
unfolding lines_from
lines_next line st i end l =
    let e : end - i ≡ suc (end - suc i) = omega arith in
    let s : i + 1 ≡ suc i = omega arith in
    rw (e, s)

-- what is not 0 is a mark
is_mark_lem : (m : ℕ) → (m ≡ 0 → ⊥) → is_mark m ≡ true
is_mark_lem zero n = absurd (n refl)
is_mark_lem (suc m) n = refl

-- of lines that are left, the next one
one_line : (wide left : ℕ) → 0 < left → wide * left ≡ wide + wide * (left - 1)
one_line wide left l = let e : left ≡ 1 + (left - 1) = omega arith in ap (λ (n : ℕ). wide * n) e ∙ rw (mul-add, mul-one)

-- ---- the loop over the cells from `first` to before `end`, or as long as a marked one is left

-- As many lines are left as marked cells. Stored from `at` on over what stands there now, they give what all lines give over what stood
-- there; and they end at the same place.
pub record Going (line : Cell → ℕ → List ℕ) (wide : ℕ) (st : List ℕ) (first end : ℕ) (out₀ : List ℕ) (start : ℕ) (out : List ℕ) (left at c : ℕ) : Type 0 where
  pub past : first ≤ c
  pub count : left ≡ count_in (marked st) c (end - c)
  pub same : length out ≡ length out₀
  pub place : at + wide * left ≡ start + wide * count_in (marked st) first (end - first)
  pub stored : sets out at (join (lines_from line st c (end - c))) ≡ sets out₀ start (join (lines_from line st first (end - first)))

module _ {line : Cell → ℕ → List ℕ} {wide : ℕ} {st : List ℕ} {first end : ℕ} {out₀ : List ℕ} {start : ℕ} where
  -- no cell is passed
  pub begin : {count : ℕ} → count ≡ count_in (marked st) first (end - first) → Going line wide st first end out₀ start out₀ count start first
  begin e = record { past = omega arith; count = e; same = refl; place = rw e; stored = refl }

  module _ {out : List ℕ} {left at c : ℕ} (g : Going line wide st first end out₀ start out left at c) where
    -- where no loop counts the marked cells, they are counted here
    pub counted : Going line wide st first end out₀ start out (count_in (marked st) c (end - c)) at c
    counted = record { past = g.past; count = refl; same = g.same; place = rw g.count at g.place; stored = g.stored }

    -- no marked cell is left
    pub ended : left ≤ 0 → out ≡ sets out₀ start (join (lines_from line st first (end - first)))
    ended h =
        let none : lines_from line st c (end - c) ≡ [] = drop_of_length-le _ {i = 0} (omega (arith, lines_count line st c (end - c), g.count)) in
        rw none at g.stored

    -- a marked cell is left, and so a cell,
    pub further : 0 < left → c < end
    further some = lt_of_not-le (λ h. omega (arith, g.count, count_none (marked st) c (end - c) (omega arith)))

    -- and room for a line
    pub fits : 0 < left → start + wide * count_in (marked st) first (end - first) ≤ length out₀ → at + wide ≤ length out
    fits some h = omega (arith, one_line wide left some, g.place, g.same)

    -- a cell is left, and its mark is read
    module _ (more : c < end) {mark : ℕ} (read : mark ≡ mark_at st (cell c)) where
      -- an unmarked cell has no line
      pub passed : mark ≡ 0 → Going line wide st first end out₀ start out left at (c + 1)
      passed m = record {
        past = omega (arith, g.past);
        count = g.count ∙ rw (count_next (marked st) c end more, ← read, m, zero-add);
        same = g.same;
        place = g.place;
        stored = rw (lines_next line st c end more, ← read, m) at g.stored;
      }

      module _ (m : mark ≡ 0 → ⊥) where
        is : marked st (cell c) ≡ true
        is = rw (← read) (is_mark_lem mark m)

        one_more : left ≡ 1 + count_in (marked st) (c + 1) (end - (c + 1))
        one_more = g.count ∙ rw (count_next (marked st) c end more, is)

        -- a marked one is one of those that are left
        pub some : 0 < left
        some = omega (arith, one_more)

        -- its line is stored, with the value that is read
        pub stored_line : {value : ℕ} → value ≡ value_at st (cell c) → (new : List ℕ) → new ≡ sets out at (line (cell c) value) → length (line (cell c) value) ≡ wide
            → Going line wide st first end out₀ start new (left - 1) (at + wide) (c + 1)
        stored_line {value} v new e w = record {
          past = omega (arith, g.past);
          count = omega (arith, one_more);
          same = ap length e ∙ length-sets out at (line (cell c) value) ∙ g.same;
          place = omega (arith, one_line wide left some, g.place);
          stored =
              rw e
              (sets_behind out at (at + wide) (line (cell c) value) _ (omega arith)
              ∙ (rw (lines_next line st c end more, is, ← v) at g.stored));
        }
