-- What an engine keeps after a word stands for what the step makes of what stood before.
-- Assumes nothing.
use Rattle.meaning.specs.declared.Cell.{Cell}
use Rattle.std.specs.Prelude.{Option, Some, None}
use mathlib.Core.Path.{◌≡◌, refl, sym, ap, ◌∙◌}
use mathlib.Core.Bool.{Bool, true, false, cond}
use mathlib.Core.List.{List, [], ◌∷◌, ◌++◌}
use Prim.Native.Nat.{ℕ, zero, suc, ◌+◌, ◌<◌}
use native.Mathlib.Omega.{arith}
use borrow.Author.Tests.{lt-ltb}
use lib.Dec.{leb, ltb}
use lib.ListN.{length, set, length-set}
use lib.Seq.{set-append_left}
use Rattle.meaning.specs.declared.Kind.{Kind}
use Rattle.meaning.specs.declared.Kind.TheVariants.{Setting, Parameter, Video}
use Rattle.meaning.specs.Words.{sub_address, data24, para_type, para_sub_type}
use Rattle.meaning.specs.Registers.{cells, cell, find_video}
use Rattle.meaning.specs.Batch.{named}
use Rattle.meaning.specs.Grants.{Terms}
use Rattle.meaning.specs.State.{apply, apply_all, write_to}
use Rattle.meaning.specs.Positions.{goes, carries, write_at}
use Rattle.meaning.specs.Answers.{engine_full}
use Rattle.meaning.specs.Reader.{judge}
use Rattle.meaning.specs.Engine.{most_fed}
use Rattle.meaning.proofs.Table.{Of}
use Rattle.meaning.proofs.EachWrite.{Wide, found_3d, found_video}
use Rattle.asking.specs.Asked.{Asked, kind_from, cell_of, value_of, passed, unless_stopped, asked_in}
use Rattle.asking.proofs.Next.{next_again}
use Rattle.feeding.specs.Steps as steps
use Rattle.engine.specs.declared.Engine.{Engine}
use Rattle.engine.specs.Bits.{marks_of, with_mark}
use Rattle.engine.specs.Kept.{refused_by, taken_by, told_by, unless_refused, fed_with, standing}
use Rattle.promises.proofs.Marks.{mark_set, with_length}

-- ---- a write into values and marks

set_behind : (xs ys : List ℕ) (i v : ℕ) → set (xs ++ ys) (length xs + i) v ≡ xs ++ set ys i v
set_behind [] ys i v = ap (λ (n : ℕ). set ys n v) (omega arith)
set_behind (x ∷ xs) ys i v =
    let e : suc (length xs) + i ≡ suc (length xs + i) = omega arith in
    ap (λ (n : ℕ). set (x ∷ xs ++ ys) n v) e ∙ ap (λ (l : List ℕ). x ∷ l) (set_behind xs ys i v)

module _ (values marks : List ℕ) (n : length values ≡ cells) (four : length marks ≡ 4) where
  -- into a cell
  one_written : (c v : ℕ) → c < cells → apply_all (values ++ marks_of marks) (record { cell = cell c; value = v } ∷ []) ≡ set values c v ++ marks_of (with_mark marks c)
  unfolding apply_all apply
  one_written c v h =
      let e : cells + c ≡ length (set values c v) + c = omega (arith, length-set values c v) in
      ap (λ (l : List ℕ). set l (cells + c) 1) (set-append_left values (marks_of marks) c v (omega arith))
      ∙ ap (λ (m : ℕ). set (set values c v ++ marks_of marks) m 1) e
      ∙ set_behind (set values c v) (marks_of marks) c 1
      ∙ ap (λ (l : List ℕ). set values c v ++ l) (sym (mark_set marks four c h))

  -- by the register that was found
  found_written : (m : ℕ) (f : Option Cell) (v : ℕ) → Of (Wide m) f
      → cond (ltb (cell_of (write_to f v)).0 cells) (set values (cell_of (write_to f v)).0 (value_of (write_to f v))) values
      ++ marks_of (cond (ltb (cell_of (write_to f v)).0 cells) (with_mark marks (cell_of (write_to f v)).0) marks)
      ≡ apply_all (values ++ marks_of marks) (write_to f v)
  unfolding apply_all
  found_written m (Some c) v low = rw (lt-ltb c.0 cells low.0) (sym (one_written c.0 v low.0))
  found_written m None v low = refl

  -- what a word writes
  pub word_written : (kind : Kind) (k w : ℕ)
      → cond (ltb (cell_of (write_at kind k w)).0 cells) (set values (cell_of (write_at kind k w)).0 (value_of (write_at kind k w))) values
      ++ marks_of (cond (ltb (cell_of (write_at kind k w)).0 cells) (with_mark marks (cell_of (write_at kind k w)).0) marks)
      ≡ apply_all (values ++ marks_of marks) (write_at kind k w)
  unfolding write_at goes carries apply_all
  word_written kind zero w = refl
  word_written Setting (suc k) w = refl
  word_written (Parameter s) (suc k) w = found_written 24 (named s w) (data24 w) (found_3d (para_type s) (para_sub_type s) (sub_address w))
  word_written (Video o) (suc k) w = found_written 32 (find_video o) w (found_video o)

-- ---- a word

-- the arrays of an engine are as long as they are
pub record Sized (e : Engine) : Type 0 where
  pub values : length e.values ≡ cells
  pub marks : length e.marks ≡ 4

module _ (g : Terms) (e : Engine) (w : ℕ) (sized : Sized e) where
  abbrev kind : Kind
  kind = kind_from e.under

  taken_stands : e.reason ≡ 0 → judge g kind e.left w ≡ 0 → standing (taken_by (passed kind e.left w) e) ≡ steps.taken w (standing e)
  taken_stands z f =
      let one : e.place + 1 ≡ suc e.place = omega arith in
      rw (z, one, next_again g e.under e.left w f, word_written e.values e.marks sized.values sized.marks kind e.left w)

  fed_by_lem : (r : ℕ) → e.reason ≡ r → (b : Bool) (j : ℕ) → judge g kind e.left w ≡ j → {a : Asked} → a ≡ unless_stopped j (passed kind e.left w)
      → standing (unless_refused r e (cond b (refused_by engine_full e) (told_by a.reason a e)))
      ≡ steps.unless_refused r (standing e) (cond b (steps.refused engine_full (standing e)) (steps.judged j w (standing e)))
  fed_by_lem (suc r) z b j f p = refl
  fed_by_lem zero z true j f p = refl
  fed_by_lem zero z false (suc j) f p = rw p
  fed_by_lem zero z false zero f p = rw p (taken_stands z f)

  pub fed_stands : standing (fed_with g e w) ≡ steps.step g (standing e) w
  unfolding fed_with steps.step asked_in
  fed_stands = fed_by_lem e.reason refl (leb most_fed e.place) (judge g kind e.left w) refl refl

-- ---- what no word changes

-- the state at opening and the grants, and how long the arrays are
pub record Same (e r : Engine) : Type 0 where
  pub before : r.before ≡ e.before
  pub marked : r.marked ≡ e.marked
  pub starts : r.starts ≡ e.starts
  pub lasts : r.lasts ≡ e.lasts
  pub numbers : r.numbers ≡ e.numbers
  pub bounds : r.bounds ≡ e.bounds
  pub sized : Sized r

module _ (e : Engine) (sized : Sized e) where
  same : Same e e
  same = record { before = refl; marked = refl; starts = refl; lasts = refl; numbers = refl; bounds = refl; sized = sized }

  set_sized : (b : Bool) (c v : ℕ) → (length (cond b (set e.values c v) e.values) ≡ cells) × (length (cond b (with_mark e.marks c) e.marks) ≡ 4)
  set_sized true c v = (length-set e.values c v ∙ sized.values, with_length e.marks c ∙ sized.marks)
  set_sized false c v = (sized.values, sized.marks)

  same_by : (r : ℕ) (b : Bool) (x : ℕ) (a : Asked) → Same e (unless_refused r e (cond b (refused_by engine_full e) (told_by x a e)))
  same_by (suc r) b x a = same
  same_by zero true x a = record { before = refl; marked = refl; starts = refl; lasts = refl; numbers = refl; bounds = refl; sized = record { values = sized.values; marks = sized.marks } }
  same_by zero false (suc x) a =
      record { before = refl; marked = refl; starts = refl; lasts = refl; numbers = refl; bounds = refl; sized = record { values = sized.values; marks = sized.marks } }
  same_by zero false zero a =
      let s = set_sized (ltb a.cell.0 cells) a.cell.0 a.value in
      record { before = refl; marked = refl; starts = refl; lasts = refl; numbers = refl; bounds = refl; sized = record { values = s.0; marks = s.1 } }

  pub fed_same : (g : Terms) (w : ℕ) → Same e (fed_with g e w)
  unfolding fed_with
  fed_same g w =
      let a = asked_in g (kind_from e.under) e.left w in
      same_by e.reason (leb most_fed e.place) a.reason a
