-- The names of the cells are the table's, and so are the runs of video registers: computed tests over the cells and over the rows.
-- Assumes nothing.
use Rattle.std.specs.Prelude.{Option, Some, None}
use mathlib.Core.Path.{◌≡◌, refl, sym, ap, subst, ◌∙◌}
use mathlib.Core.Bool.{Bool, true, false, ◌&&◌, not, cond}
use mathlib.Core.List.{List, [], ◌∷◌}
use Prim.Native.Nat.{ℕ, zero, suc, ◌+◌, ◌*◌, ◌-◌, ◌≤◌, ◌<◌}
use native.Mathlib.Omega.{arith}
use borrow.Author.Tests.{eqb-true}
use lib.Dec.{T, leb, ltb, eqb, leb-zero, leb-suc-zero, leb-suc-suc}
use mir.Facts.{and_yes, leb_yes, ltb_yes, eqb_yes}
use Rattle.laws.specs.Lists.{All, every, from}
use Rattle.laws.proofs.Lists.{every_from, every_all}
use Rattle.laws.proofs.Tests.{true_of}
use Rattle.meaning.specs.declared.Cell.{Cell}
use Rattle.meaning.specs.declared.VideoOffset.{VideoOffset}
use Rattle.meaning.specs.Words.{following}
use Rattle.meaning.specs.Registers.{first_video, end_video, cell, Row, Section, of_3d, of_video, target_group, stage, sample, overlay, scaler, sections, find, find_among, find_3d, first_found, find_offset, find_video, is_found}
use Rattle.meaning.specs.Reader.{run_in}
use Rattle.meaning.proofs.Table.{is_at, is_at_lem, RowsVideo}
use Rattle.registers.specs.Names.{type_of, sub_type_of, address_of, offset_of, row_from}

-- ---- names

abbrev is_3d : ℕ → Bool
is_3d c = is_at c (find_3d (type_of (cell c)) (sub_type_of (cell c)) (address_of (cell c)))

abbrev is_video : ℕ → Bool
is_video c = is_at c (find_video (offset_of (cell c)))

tested_3d : T (every is_3d (from 0 first_video))
unfolding every from is_at type_of sub_type_of address_of find_3d find_among find sections target_group stage sample
tested_3d = tt

tested_video : T (every is_video (from first_video (end_video - first_video)))
unfolding every from is_at offset_of find_video find_offset find sections overlay scaler
tested_video = tt

-- the name of a 3D cell names it
pub named_3d : (c : ℕ) → c < first_video → find_3d (type_of (cell c)) (sub_type_of (cell c)) (address_of (cell c)) ≡ Some (cell c)
named_3d c h = is_at_lem c _ (every_from is_3d 0 first_video tested_3d c (omega arith) (omega arith))

-- and the offset of a video cell
pub named_video : (c : ℕ) → first_video ≤ c → c < end_video → find_video (offset_of (cell c)) ≡ Some (cell c)
named_video c l h = is_at_lem c _ (every_from is_video first_video (end_video - first_video) tested_video c l (omega arith))

-- ---- runs

-- where k registers stand in a row from an offset on and no more, a run of n stays among them exactly if n ≤ k
runs : (k : ℕ) (o : VideoOffset) → T (run_in o k) → find_video (record { 0 = o.0 + 4 * k }) ≡ None → (n : ℕ) → run_in o n ≡ leb n k
unfolding run_in
runs k o t e zero = sym (leb-zero k)
runs zero o t e (suc n) =
    let none : find_video o ≡ None = sym (ap (λ (x : ℕ). find_video (record { 0 = x })) (omega arith)) ∙ e in
    rw (none, leb-suc-zero n)
runs (suc k) o t e (suc n) =
    let both = and_yes (is_found (find_video o)) _ t in
    let end : find_video (record { 0 = (following o).0 + 4 * k }) ≡ None = sym (ap (λ (x : ℕ). find_video (record { 0 = x })) (omega arith)) ∙ e in
    rw (true_of (is_found (find_video o)) both.0, leb-suc-suc n k) (runs k (following o) both.1 end n)

none_at : {c : Cell} → None ≡ Some c → ⊥
none_at x = subst (λ (f : Option Cell). T (not (is_found f))) x tt

-- the row that a lookup found
found_row : (Q : Row VideoOffset → Type 0) (o : VideoOffset) (c : Cell) (rs : List (Row VideoOffset)) → All Q rs → find (λ n. eqb o.0 n.0) rs ≡ Some c
    → (r : Row VideoOffset) × (o.0 ≡ r.name.0) × (r.cell ≡ c) × Q r
unfolding find
found_row Q o c [] a e = absurd (none_at e)
found_row Q o c (r ∷ rs) a e = at (eqb o.0 r.name.0) refl e (found_row Q o c rs a.1)
  where
    cell_of_lem : Option Cell → Cell
    cell_of_lem (Some x) = x
    cell_of_lem None = r.cell

    at : (b : Bool) → eqb o.0 r.name.0 ≡ b → cond b (Some r.cell) (find (λ n. eqb o.0 n.0) rs) ≡ Some c
        → (find (λ n. eqb o.0 n.0) rs ≡ Some c → (q : Row VideoOffset) × (o.0 ≡ q.name.0) × (q.cell ≡ c) × Q q)
        → (q : Row VideoOffset) × (o.0 ≡ q.name.0) × (q.cell ≡ c) × Q q
    at true t x more = (r, eqb-true o.0 r.name.0 t, ap cell_of_lem x, a.0)
    at false t x more = more x

-- the same in the table: a row of a video section
found_in : (Q : Row VideoOffset → Type 0) (o : VideoOffset) (c : Cell) (ss : List Section) → All (RowsVideo Q) ss → find_offset o ss ≡ Some c
    → (r : Row VideoOffset) × (o.0 ≡ r.name.0) × (r.cell ≡ c) × Q r
unfolding find_offset
found_in Q o c [] a e = absurd (none_at e)
found_in Q o c (of_3d G ∷ ss) a e = found_in Q o c ss a.1 e
found_in Q o c (of_video rs ∷ ss) a e = by (find (λ n. eqb o.0 n.0) rs) refl e (found_in Q o c ss a.1)
  where
    by : (f : Option Cell) → find (λ n. eqb o.0 n.0) rs ≡ f → first_found f (find_offset o ss) ≡ Some c
        → (find_offset o ss ≡ Some c → (r : Row VideoOffset) × (o.0 ≡ r.name.0) × (r.cell ≡ c) × Q r)
        → (r : Row VideoOffset) × (o.0 ≡ r.name.0) × (r.cell ≡ c) × Q r
    by (Some d) x y more = found_row Q o c rs a.0 (x ∙ y)
    by None x y more = more y

-- a test of every row of the video sections
every_video : (Row VideoOffset → Bool) → List Section → Bool
every_video f [] = true
every_video f (of_3d G ∷ ss) = every_video f ss
every_video f (of_video rs ∷ ss) = every f rs && every_video f ss

every_video_lem : (f : Row VideoOffset → Bool) (ss : List Section) → T (every_video f ss) → All (RowsVideo (λ r. T (f r))) ss
unfolding every_video
every_video_lem f [] t = tt
every_video_lem f (of_3d G ∷ ss) t = (tt, every_video_lem f ss t)
every_video_lem f (of_video rs ∷ ss) t = let both = and_yes (every f rs) _ t in (every_all f rs both.0, every_video_lem f ss both.1)

-- what a test that is true of every row tells of the row that is found
module _ (f : Row VideoOffset → Bool) (t : T (every_video f sections)) where
  row_of : (o : VideoOffset) (c : Cell) → find_video o ≡ Some c → (r : Row VideoOffset) × (o.0 ≡ r.name.0) × (r.cell ≡ c) × T (f r)
  unfolding find_video
  row_of o c e = found_in (λ r. T (f r)) o c sections (every_video_lem f sections t) e

-- from the row's offset on, so many registers stand in a row
abbrev ends : Row VideoOffset → Bool
ends r = run_in r.name (row_from r.cell) && not (is_found (find_video (record { 0 = r.name.0 + 4 * row_from r.cell })))

tested_rows : T (every_video ends sections)
unfolding every_video every run_in row_from find_video find_offset find sections overlay scaler from
tested_rows = tt

-- and their cells follow one another as the offsets do, from the first video cell on
abbrev follows : Row VideoOffset → ℕ → Bool
follows r i = is_at (r.cell.0 + i) (find_video (record { 0 = r.name.0 + 4 * i }))

abbrev in_order : Row VideoOffset → Bool
in_order r = leb first_video r.cell.0 && (leb (r.cell.0 + row_from r.cell) end_video && (leb 1 (row_from r.cell) && every (follows r) (from 0 (row_from r.cell))))

tested_order : T (every_video in_order sections)
unfolding every_video every from is_at row_from find_video find_offset find sections overlay scaler
tested_order = tt

missing_of : (f : Option Cell) → T (not (is_found f)) → f ≡ None
missing_of (Some c) t = absurd t
missing_of None t = refl

-- a run from a video register on stays among the registers exactly if it is no longer than they stand in a row
pub row_run : (o : VideoOffset) (c : Cell) → find_video o ≡ Some c → (n : ℕ) → run_in o n ≡ leb n (row_from c)
row_run o c e n =
    let f = row_of ends tested_rows o c e in
    let both = and_yes (run_in f.0.name _) _ f.3 in
    let same : f.0.name ≡ o = ap (λ (x : ℕ). record { 0 = x }) (sym f.1) in
    let exact : run_in f.0.name n ≡ leb n (row_from f.0.cell) = runs (row_from f.0.cell) f.0.name both.0 (missing_of _ both.1) n in
    rw (same, f.2) at exact

-- an offset that is no video cell's is no register's
named : Row VideoOffset → Bool
named r = eqb (offset_of r.cell).0 r.name.0 && (leb first_video r.cell.0 && ltb r.cell.0 end_video)

tested_names : T (every_video named sections)
unfolding every_video every named offset_of sections overlay scaler from
tested_names = tt

pub no_video : (o : VideoOffset) → ((c : ℕ) → first_video ≤ c → c < end_video → o.0 ≡ (offset_of (cell c)).0 → ⊥) → find_video o ≡ None
unfolding named
no_video o out = by (find_video o) refl
  where
    by : (f : Option Cell) → find_video o ≡ f → f ≡ None
    by None e = refl
    by (Some c) e =
        let f = row_of named tested_names o c e in
        let both = and_yes (eqb (offset_of f.0.cell).0 f.0.name.0) _ f.3 in
        let range = and_yes (leb first_video f.0.cell.0) _ both.1 in
        let low : first_video ≤ f.0.cell.0 = leb_yes range.0 in
        let high : f.0.cell.0 < end_video = ltb_yes range.1 in
        absurd (out f.0.cell.0 low high (f.1 ∙ sym (eqb_yes both.0)))

module _ (o : VideoOffset) (c : Cell) (e : find_video o ≡ Some c) where
  -- the registers of the row
  pub row_next : (i : ℕ) → i < row_from c → find_video (record { 0 = o.0 + 4 * i }) ≡ Some (cell (c.0 + i))
  row_next i h =
      let f = row_of in_order tested_order o c e in
      let low = and_yes (leb first_video f.0.cell.0) _ f.3 in
      let high = and_yes (leb (f.0.cell.0 + row_from f.0.cell) end_video) _ low.1 in
      let some = and_yes (leb 1 (row_from f.0.cell)) _ high.1 in
      let bound : i < row_from f.0.cell = rw f.2 h in
      let at : find_video (record { 0 = f.0.name.0 + 4 * i }) ≡ Some (cell (f.0.cell.0 + i)) =
      is_at_lem (f.0.cell.0 + i) _ (every_from (follows f.0) 0 (row_from f.0.cell) some.1 i (omega arith) (omega arith))
      in
      rw (sym f.1, f.2) at at
