-- The rows of the table, as cells: each stands at the cell of its number and has that cell's line. One test over sections.
-- Assumes nothing.
use mathlib.Core.Path.{◌≡◌, refl, sym, ap, ap₂, ◌∙◌}
use mathlib.Core.Bool.{Bool, true, false, ◌&&◌}
use mathlib.Core.List.{List, [], ◌∷◌, ◌++◌, append_assoc}
use Prim.Native.Nat.{ℕ, suc, ◌+◌, ◌-◌}
use lib.Dec.{T, eqb}
use lib.ListN.{length}
use mir.Facts.{and_yes, eqb_yes}
use Rattle.laws.specs.Lists.{from}
use Rattle.meaning.specs.declared.Cell.{Cell}
use Rattle.meaning.specs.declared.SubAddress.{SubAddress}
use Rattle.meaning.specs.declared.VideoOffset.{VideoOffset}
use Rattle.meaning.specs.Registers.{first_video, end_video, cell, Row, Section, of_3d, of_video, target_group, stage, sample, overlay, scaler, sections_3d, sections_video, sections}
use Rattle.meaning.specs.State.{value_at, marked}
use Rattle.meaning.specs.Writer.{if_so}
use Rattle.meaning.specs.Lister.{line_3d, line_video, lines_of, lines_in, lines_among, cell_lines}
use Rattle.meaning.proofs.Table.{rows_in, rows_among}
use Rattle.registers.specs.Names.{type_of, sub_type_of, address_of, offset_of}
use Rattle.lines.specs.Lines.{cell_line_3d, cell_line_video}
use Rattle.lister.specs.Listed.{lines_from}
use Rattle.lister.proofs.Lines.{lines_add}

-- ---- rows

-- a row is the cell of its number, and its line is that of the cell
abbrev AsCell : {Name : Type 0} → (Name → ℕ → List ℕ) → (Cell → ℕ → List ℕ) → ℕ → Row Name → Type 0
AsCell line cell_line i r = (r.cell ≡ cell i) × (line r.name ≡ cell_line (cell i))

-- a test of each row and its number, from number i on
numbered : {Name : Type 0} → (ℕ → Row Name → Bool) → ℕ → List (Row Name) → Bool
numbered f i [] = true
numbered f i (r ∷ rs) = f i r && numbered f (suc i) rs

module _ {Name : Type 0} (f : ℕ → Row Name → Bool) (line : Name → ℕ → List ℕ) (cell_line : Cell → ℕ → List ℕ)
    (told : (i : ℕ) (r : Row Name) → T (f i r) → AsCell line cell_line i r) (st : List ℕ) where
  -- the lines of rows that pass are those of so many cells
  rows_lines : (i : ℕ) (rs : List (Row Name)) → T (numbered f i rs) → lines_of line st rs ≡ lines_from cell_line st i (length rs)
  unfolding lines_of lines_from numbered
  rows_lines i [] t = refl
  rows_lines i (r ∷ rs) t =
      let both = and_yes (f i r) _ t in
      let same = told i r both.0 in
      rw (same.0, same.1) (ap (if_so (marked st (cell i)) (cell_line (cell i) (value_at st (cell i)))) (rows_lines (suc i) rs both.1))

-- the names of a row of a group are those of the cell
named : ℕ → ℕ → ℕ → Row SubAddress → Bool
named t u i r = eqb r.cell.0 i && (eqb t (type_of (cell i)) && (eqb u (sub_type_of (cell i)) && eqb r.name.0 (address_of (cell i)).0))

named_line : (t u i : ℕ) (r : Row SubAddress) → T (named t u i r) → AsCell (line_3d t u) cell_line_3d i r
unfolding named cell_line_3d
named_line t u i r x =
    let a = and_yes (eqb r.cell.0 i) _ x in
    let b = and_yes (eqb t (type_of (cell i))) _ a.1 in
    let c = and_yes (eqb u (sub_type_of (cell i))) _ b.1 in
    let ty : t ≡ type_of (cell i) = eqb_yes b.0 in
    let sub : u ≡ sub_type_of (cell i) = eqb_yes c.0 in
    let name : r.name ≡ address_of (cell i) = ap (λ (n : ℕ). record { 0 = n }) (eqb_yes c.1) in
    (ap cell (eqb_yes a.0), rw (ty, sub, name))

-- and so is the offset of a video row
at_offset : ℕ → Row VideoOffset → Bool
at_offset i r = eqb r.cell.0 i && eqb r.name.0 (offset_of (cell i)).0

offset_line : (i : ℕ) (r : Row VideoOffset) → T (at_offset i r) → AsCell line_video cell_line_video i r
unfolding at_offset cell_line_video
offset_line i r x =
    let a = and_yes (eqb r.cell.0 i) _ x in
    let name : r.name ≡ offset_of (cell i) = ap (λ (n : ℕ). record { 0 = n }) (eqb_yes a.1) in
    (ap cell (eqb_yes a.0), rw name)

-- ---- sections, of video registers or of 3D ones

-- the line of a cell of a kind
abbrev line_of : Bool → Cell → ℕ → List ℕ
line_of false = cell_line_3d
line_of true = cell_line_video

-- the section is of that kind, and each of its rows is the cell of its number
section_test : Bool → ℕ → Section → Bool
section_test false i (of_3d G) = numbered (named G.type G.sub_type) i G.rows
section_test true i (of_video rs) = numbered at_offset i rs
section_test false i (of_video rs) = false
section_test true i (of_3d G) = false

sections_test : Bool → ℕ → List Section → Bool
sections_test video i [] = true
sections_test video i (s ∷ ss) = section_test video i s && sections_test video (i + rows_in s) ss

-- the sections of either kind pass
tested : T (sections_test false 0 sections_3d && sections_test true first_video sections_video)
unfolding sections_test section_test numbered named at_offset type_of sub_type_of address_of offset_of target_group stage sample overlay scaler from
tested = tt

module _ (st : List ℕ) where
  -- the lines of a section are those of its cells,
  section_lines_lem : (video : Bool) (i : ℕ) (s : Section) → T (section_test video i s) → lines_in st s ≡ lines_from (line_of video) st i (rows_in s)
  unfolding section_test
  section_lines_lem false i (of_3d G) t =
      rows_lines (named G.type G.sub_type) (line_3d G.type G.sub_type) cell_line_3d (named_line G.type G.sub_type) st i G.rows t
  section_lines_lem true i (of_video rs) t = rows_lines at_offset line_video cell_line_video offset_line st i rs t
  section_lines_lem false i (of_video rs) t = absurd t
  section_lines_lem true i (of_3d G) t = absurd t

  -- and so for sections one after another
  sections_lines : (video : Bool) (i : ℕ) (ss : List Section) → T (sections_test video i ss) → lines_among st ss ≡ lines_from (line_of video) st i (rows_among ss)
  unfolding lines_among rows_among lines_from sections_test
  sections_lines video i [] t = refl
  sections_lines video i (s ∷ ss) t =
      let both = and_yes (section_test video i s) _ t in
      ap₂ (λ (x y : List (List ℕ)). x ++ y) (section_lines_lem video i s both.0) (sections_lines video (i + rows_in s) ss both.1)
      ∙ lines_add (line_of video) st i (rows_in s) (rows_among ss)

  among_append : (ss ts : List Section) → lines_among st (ss ++ ts) ≡ lines_among st ss ++ lines_among st ts
  unfolding lines_among
  among_append [] ts = refl
  among_append (s ∷ ss) ts =
      ap (λ (x : List (List ℕ)). lines_in st s ++ x) (among_append ss ts) ∙ sym (append_assoc (lines_in st s) (lines_among st ss) (lines_among st ts))

rows_3d : rows_among sections_3d ≡ first_video
unfolding rows_among target_group stage sample from
rows_3d = refl

rows_video : rows_among sections_video ≡ end_video - first_video
unfolding rows_among overlay scaler
rows_video = refl

-- the lines of the 3D cells, then those of the video cells
pub in_cell_order : (st : List ℕ) → cell_lines st ≡ lines_from cell_line_3d st 0 first_video ++ lines_from cell_line_video st first_video (end_video - first_video)
unfolding cell_lines sections
in_cell_order st =
    let both = and_yes (sections_test false 0 sections_3d) _ tested in
    among_append st sections_3d sections_video
    ∙ ap₂ (λ (x y : List (List ℕ)). x ++ y)
    (sections_lines st false 0 sections_3d both.0 ∙ ap (lines_from cell_line_3d st 0) rows_3d)
    (sections_lines st true first_video sections_video both.1 ∙ ap (lines_from cell_line_video st first_video) rows_video)
