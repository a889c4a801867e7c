-- Each row is found by its name, at its cell, and the cells are numbered as the rows stand: one test over the table.
-- Assumes nothing.
use Rattle.std.specs.Prelude.{Option, Some, None}
use mathlib.Core.Path.{◌≡◌, refl, ap, ◌∙◌}
use mathlib.Core.Bool.{Bool, true, false, ◌&&◌, cond}
use mathlib.Core.List.{List, [], ◌∷◌}
use Prim.Native.Nat.{ℕ, suc, ◌+◌, ◌<◌, ◌≤◌}
use native.Mathlib.Omega.{arith}
use borrow.Author.Tests.{eq-eqb, ne_eqb}
use lib.Dec.{T, ltb, leb, eqb}
use lib.ListN.{length}
use mir.Facts.{and_yes, eqb_yes, ltb_yes, leb_yes}
use Rattle.laws.specs.Lists.{All, some, from}
use Rattle.laws.proofs.Lists.{all_both}
use Rattle.meaning.specs.declared.Cell.{Cell}
use Rattle.meaning.specs.declared.SubAddress.{SubAddress}
use Rattle.meaning.specs.declared.VideoOffset.{VideoOffset}
use Rattle.meaning.specs.Registers.{cells, cell, Register, register_among, register_in, register_at, Row, Group, Section, of_3d, of_video, target_group, stage, sample, overlay, scaler, sections, find, find_among, find_3d, find_offset, find_video, first_found}
use Rattle.meaning.specs.Batch.{allowed_types, type_allowed}

-- row i: it bears number i and is found by its name, which is less than `names`; its register is so wide
pub record RowAt (Name : Type 0) (key : Name → ℕ) (look : Name → Option Cell) (names wide i : ℕ) (r : Row Name) : Type 0 where
  pub numbered : r.cell ≡ cell i
  pub found : look r.name ≡ Some (cell i)
  pub short : key r.name < names
  pub width : (register_at (cell i)).width ≡ wide
  pub high : i < cells

abbrev pub Row3D : ℕ → ℕ → ℕ → Row SubAddress → Type 0
Row3D t u = RowAt SubAddress (λ a. a.0) (find_3d t u) 256 24

abbrev pub RowVideo : ℕ → Row VideoOffset → Type 0
RowVideo = RowAt VideoOffset (λ o. o.0) find_video 65536 32

-- a property of each row and its number, from number i on
abbrev pub Rows : {Name : Type 0} → (ℕ → Row Name → Type 0) → ℕ → List (Row Name) → Type 0
Rows P i [] = Unit {0}
Rows P i (r ∷ rs) = P i r × Rows P (suc i) rs

pub record GroupAt (i : ℕ) (G : Group) : Type 0 where
  pub rows : Rows (Row3D G.type G.sub_type) i G.rows
  pub permitted : T (type_allowed G.type G.sub_type)
  pub type : G.type < 256
  pub sub_type : G.sub_type < 256
  pub few : length G.rows ≤ 112

-- section by section: the cells go on where the section before them ends
abbrev pub SectionAt : ℕ → Section → Type 0
SectionAt i (of_3d G) = GroupAt i G
SectionAt i (of_video rs) = Rows RowVideo i rs

abbrev pub rows_in : Section → ℕ
rows_in (of_3d G) = length G.rows
rows_in (of_video rs) = length rs

abbrev pub Sections : ℕ → List Section → Type 0
Sections i [] = Unit {0}
Sections i (s ∷ ss) = SectionAt i s × Sections (i + rows_in s) ss

-- how many rows there are
unfoldable pub rows_among : List Section → ℕ
rows_among [] = 0
rows_among (s ∷ ss) = rows_in s + rows_among ss

-- ---- the tests

-- a lookup found the cell of a number
unfoldable pub is_at : ℕ → Option Cell → Bool
is_at i (Some c) = eqb c.0 i
is_at i None = false

pub is_at_lem : (i : ℕ) (f : Option Cell) → T (is_at i f) → f ≡ Some (cell i)
unfolding is_at
is_at_lem i (Some c) t = ap (λ (n : ℕ). Some (cell n)) (eqb_yes t)
is_at_lem i None t = absurd t

module _ {Name : Type 0} (key : Name → ℕ) (look : Name → Option Cell) (names wide : ℕ) where
  row_test : ℕ → Row Name → Bool
  row_test i r = eqb r.cell.0 i && (is_at i (look r.name) && (ltb (key r.name) names && (eqb (register_at (cell i)).width wide && ltb i cells)))

  rows_test : ℕ → List (Row Name) → Bool
  rows_test i [] = true
  rows_test i (r ∷ rs) = row_test i r && rows_test (suc i) rs

  row_at : (i : ℕ) (r : Row Name) → T (row_test i r) → RowAt Name key look names wide i r
  unfolding row_test
  row_at i r t =
      let a = and_yes (eqb r.cell.0 i) _ t in
      let b = and_yes (is_at i (look r.name)) _ a.1 in
      let c = and_yes (ltb (key r.name) names) _ b.1 in
      let d = and_yes (eqb (register_at (cell i)).width wide) _ c.1 in
      record {
        numbered = ap cell (eqb_yes a.0);
        found = is_at_lem i (look r.name) b.0;
        short = ltb_yes c.0;
        width = eqb_yes d.0;
        high = ltb_yes d.1;
      }

  rows_at : (i : ℕ) (rs : List (Row Name)) → T (rows_test i rs) → Rows (RowAt Name key look names wide) i rs
  unfolding rows_test
  rows_at i [] t = tt
  rows_at i (r ∷ rs) t = let b = and_yes (row_test i r) _ t in (row_at i r b.0, rows_at (suc i) rs b.1)

group_test : ℕ → Group → Bool
group_test i G =
    rows_test (λ (a : SubAddress). a.0) (find_3d G.type G.sub_type) 256 24 i G.rows
    && (type_allowed G.type G.sub_type && (ltb G.type 256 && (ltb G.sub_type 256 && leb (length G.rows) 112)))

video_test : ℕ → List (Row VideoOffset) → Bool
video_test = rows_test (λ (o : VideoOffset). o.0) find_video 65536 32

section_test : ℕ → Section → Bool
section_test i (of_3d G) = group_test i G
section_test i (of_video rs) = video_test i rs

sections_test : ℕ → List Section → Bool
sections_test i [] = true
sections_test i (s ∷ ss) = section_test i s && sections_test (i + rows_in s) ss

group_at_lem : (i : ℕ) (G : Group) → T (group_test i G) → GroupAt i G
unfolding group_test
group_at_lem i G t =
    let a = and_yes (rows_test (λ (a : SubAddress). a.0) (find_3d G.type G.sub_type) 256 24 i G.rows) _ t in
    let b = and_yes (type_allowed G.type G.sub_type) _ a.1 in
    let c = and_yes (ltb G.type 256) _ b.1 in
    let d = and_yes (ltb G.sub_type 256) _ c.1 in
    record {
      rows = rows_at (λ (a : SubAddress). a.0) (find_3d G.type G.sub_type) 256 24 i G.rows a.0;
      permitted = b.0;
      type = ltb_yes c.0;
      sub_type = ltb_yes d.0;
      few = leb_yes d.1;
    }

section_at : (i : ℕ) (s : Section) → T (section_test i s) → SectionAt i s
unfolding section_test video_test
section_at i (of_3d G) t = group_at_lem i G t
section_at i (of_video rs) t = rows_at (λ (o : VideoOffset). o.0) find_video 65536 32 i rs t

sections_at : (i : ℕ) (ss : List Section) → T (sections_test i ss) → Sections i ss
unfolding sections_test
sections_at i [] t = tt
sections_at i (s ∷ ss) t = let b = and_yes (section_test i s) _ t in (section_at i s b.0, sections_at (i + rows_in s) ss b.1)

-- THE TEST, over the whole table
tested : T (sections_test 0 sections)
unfolding sections_test section_test group_test video_test rows_test row_test is_at find_3d find_among find_video find_offset find register_at register_in register_among sections target_group stage sample overlay scaler from some allowed_types type_allowed
tested = tt

-- ---- what it shows

pub table : Sections 0 sections
table = sections_at 0 sections tested

-- the sections have all cells
pub all_rows : rows_among sections ≡ cells
unfolding rows_among sections target_group stage sample overlay scaler from
all_rows = refl

-- ---- the register of a row's cell is the row's: the cells are numbered as the rows stand, so no other row has the number

module _ {Name : Type 0} where
  -- rows whose cells are numbered from i on
  abbrev Numbered : ℕ → List (Row Name) → Type 0
  Numbered = Rows (λ j r. r.cell ≡ cell j)

  -- where the number is one thing known of each row among others
  numbered_of : (P : ℕ → Row Name → Type 0) → ((j : ℕ) (r : Row Name) → P j r → r.cell ≡ cell j) → (i : ℕ) (rs : List (Row Name)) → Rows P i rs → Numbered i rs
  numbered_of P h i [] a = tt
  numbered_of P h i (r ∷ rs) a = (h i r a.0, numbered_of P h (suc i) rs a.1)

  -- what holds from number i on holds of each
  from_on : (Q : Row Name → Type 0) (i : ℕ) (rs : List (Row Name)) → ((r : Row Name) → i ≤ r.cell.0 → Q r) → Numbered i rs → All Q rs
  from_on Q i [] h a = tt
  from_on Q i (r ∷ rs) h a =
      let e : r.cell.0 ≡ i = ap (λ (c : Cell). c.0) a.0 in
      (h r (omega arith), from_on Q (suc i) rs (λ q l. h q (omega arith)) a.1)

  -- each is found by its number
  own : (other : Cell → Register) (i : ℕ) (rs : List (Row Name)) → Numbered i rs → All (λ r. register_among r.cell rs (other r.cell) ≡ r.register) rs
  unfolding register_among
  own other i [] a = tt
  own other i (r ∷ rs) a =
      let e : r.cell.0 ≡ i = ap (λ (c : Cell). c.0) a.0 in (
        rw (eq-eqb r.cell.0 r.cell.0 refl),
        all_both _ _ _ (λ q l x. rw (ne_eqb q.cell.0 r.cell.0 (λ y. omega arith)) x) rs
            (from_on (λ q. suc i ≤ q.cell.0) (suc i) rs (λ q l. l) a.1) (own other (suc i) rs a.1),
      )

  -- a number past theirs is none of them
  past : (other : Register) (c : Cell) (i : ℕ) (rs : List (Row Name)) → Numbered i rs → i + length rs ≤ c.0 → register_among c rs other ≡ other
  unfolding register_among
  past other c i [] a h = refl
  past other c i (r ∷ rs) a h =
      let e : r.cell.0 ≡ i = ap (λ (c : Cell). c.0) a.0 in
      rw (ne_eqb c.0 r.cell.0 (λ y. omega arith)) (past other c (suc i) rs a.1 (omega arith))

-- registers by cell, of which each row has its own
abbrev pub OwnIn : (Cell → Register) → Section → Type 0
OwnIn reg (of_3d G) = All (λ r. reg r.cell ≡ r.register) G.rows
OwnIn reg (of_video rs) = All (λ r. reg r.cell ≡ r.register) rs

-- the cells of a section are numbered
numbered_3d : (i : ℕ) (G : Group) → GroupAt i G → Numbered i G.rows
numbered_3d i G a = numbered_of (Row3D G.type G.sub_type) (λ j r x. x.numbered) i G.rows a.rows

numbered_video : (i : ℕ) (rs : List (Row VideoOffset)) → Rows RowVideo i rs → Numbered i rs
numbered_video i rs a = numbered_of RowVideo (λ j r x. x.numbered) i rs a

own_here : (i : ℕ) (s : Section) (ss : List Section) → SectionAt i s → OwnIn (λ c. register_in c (s ∷ ss)) s
unfolding register_in
own_here i (of_3d G) ss a = own (λ c. register_in c ss) i G.rows (numbered_3d i G a)
own_here i (of_video rs) ss a = own (λ c. register_in c ss) i rs (numbered_video i rs a)

past_here : (i : ℕ) (s : Section) (ss : List Section) → SectionAt i s → (c : Cell) → i + rows_in s ≤ c.0 → register_in c (s ∷ ss) ≡ register_in c ss
unfolding register_in
past_here i (of_3d G) ss a c h = past (register_in c ss) c i G.rows (numbered_3d i G a) h
past_here i (of_video rs) ss a c h = past (register_in c ss) c i rs (numbered_video i rs a) h

own_past : (i : ℕ) (s : Section) (f g : Cell → Register) → ((c : Cell) → i ≤ c.0 → g c ≡ f c) → SectionAt i s → OwnIn f s → OwnIn g s
own_past i (of_3d G) f g same a o = all_both _ _ _ (λ r e x. e ∙ x) G.rows (from_on (λ r. g r.cell ≡ f r.cell) i G.rows (λ r l. same r.cell l) (numbered_3d i G a)) o
own_past i (of_video rs) f g same a o = all_both _ _ _ (λ r e x. e ∙ x) rs (from_on (λ r. g r.cell ≡ f r.cell) i rs (λ r l. same r.cell l) (numbered_video i rs a)) o

owns_past : (i : ℕ) (ss : List Section) (f g : Cell → Register) → ((c : Cell) → i ≤ c.0 → g c ≡ f c) → Sections i ss → All (OwnIn f) ss → All (OwnIn g) ss
owns_past i [] f g same a o = tt
owns_past i (s ∷ ss) f g same a o =
    (own_past i s f g same a.0 o.0, owns_past (i + rows_in s) ss f g (λ c l. same c (omega arith)) a.1 o.1)

owns : (i : ℕ) (ss : List Section) → Sections i ss → All (OwnIn (λ c. register_in c ss)) ss
owns i [] a = tt
owns i (s ∷ ss) a =
    (own_here i s ss a.0, owns_past (i + rows_in s) ss (λ c. register_in c ss) (λ c. register_in c (s ∷ ss)) (past_here i s ss a.0) a.1 (owns (i + rows_in s) ss a.1))

pub own_registers : All (OwnIn register_at) sections
unfolding register_at
own_registers = owns 0 sections table

-- ---- what a lookup finds

-- what holds of each row's cell holds of the cell that is found
abbrev pub Of : (Cell → Type 0) → Option Cell → Type 0
Of Q (Some c) = Q c
Of Q None = Unit {0}

pub pick_of : (Q : Cell → Type 0) (b : Bool) (x y : Option Cell) → Of Q x → Of Q y → Of Q (cond b x y)
pick_of Q true x y p q = p
pick_of Q false x y p q = q

pub found_of : {Name : Type 0} (Q : Cell → Type 0) (is : Name → Bool) (rs : List (Row Name)) → All (λ r. Q r.cell) rs → Of Q (find is rs)
unfolding find
found_of Q is [] a = tt
found_of Q is (r ∷ rs) a = pick_of Q (is r.name) (Some r.cell) (find is rs) a.0 (found_of Q is rs a.1)

-- of two lookups, the first that finds something
first_of : (Q : Cell → Type 0) (x y : Option Cell) → Of Q x → Of Q y → Of Q (first_found x y)
first_of Q (Some c) y p q = p
first_of Q None y p q = q

-- a property of the rows that a lookup by name goes through
abbrev pub Rows3D : (Row SubAddress → Type 0) → Section → Type 0
Rows3D P (of_3d G) = All P G.rows
Rows3D P (of_video rs) = Unit {0}

abbrev pub RowsVideo : (Row VideoOffset → Type 0) → Section → Type 0
RowsVideo P (of_3d G) = Unit {0}
RowsVideo P (of_video rs) = All P rs

pub found_3d_of : (Q : Cell → Type 0) (t u : ℕ) (a : SubAddress) (ss : List Section) → All (Rows3D (λ r. Q r.cell)) ss → Of Q (find_among t u a ss)
unfolding find_among
found_3d_of Q t u a [] b = tt
found_3d_of Q t u a (of_3d G ∷ ss) b =
    pick_of Q (eqb t G.type && eqb u G.sub_type) (find _ G.rows) _ (found_of Q _ G.rows b.0) (found_3d_of Q t u a ss b.1)
found_3d_of Q t u a (of_video rs ∷ ss) b = found_3d_of Q t u a ss b.1

pub found_video_of : (Q : Cell → Type 0) (o : VideoOffset) (ss : List Section) → All (RowsVideo (λ r. Q r.cell)) ss → Of Q (find_offset o ss)
unfolding find_offset
found_video_of Q o [] b = tt
found_video_of Q o (of_3d G ∷ ss) b = found_video_of Q o ss b.1
found_video_of Q o (of_video rs ∷ ss) b = first_of Q (find _ rs) (find_offset o ss) (found_of Q _ rs b.0) (found_video_of Q o ss b.1)
