-- The lines by cell number are those of the table.
-- Assumes nothing.
use mathlib.Core.Path.{◌≡◌, refl, ap}
use mathlib.Core.List.{◌∷◌, ◌++◌, map}
use Prim.Native.Nat.{ℕ, zero, suc, ◌+◌, ◌-◌, ◌/◌, ◌≤◌, ◌<◌, ◌^◌}
use native.Mathlib.Omega.{arith}
use native.Mathlib.Decide.{dec_lt}
use borrow.Author.Tests.{le-leb, lt-leb}
use lib.Dec.{T, eqb}
use lib.ListN.{length}
use mir.Facts.{eqb_yes}
use Rattle.laws.specs.Lists.{every, from}
use Rattle.laws.proofs.Lists.{every_from}
use Rattle.meaning.specs.Words.{Word}
use Rattle.meaning.specs.Registers.{cells, first_video, end_video, cell, target_group, stage, sample, overlay, scaler, sections, register_among, register_in, register_at}
use Rattle.meaning.specs.Text.{ascii}
use Rattle.meaning.specs.Lister.{digit, hex}
use Rattle.meaning.specs.ListingReader.{Line, table_lines}
use Rattle.registers.specs.Names.{type_of, sub_type_of, address_of, offset_of}
use Rattle.lines.specs.Lines.{cell_line_3d, cell_line_video}
use Rattle.listings.specs.Lines.{name_3d, name_video, line_for, lines_from}
use Rattle.listings.proofs.Texts.{text_of}

pub by_number : table_lines ≡ lines_from 0
unfolding table_lines lines_from line_for name_3d name_video sections target_group stage sample overlay scaler from hex digit type_of sub_type_of address_of offset_of
by_number = refl

pub lines_next : (c : ℕ) → c < cells → lines_from c ≡ line_for c ∷ lines_from (c + 1)
unfolding lines_from from
lines_next c l =
    let e : cells - c ≡ suc (cells - (c + 1)) = omega arith in
    let s : c + 1 ≡ suc c = omega arith in
    rw (e, s)

length_from : (f : ℕ → Line) (i n : ℕ) → length (map f (from i n)) ≡ n
unfolding from
length_from f i zero = refl
length_from f i (suc n) = ap suc (length_from f (suc i) n)

pub lines_left : (c : ℕ) → length (lines_from c) ≡ cells - c
unfolding lines_from
lines_left c = length_from line_for c (cells - c)

-- ---- the line of a cell

pub line_3d_lem : (c : ℕ) → c < first_video → line_for c ≡ record { cell = cell c; before = name_3d c ++ ascii " val=00"; digits = 6 }
unfolding line_for
line_3d_lem c l = rw (le-leb c 83 (omega arith))

pub line_video_lem : (c : ℕ) → first_video ≤ c → line_for c ≡ record { cell = cell c; before = name_video c ++ ascii " val="; digits = 8 }
unfolding line_for
line_video_lem c l = rw (lt-leb c 83 (omega arith))

pub line_cell : (c : ℕ) → (line_for c).cell ≡ cell c
line_cell c = elim (dec_lt c first_video) [
  | yes l ↦ rw (line_3d_lem c l)
  | no n ↦ rw (line_video_lem c (omega arith))
]

-- ---- the width of its register

widths : T (every (λ c. eqb (register_at (cell c)).width 24) (from 0 first_video)) × T (every (λ c. eqb (register_at (cell c)).width 32) (from first_video (end_video - first_video)))
unfolding every from register_at register_in register_among sections target_group stage sample overlay scaler
widths = (tt, tt)

pub width_3d : (c : ℕ) → c < first_video → (register_at (cell c)).width ≡ 24
width_3d c l = eqb_yes (every_from (λ c. eqb (register_at (cell c)).width 24) 0 first_video widths.0 c (omega arith) (omega arith))

pub width_video : (c : ℕ) → first_video ≤ c → c < end_video → (register_at (cell c)).width ≡ 32
width_video c l h = eqb_yes (every_from (λ c. eqb (register_at (cell c)).width 32) first_video (end_video - first_video) widths.1 c l (omega arith))

-- every value that fits its register is a word
pub value_word : (c v : ℕ) → c < cells → v < 2 ^ (register_at (cell c)).width → Word v
value_word c v l n = elim (dec_lt c first_video) [
  | yes h ↦ omega (arith, rw (width_3d c h) at n)
  | no h ↦ rw (width_video c (omega arith) l) at n
]

-- ---- its text

-- a value of 24 bits has no digits above the sixth
pub text_3d : (c v : ℕ) → c < first_video → v < 2 ^ 24 → cell_line_3d (cell c) v ≡ text_of (line_for c) v
unfolding cell_line_3d name_3d hex digit
text_3d c v l h =
    let a : v / 268435456 ≡ 0 = omega arith in
    let b : v / 16777216 ≡ 0 = omega arith in
    rw (line_3d_lem c l, a, b)

pub text_video : (c v : ℕ) → first_video ≤ c → cell_line_video (cell c) v ≡ text_of (line_for c) v
unfolding cell_line_video name_video hex
text_video c v l = rw (line_video_lem c l)
