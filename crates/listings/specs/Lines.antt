-- The lines by cell number, as the code reads them. proofs/Numbers ties them to the table's.
-- Assumes nothing.
use Rattle.std.specs.Prelude.{◌≡◌, cond, List, ◌++◌, map, ℕ, zero, suc, ◌-◌, ◌<◌, ◌^◌, max, leb, length, take}
use Rattle.laws.specs.Lists.{from}
use Rattle.meaning.specs.Registers.{cells, cell, register_at}
use Rattle.meaning.specs.Text.{ascii}
use Rattle.meaning.specs.Lister.{hex}
use Rattle.meaning.specs.ListingReader.{Line, along, form_of}
use Rattle.registers.specs.Names.{type_of, sub_type_of, address_of, offset_of}
use Rattle.lines.specs.Lines.{value_text}

-- the name in front of the line of a 3D cell,
unfoldable pub name_3d : ℕ → List ℕ
name_3d c = ascii "reg=" ++ (hex 2 (type_of (cell c)) ++ (ascii "." ++ (hex 2 (sub_type_of (cell c)) ++ (ascii "." ++ hex 2 (address_of (cell c)).0))))

-- of a video cell,
unfoldable pub name_video : ℕ → List ℕ
name_video c = ascii "reg=" ++ hex 4 (offset_of (cell c)).0

-- and of any
unfoldable pub name_text : ℕ → List ℕ
name_text c = cond (leb c 83) (name_3d c) (name_video c)

-- the line of a cell with a value
abbrev pub line_text : ℕ → ℕ → List ℕ
line_text c v = name_text c ++ value_text v

-- it stands at the front of a text, and the value fits
pub record LineHere (xs : List ℕ) (c v : ℕ) : Type 0 where
  pub narrow : v < 2 ^ (register_at (cell c)).width
  pub same : take (length (line_text c v)) xs ≡ line_text c v

-- the lines that a cell may have: of a 3D cell two digits are 0, and six are free
unfoldable pub line_for : ℕ → Line
line_for c =
    cond (leb c 83)
    (record { cell = cell c; before = name_3d c ++ ascii " val=00"; digits = 6 })
    (record { cell = cell c; before = name_video c ++ ascii " val="; digits = 8 })

-- those of the cells from c on
unfoldable pub lines_from : ℕ → List Line
lines_from c = map line_for (from c (cells - c))

-- the most bytes of a text that follow the line of one of n cells from c on
unfoldable pub furthest_of : ℕ → ℕ → List ℕ → ℕ
furthest_of c zero xs = 0
furthest_of c (suc n) xs = max (along (form_of (line_for c)) xs) (furthest_of (suc c) n xs)
