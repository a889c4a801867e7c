-- The line of a cell, by the cell's own name.
-- Assumes nothing.
use Rattle.std.specs.Prelude.{List, ◌++◌, map, ℕ}
use Rattle.laws.specs.Lists.{join, from}
use Rattle.meaning.specs.declared.Cell.{Cell}
use Rattle.meaning.specs.Text.{ascii}
use Rattle.meaning.specs.Lister.{hex, line_3d, line_video}
use Rattle.registers.specs.Names.{type_of, sub_type_of, address_of, offset_of}

-- the two digits of each byte, from 00 to ff
unfoldable pub digit_pairs : List ℕ
digit_pairs = join (map (hex 2) (from 0 256))

-- the end of a line: the value
abbrev pub value_text : ℕ → List ℕ
value_text v = ascii " val=" ++ (hex 8 v ++ ascii "\n")

-- the line of a 3D cell,
unfoldable pub cell_line_3d : Cell → ℕ → List ℕ
cell_line_3d c v = line_3d (type_of c) (sub_type_of c) (address_of c) v

-- and of a video cell
unfoldable pub cell_line_video : Cell → ℕ → List ℕ
cell_line_video c v = line_video (offset_of c) v
