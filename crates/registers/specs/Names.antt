-- The names of the cells, and the runs of video registers: the table read from the cell's side. proofs/Names ties them to the table.
-- Assumes nothing.
use Rattle.std.specs.Prelude.{◌&&◌, cond, ℕ, ◌+◌, ◌*◌, ◌-◌, ◌/◌, ◌%◌, leb, ltb, eqb, Option, Some, None}
use Rattle.meaning.specs.declared.Cell.{Cell}
use Rattle.meaning.specs.Registers.{cell}
use Rattle.meaning.specs.declared.SubAddress.{SubAddress}
use Rattle.meaning.specs.declared.VideoOffset.{VideoOffset}
use Rattle.registers.specs.declared.Name.{Name}

-- the type of a 3D cell,
unfoldable pub type_of : Cell → ℕ
type_of c = cond (leb c.0 3) 0x01 0x02

-- its sub-type,
unfoldable pub sub_type_of : Cell → ℕ
sub_type_of c = cond (leb c.0 3) 0x00 (cond (leb c.0 35) ((c.0 - 4) / 2) (0x20 + (c.0 - 36) / 3))

-- and its sub-address
unfoldable pub address_of : Cell → SubAddress
address_of c =
    cond (eqb c.0 0) (record { 0 = 0x3F })
    (cond (leb c.0 3) (record { 0 = 0x4F + c.0 })
    (cond (leb c.0 35) (record { 0 = 0x50 + (c.0 - 4) % 2 }) (record { 0 = 0x30 + (c.0 - 36) % 3 })))

-- all three
unfoldable pub name_of : Cell → Name
name_of c = record { ty = type_of c; sub = sub_type_of c; address = address_of c }

-- the offset of a video cell
unfoldable pub offset_of : Cell → VideoOffset
offset_of c =
    cond (leb c.0 86) (record { 0 = 0x2208 + 4 * (c.0 - 84) })
    (cond (leb c.0 93) (record { 0 = 0x23E4 + 4 * (c.0 - 87) }) (record { 0 = 0x33E4 + 4 * (c.0 - 94) }))

-- how many video registers stand in a row from a cell on
unfoldable pub row_from : Cell → ℕ
row_from c = cond (leb c.0 86) (87 - c.0) (cond (leb c.0 93) (94 - c.0) (101 - c.0))

-- a cell, where a name lies among the n that follow one another from lo on, the first of them the name of cell c
abbrev pub ranged : ℕ → ℕ → ℕ → ℕ → Option Cell
ranged lo n c a = cond (leb lo a && ltb a (lo + n)) (Some (cell (c + (a - lo)))) None
