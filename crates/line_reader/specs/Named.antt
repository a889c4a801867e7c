-- Which cell has its name in these bytes, four of them as a word, the first lowest; as the code's `match` asks it. proofs/Names ties it to the
-- names that the lines have.
-- Assumes nothing.
use Rattle.std.specs.Prelude.{cond, List, map, ℕ, ◌+◌, ◌*◌, ◌-◌, ◌/◌, ◌%◌, ltb, eqb, Option, Some, None}
use Rattle.laws.specs.Lists.{from}
use Rattle.laws.specs.Tests.{within}

-- what a hex digit counts; 16 for any other byte
unfoldable pub digit_or_16 : ℕ → ℕ
digit_or_16 x = cond (within 48 57 x) (x - 48) (cond (within 97 102 x) (x - 87) 16)

-- the same of each byte
unfoldable pub digit_table : List ℕ
digit_table = map digit_or_16 (from 0 256)

-- what a byte counts as a hex digit, if it is one
unfoldable pub hex_digit : ℕ → Option ℕ
hex_digit x = cond (ltb 15 (digit_or_16 x)) None (Some (digit_or_16 x))

-- the 3D cell of a name as `01.0` and `0.3f`, whose digit n is told
unfoldable pub cell_3d_by : ℕ → ℕ → ℕ → Option ℕ
cell_3d_by n kind name =
    cond (eqb kind 0x302E3130)
    (cond (eqb name 0x66332E30) (Some 0)
    (cond (eqb name 0x30352E30) (Some 1)
    (cond (eqb name 0x31352E30) (Some 2)
    (cond (eqb name 0x32352E30) (Some 3) None))))
    (cond (eqb kind 0x302E3230)
    (cond (eqb (name / 256) 0x30352E) (Some (4 + 2 * n))
    (cond (eqb (name / 256) 0x31352E) (Some (5 + 2 * n)) None))
    (cond (eqb kind 0x322E3230)
    (cond (eqb (name / 256) 0x30332E) (Some (36 + 3 * n))
    (cond (eqb (name / 256) 0x31332E) (Some (37 + 3 * n))
    (cond (eqb (name / 256) 0x32332E) (Some (38 + 3 * n)) None)))
    None))

-- which is the first byte of its second half
unfoldable pub cell_3d_of : ℕ → ℕ → Option ℕ
cell_3d_of kind name = cond (ltb 15 (digit_or_16 (name % 256))) None (cell_3d_by (digit_or_16 (name % 256)) kind name)

-- the video cell of an offset of four digits
unfoldable pub cell_video_of : ℕ → Option ℕ
cell_video_of o =
    cond (eqb o 0x38303232) (Some 84)
    (cond (eqb o 0x63303232) (Some 85)
    (cond (eqb o 0x30313232) (Some 86)
    (cond (eqb o 0x34653332) (Some 87)
    (cond (eqb o 0x38653332) (Some 88)
    (cond (eqb o 0x63653332) (Some 89)
    (cond (eqb o 0x30663332) (Some 90)
    (cond (eqb o 0x34663332) (Some 91)
    (cond (eqb o 0x38663332) (Some 92)
    (cond (eqb o 0x63663332) (Some 93)
    (cond (eqb o 0x34653333) (Some 94)
    (cond (eqb o 0x38653333) (Some 95)
    (cond (eqb o 0x63653333) (Some 96)
    (cond (eqb o 0x30663333) (Some 97)
    (cond (eqb o 0x34663333) (Some 98)
    (cond (eqb o 0x38663333) (Some 99)
    (cond (eqb o 0x63663333) (Some 100) None))))))))))))))))
