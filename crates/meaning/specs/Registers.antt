-- The 101 registers: the table of docs/RULES.md, column by column, and the format bytes.
-- Assumes nothing.
use Rattle.std.specs.Prelude.{Bool, true, false, not, ◌&&◌, ◌||◌, cond, List, [], ◌∷◌, ◌++◌, map, ℕ, ◌+◌, ◌*◌, ltb, leb, eqb, Option, Some, None}
use Rattle.laws.specs.Lists.{join, from}
use Rattle.laws.specs.Tests.{implies, one_of}
use Rattle.meaning.specs.declared.Cell.{Cell}
use Rattle.meaning.specs.declared.SubAddress.{SubAddress}
use Rattle.meaning.specs.declared.VideoOffset.{VideoOffset}
use Rattle.meaning.specs.Words.{bits}

-- R18 "There are 101 registers."
abbrev pub cells : ℕ
cells = 101

-- R9 "84, 85 | 2208, 220C": the video registers have the cells from 84 on,
abbrev pub first_video : ℕ
first_video = 84

-- R17 "94 to 100 | 33E4 to 33FC": to before 101
abbrev pub end_video : ℕ
end_video = 101

-- the cell of a number
abbrev pub cell : ℕ → Cell
cell n = record { 0 = n }

-- ---- format bytes

-- F1 "a code of five bits in 23:19, and one of three bits in 18:16": a code of the first kind, those of the second that go with it, and
-- bytes per pixel
pub record Format : Type 0 where
  pub code : ℕ
  pub with : List ℕ
  pub bytes : ℕ

-- a row of them
abbrev pub format : ℕ → List ℕ → ℕ → Format
format c w b = record { code = c; with = w; bytes = b }

-- the rows of the permitted ones; F9 "No other format byte is permitted: 39 are."
unfoldable pub formats : List Format
formats =
    -- F2 "00010 | 5, 6 | 2"
    format 0b00010 (5 ∷ 6 ∷ []) 2
    -- F3 "00110 | 0 | 2"
    ∷ format 0b00110 (0 ∷ []) 2
    -- F4 "10001, 10101, 11001, 11100 | 0, 1, 2, 3, 5 | 2"
    ∷ format 0b10001 (0 ∷ 1 ∷ 2 ∷ 3 ∷ 5 ∷ []) 2
    ∷ format 0b10101 (0 ∷ 1 ∷ 2 ∷ 3 ∷ 5 ∷ []) 2
    ∷ format 0b11001 (0 ∷ 1 ∷ 2 ∷ 3 ∷ 5 ∷ []) 2
    ∷ format 0b11100 (0 ∷ 1 ∷ 2 ∷ 3 ∷ 5 ∷ []) 2
    -- F5 "10011, 11011, 11101 | 0, 1, 2 | 4"
    ∷ format 0b10011 (0 ∷ 1 ∷ 2 ∷ []) 4
    ∷ format 0b11011 (0 ∷ 1 ∷ 2 ∷ []) 4
    ∷ format 0b11101 (0 ∷ 1 ∷ 2 ∷ []) 4
    -- F6 "10111 | 0, 1, 2, 3 | 4"
    ∷ format 0b10111 (0 ∷ 1 ∷ 2 ∷ 3 ∷ []) 4
    -- F7 "11110 | 0 | 2"
    ∷ format 0b11110 (0 ∷ []) 2
    -- F8 "11110 | 4, 5 | 4"
    ∷ format 0b11110 (4 ∷ 5 ∷ []) 4
    ∷ []

-- bytes per pixel by the first row that has the byte; 0 where none has it
unfoldable pub bytes_among : List Format → ℕ → ℕ
bytes_among [] b = 0
bytes_among (f ∷ fs) b = let more = bytes_among fs b in cond (eqb (bits 7 3 b) f.code && one_of (bits 2 0 b) f.with) f.bytes more

-- F10 "the bytes per pixel, and 0 where the byte is reserved": of a format byte
unfoldable pub bytes_per_pixel : ℕ → ℕ
bytes_per_pixel b = bytes_among formats b

-- F10 "For each of the 256 format bytes a constant table has the bytes per pixel": a line for each code of five bits
unfoldable pub format_table : List ℕ
format_table = join (
    (0 ∷ 0 ∷ 0 ∷ 0 ∷ 0 ∷ 0 ∷ 0 ∷ 0 ∷ [])
    ∷ (0 ∷ 0 ∷ 0 ∷ 0 ∷ 0 ∷ 0 ∷ 0 ∷ 0 ∷ [])
    ∷ (0 ∷ 0 ∷ 0 ∷ 0 ∷ 0 ∷ 2 ∷ 2 ∷ 0 ∷ [])
    ∷ (0 ∷ 0 ∷ 0 ∷ 0 ∷ 0 ∷ 0 ∷ 0 ∷ 0 ∷ [])
    ∷ (0 ∷ 0 ∷ 0 ∷ 0 ∷ 0 ∷ 0 ∷ 0 ∷ 0 ∷ [])
    ∷ (0 ∷ 0 ∷ 0 ∷ 0 ∷ 0 ∷ 0 ∷ 0 ∷ 0 ∷ [])
    ∷ (2 ∷ 0 ∷ 0 ∷ 0 ∷ 0 ∷ 0 ∷ 0 ∷ 0 ∷ [])
    ∷ (0 ∷ 0 ∷ 0 ∷ 0 ∷ 0 ∷ 0 ∷ 0 ∷ 0 ∷ [])
    ∷ (0 ∷ 0 ∷ 0 ∷ 0 ∷ 0 ∷ 0 ∷ 0 ∷ 0 ∷ [])
    ∷ (0 ∷ 0 ∷ 0 ∷ 0 ∷ 0 ∷ 0 ∷ 0 ∷ 0 ∷ [])
    ∷ (0 ∷ 0 ∷ 0 ∷ 0 ∷ 0 ∷ 0 ∷ 0 ∷ 0 ∷ [])
    ∷ (0 ∷ 0 ∷ 0 ∷ 0 ∷ 0 ∷ 0 ∷ 0 ∷ 0 ∷ [])
    ∷ (0 ∷ 0 ∷ 0 ∷ 0 ∷ 0 ∷ 0 ∷ 0 ∷ 0 ∷ [])
    ∷ (0 ∷ 0 ∷ 0 ∷ 0 ∷ 0 ∷ 0 ∷ 0 ∷ 0 ∷ [])
    ∷ (0 ∷ 0 ∷ 0 ∷ 0 ∷ 0 ∷ 0 ∷ 0 ∷ 0 ∷ [])
    ∷ (0 ∷ 0 ∷ 0 ∷ 0 ∷ 0 ∷ 0 ∷ 0 ∷ 0 ∷ [])
    ∷ (0 ∷ 0 ∷ 0 ∷ 0 ∷ 0 ∷ 0 ∷ 0 ∷ 0 ∷ [])
    ∷ (2 ∷ 2 ∷ 2 ∷ 2 ∷ 0 ∷ 2 ∷ 0 ∷ 0 ∷ [])
    ∷ (0 ∷ 0 ∷ 0 ∷ 0 ∷ 0 ∷ 0 ∷ 0 ∷ 0 ∷ [])
    ∷ (4 ∷ 4 ∷ 4 ∷ 0 ∷ 0 ∷ 0 ∷ 0 ∷ 0 ∷ [])
    ∷ (0 ∷ 0 ∷ 0 ∷ 0 ∷ 0 ∷ 0 ∷ 0 ∷ 0 ∷ [])
    ∷ (2 ∷ 2 ∷ 2 ∷ 2 ∷ 0 ∷ 2 ∷ 0 ∷ 0 ∷ [])
    ∷ (0 ∷ 0 ∷ 0 ∷ 0 ∷ 0 ∷ 0 ∷ 0 ∷ 0 ∷ [])
    ∷ (4 ∷ 4 ∷ 4 ∷ 4 ∷ 0 ∷ 0 ∷ 0 ∷ 0 ∷ [])
    ∷ (0 ∷ 0 ∷ 0 ∷ 0 ∷ 0 ∷ 0 ∷ 0 ∷ 0 ∷ [])
    ∷ (2 ∷ 2 ∷ 2 ∷ 2 ∷ 0 ∷ 2 ∷ 0 ∷ 0 ∷ [])
    ∷ (0 ∷ 0 ∷ 0 ∷ 0 ∷ 0 ∷ 0 ∷ 0 ∷ 0 ∷ [])
    ∷ (4 ∷ 4 ∷ 4 ∷ 0 ∷ 0 ∷ 0 ∷ 0 ∷ 0 ∷ [])
    ∷ (2 ∷ 2 ∷ 2 ∷ 2 ∷ 0 ∷ 2 ∷ 0 ∷ 0 ∷ [])
    ∷ (4 ∷ 4 ∷ 4 ∷ 0 ∷ 0 ∷ 0 ∷ 0 ∷ 0 ∷ [])
    ∷ (2 ∷ 0 ∷ 0 ∷ 0 ∷ 4 ∷ 4 ∷ 0 ∷ 0 ∷ [])
    ∷ (0 ∷ 0 ∷ 0 ∷ 0 ∷ 0 ∷ 0 ∷ 0 ∷ 0 ∷ [])
    ∷ []
    )

-- ---- the column Values, each rule under the maker's word for its fields; R23 "all else in that column is a value rule"

-- R5 "any"
abbrev pub any : ℕ → Bool
any v = true

-- R1 "bits 22:12 and bits 10:0 are each at most 1024"
unfoldable pub alpha_constants : ℕ → Bool
alpha_constants v = leb (bits 22 12 v) 1024 && leb (bits 10 0 v) 1024

-- R3 "bits 21:20 are at most 1"; R24 "By house choice, where the maker's guide allows more, bits 21:20 of 01.00.51 are 0 or 1"
unfoldable pub location : ℕ → Bool
location v = leb (bits 21 20 v) 1

-- R4 "bits 23:16 are a permitted format byte"
unfoldable pub format_byte : ℕ → Bool
format_byte v = ltb 0 (bytes_per_pixel (bits 23 16 v))

-- R6 "bits 11:6 and bits 5:0 are each at most 11"
unfoldable pub levels : ℕ → Bool
levels v = leb (bits 11 6 v) 11 && leb (bits 5 0 v) 11

-- R7 "both 2 or neither is": if one is 2, both are
abbrev pub both_two : ℕ → ℕ → Bool
both_two x y = implies (eqb x 2 || eqb y 2) (eqb x 2 && eqb y 2)

-- R7 "bits 20:16 are at most 16; bits 15:13, 12:10, 9:7 and 6:4 are each at most 3; bits 3:0 are 0, 1, 2 or 4; bits 15:13 and bits 9:7 are
-- both 2 or neither is; bits 12:10 and bits 6:4 are both 2 or neither is"
unfoldable pub filters : ℕ → Bool
filters v =
    leb (bits 20 16 v) 16
    && (leb (bits 15 13 v) 3
    && (leb (bits 12 10 v) 3
    && (leb (bits 9 7 v) 3
    && (leb (bits 6 4 v) 3
    && (one_of (bits 3 0 v) (0 ∷ 1 ∷ 2 ∷ 4 ∷ [])
    && (both_two (bits 15 13 v) (bits 9 7 v)
    && both_two (bits 12 10 v) (bits 6 4 v)))))))

-- R8 "0, 1, 2, 3 or 7"
abbrev pub mapping_code : ℕ → Bool
mapping_code x = leb x 3 || eqb x 7

-- R8 "bits 21:19 and bits 18:16 are each at most 1; bits 8:6, 5:3 and 2:0 are each 0, 1, 2, 3 or 7"
unfoldable pub mapping : ℕ → Bool
mapping v =
    leb (bits 21 19 v) 1
    && (leb (bits 18 16 v) 1
    && (mapping_code (bits 8 6 v)
    && (mapping_code (bits 5 3 v)
    && mapping_code (bits 2 0 v))))

-- R10 "bits 1:0 are not 3"
unfoldable pub alpha_select : ℕ → Bool
alpha_select v = not (eqb (bits 1 0 v) 3)

-- R13 "bits 1:0 are 0", R14 "bits 1:0 are 0"
unfoldable pub memory_location : ℕ → Bool
memory_location v = eqb (bits 1 0 v) 0

-- ---- the addresses of that column; R23 "An address in the column Values has to be granted to its role"

-- what a value holds: no address, or an address of a role
pub data Content : Type 0 where
  nothing : Content
  address : ℕ → ℕ → Content

-- R5 "any", or a rule that speaks of no address
abbrev pub no_address : ℕ → Content
no_address v = nothing

-- R2 "the data × 256 is an address of role 1"
abbrev pub target : ℕ → Content
target v = address 1 (v * 256)

-- R22 "The address in a scaler's register is made of bits 28:4 where they stand, all other bits 0"
abbrev pub scaled : ℕ → ℕ → Content
scaled role v = address role (bits 28 4 v * 16)

-- ---- the table

-- what a register may hold: so many bits, those that must be clear, the value rule, and the address in a value
pub record Register : Type 0 where
  pub width : ℕ
  pub clear : ℕ
  pub values : ℕ → Bool
  pub holds : ℕ → Content

-- a row: its cell, the register's name (a sub-address in its group, or a video offset), and what the register may hold
pub record Row (Name : Type 0) : Type 0 where
  pub cell : Cell
  pub name : Name
  pub register : Register

-- the registers of one type and sub-type
pub record Group : Type 0 where
  pub type : ℕ
  pub sub_type : ℕ
  pub rows : List (Row SubAddress)

-- a group of rows
abbrev pub group : ℕ → ℕ → List (Row SubAddress) → Group
group t u rs = record { type = t; sub_type = u; rows = rs }

-- a section of the table: a group of 3D registers, or a row of video registers, whose offsets follow one another
pub data Section : Type 0 where
  of_3d : Group → Section
  of_video : List (Row VideoOffset) → Section

-- a row: cell, name, must be clear, values, address. S5 "A parameter writes its 24 bits of data"
abbrev pub row_3d : ℕ → ℕ → ℕ → (ℕ → Bool) → (ℕ → Content) → Row SubAddress
row_3d c a m f h = record { cell = cell c; name = record { 0 = a }; register = record { width = 24; clear = m; values = f; holds = h } }

-- the same; S5 "a word of a video packet writes all its 32 bits"
abbrev pub row_video : ℕ → ℕ → ℕ → (ℕ → Bool) → (ℕ → Content) → Row VideoOffset
row_video c o m f h = record { cell = cell c; name = record { 0 = o }; register = record { width = 32; clear = m; values = f; holds = h } }

-- cells 0 to 3: type 01h, sub-type 00h
unfoldable pub target_group : Group
target_group = group 0x01 0x00 (
    -- R1 "0 | 01.00.3F | 800800h"
    row_3d 0 0x3F 0x800800 alpha_constants no_address
    -- R2 "1 | 01.00.50 | none"
    ∷ row_3d 1 0x50 0 any target
    -- R3 "2 | 01.00.51 | 0FFFFFh"
    ∷ row_3d 2 0x51 0x0FFFFF location no_address
    -- R4 "3 | 01.00.52 | 006FFFh"
    ∷ row_3d 3 0x52 0x006FFF format_byte no_address
    ∷ []
    )

-- stage n: type 02h, sub-type n
unfoldable pub stage : ℕ → Group
stage n = group 0x02 (0x00 + n) (
    -- R5 "4+2n, 5+2n | 02.0n.50, 02.0n.51 | FF0000h | any"
    row_3d (4 + 2 * n) 0x50 0xFF0000 any no_address
    -- R5 "02.0n.51 | FF0000h | any"
    ∷ row_3d (5 + 2 * n) 0x51 0xFF0000 any no_address
    ∷ []
    )

-- sample n: type 02h, R19 "sub-type 20h + n"
unfoldable pub sample : ℕ → Group
sample n = group 0x02 (0x20 + n) (
    -- R6 "36+3n | 02.2n.30 | C00000h"
    row_3d (36 + 3 * n) 0x30 0xC00000 levels no_address
    -- R7 "37+3n | 02.2n.31 | E00000h"
    ∷ row_3d (37 + 3 * n) 0x31 0xE00000 filters no_address
    -- R8 "38+3n | 02.2n.32 | C0FE00h"
    ∷ row_3d (38 + 3 * n) 0x32 0xC0FE00 mapping no_address
    ∷ []
    )

-- a scaler's seven registers: cells from c on, offsets above o, and the role of its addresses. The rows are those of the first scaler, with
-- c 87, o 2000h and role 2; R17 "94 to 100 | 33E4 to 33FC | as 87 to 93 | as 87 to 93, with role 3": c 94, o 3000h
unfoldable pub scaler : ℕ → ℕ → ℕ → List (Row VideoOffset)
scaler c o role =
    -- R11 "87 | 23E4 | 76FFE0FEh | any"
    row_video c (o + 0x3E4) 0x76FFE0FE any no_address
    -- R12 "88 | 23E8 | 6FFE0000h | any"
    ∷ row_video (c + 1) (o + 0x3E8) 0x6FFE0000 any no_address
    -- R13 "89 | 23EC | 2000000Ch | bits 1:0 are 0; bits 28:4 are an address of role 2"
    ∷ row_video (c + 2) (o + 0x3EC) 0x2000000C memory_location (scaled role)
    -- R14 "90, 93 | 23F0, 23FC | E000000Ch | bits 1:0 are 0; bits 28:4 are an address of role 2"
    ∷ row_video (c + 3) (o + 0x3F0) 0xE000000C memory_location (scaled role)
    -- R15 "91 | 23F4 | FFFFC00Fh | any"
    ∷ row_video (c + 4) (o + 0x3F4) 0xFFFFC00F any no_address
    -- R16 "92 | 23F8 | 0DECC00Fh | any"
    ∷ row_video (c + 5) (o + 0x3F8) 0x0DECC00F any no_address
    -- R14 "23FC | E000000Ch | bits 1:0 are 0; bits 28:4 are an address of role 2"
    ∷ row_video (c + 6) (o + 0x3FC) 0xE000000C memory_location (scaled role)
    ∷ []

-- cells 84 to 86. B11 "The offset of a video register is that of its copy in the command regulator, 2000h above the original"
unfoldable pub overlay : List (Row VideoOffset)
overlay =
    -- R9 "84, 85 | 2208, 220C | F800F800h | any"
    row_video 84 0x2208 0xF800F800 any no_address
    -- R9 "220C | F800F800h | any"
    ∷ row_video 85 0x220C 0xF800F800 any no_address
    -- R10 "86 | 2210 | FFE000FCh"
    ∷ row_video 86 0x2210 0xFFE000FC alpha_select no_address
    ∷ []

-- stage n as a section,
abbrev pub stage_section : ℕ → Section
stage_section n = of_3d (stage n)

-- and sample n
abbrev pub sample_section : ℕ → Section
sample_section n = of_3d (sample n)

-- the groups of 01 and 02; R18 "n runs from 0 to 15"
abbrev pub sections_3d : List Section
sections_3d = of_3d target_group ∷ (map stage_section (from 0 16) ++ map sample_section (from 0 16))

-- the rows of video registers; B11 "2000h above the original; the second HQV's is 1000h above that"
abbrev pub sections_video : List Section
sections_video = of_video overlay ∷ of_video (scaler 87 0x2000 2) ∷ of_video (scaler 94 0x3000 3) ∷ []

-- THE TABLE: R18 "the cells are numbered from 0 as the table has them"
unfoldable pub sections : List Section
sections = sections_3d ++ sections_video

-- ---- the register of a name, and of a cell

-- a register was found
abbrev pub is_found : Option Cell → Bool
is_found (Some c) = true
is_found None = false

-- the cell of the first row whose name passes the test
unfoldable pub find : {Name : Type 0} → (Name → Bool) → List (Row Name) → Option Cell
find is [] = None
find is (r ∷ rs) = let more = find is rs in cond (is r.name) (Some r.cell) more

-- the same among the rows of the group of a type and sub-type
unfoldable pub find_among : ℕ → ℕ → SubAddress → List Section → Option Cell
find_among t u a [] = None
find_among t u a (of_3d g ∷ ss) =
    let more = find_among t u a ss in
    cond (eqb t g.type && eqb u g.sub_type) (find (λ n. eqb a.0 n.0) g.rows) more
find_among t u a (of_video rs ∷ ss) = find_among t u a ss

-- R19 "The name of a 3D register is its type, its sub-type and its sub-address, all three"
unfoldable pub find_3d : ℕ → ℕ → SubAddress → Option Cell
find_3d t u a = find_among t u a sections

-- the first that is found
abbrev pub first_found : Option Cell → Option Cell → Option Cell
first_found (Some c) more = Some c
first_found None more = more

-- an offset among the rows of video registers
unfoldable pub find_offset : VideoOffset → List Section → Option Cell
find_offset o [] = None
find_offset o (of_3d g ∷ ss) = find_offset o ss
find_offset o (of_video rs ∷ ss) = let more = find_offset o ss in first_found (find (λ n. eqb o.0 n.0) rs) more

-- R20 "The name of a video register is its offset."
unfoldable pub find_video : VideoOffset → Option Cell
find_video o = find_offset o sections

-- the register of the row that bears the cell's number
unfoldable pub register_among : {Name : Type 0} → Cell → List (Row Name) → Register → Register
register_among c [] other = other
register_among c (r ∷ rs) other = let more = register_among c rs other in cond (eqb c.0 r.cell.0) r.register more

-- the same among sections; a number that is no cell has no register, and nothing asks for it
unfoldable pub register_in : Cell → List Section → Register
register_in c [] = record { width = 0; clear = 0; values = any; holds = no_address }
register_in c (of_3d g ∷ ss) = register_among c g.rows (register_in c ss)
register_in c (of_video rs ∷ ss) = register_among c rs (register_in c ss)

-- what the register of a cell may hold
unfoldable pub register_at : Cell → Register
register_at c = register_in c sections
