-- Listing: the exact bytes, and what the lister answers.
-- P3 "The lister takes a state, and makes a text of it."
-- Assumes nothing.
use Rattle.std.specs.Prelude.{cond, List, [], ◌∷◌, ◌++◌, ℕ, zero, suc, ◌+◌, ◌/◌, ◌%◌, ◌^◌, leb, ltb, length}
use Rattle.laws.specs.Lists.{join, over}
use Rattle.meaning.specs.declared.SubAddress.{SubAddress}
use Rattle.meaning.specs.declared.VideoOffset.{VideoOffset}
use Rattle.meaning.specs.Registers.{Row, Section, of_3d, of_video, sections}
use Rattle.meaning.specs.State.{value_at, marked, well_formed}
use Rattle.meaning.specs.Answers.{Answer, bad_state, no_room, success, answer, provided, settle}
use Rattle.meaning.specs.Writer.{if_so}
use Rattle.meaning.specs.Text.{ascii}

-- ---- digits

-- a digit as a byte: 0 to 9, then a to f, L3 "in lower case"
unfoldable pub digit : ℕ → ℕ
digit d = cond (ltb d 10) (48 + d) (87 + d)

-- L3 "with all leading zeros": the k lowest hex digits of a number
unfoldable pub hex : ℕ → ℕ → List ℕ
hex zero n = []
hex (suc k) n = digit (n / 16 ^ k % 16) ∷ hex k n

-- L2 "in decimal without leading zeros": a number below 1,000
unfoldable pub decimal : ℕ → List ℕ
decimal n =
    cond (ltb n 10) (digit n ∷ [])
    (cond (ltb n 100) (digit (n / 10) ∷ digit (n % 10) ∷ []) (digit (n / 100) ∷ digit (n / 10 % 10) ∷ digit (n % 10) ∷ []))

-- ---- lines: L1 "lines of keys with their values, an = between them, and the byte 0Ah ends each line"

-- L4 "like `reg=01.00.50 val=00001000`: type, sub-type and sub-address of two digits each, and a value of eight"
abbrev pub line_3d : ℕ → ℕ → SubAddress → ℕ → List ℕ
line_3d t u a v = ascii "reg=" ++ (hex 2 t ++ (ascii "." ++ (hex 2 u ++ (ascii "." ++ (hex 2 a.0 ++ (ascii " val=" ++ (hex 8 v ++ ascii "\n")))))))

-- L5 "like `reg=23f0 val=00001000`: an offset of four digits and a value of eight"
abbrev pub line_video : VideoOffset → ℕ → List ℕ
line_video o v = ascii "reg=" ++ (hex 4 o.0 ++ (ascii " val=" ++ (hex 8 v ++ ascii "\n")))

-- the lines of the marked cells among rows
unfoldable pub lines_of : {Name : Type 0} → (Name → ℕ → List ℕ) → List ℕ → List (Row Name) → List (List ℕ)
lines_of line st [] = []
lines_of line st (r ∷ rs) = if_so (marked st r.cell) (line r.name (value_at st r.cell)) (lines_of line st rs)

-- of a section
abbrev pub lines_in : List ℕ → Section → List (List ℕ)
lines_in st (of_3d g) = lines_of (line_3d g.type g.sub_type) st g.rows
lines_in st (of_video rs) = lines_of line_video st rs

-- of sections, one after another
unfoldable pub lines_among : List ℕ → List Section → List (List ℕ)
lines_among st [] = []
lines_among st (s ∷ ss) = lines_in st s ++ lines_among st ss

-- L3 "A line for each marked cell follows, in the order of the cells."
unfoldable pub cell_lines : List ℕ → List (List ℕ)
cell_lines st = lines_among st sections

-- L6 "No listing has more than 2,568 bytes."
abbrev pub most_listed : ℕ
most_listed = 2568

-- L2 "The first line is `cells=` with the number of marked cells, in decimal without leading zeros."; then the lines of the cells
unfoldable pub listing : List ℕ → List ℕ
listing st = ascii "cells=" ++ (decimal (length (cell_lines st)) ++ (ascii "\n" ++ join (cell_lines st)))

-- ---- the call

-- A4 "the lister 1 before 11": the answer, given room for so many bytes; Y11 "the output is shorter than they need", Y0 "lister: the bytes
-- written"
unfoldable pub list_answer : List ℕ → ℕ → Answer
list_answer st room =
    provided (well_formed st) bad_state (provided (leb (length (listing st)) room) no_room (answer success (length (listing st))))

-- the output after the call: L7 "The bytes of the output behind the last one written stay as they were."
unfoldable pub list_leaves : List ℕ → List ℕ → List ℕ
list_leaves st out = settle (list_answer st (length out)) (over (listing st) out) out
