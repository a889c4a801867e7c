-- The listing reader: what it answers and leaves, computed from the front of the text. That this is what Listings asks for is
-- listing_read_exactly and listing_place_is_longest_beginning, in promises.
-- P6 "The listing reader takes a text and the buffer of a state"
-- Assumes nothing.
use Rattle.std.specs.Prelude.{Bool, cond, ◌&&◌, ◌||◌, List, [], ◌∷◌, ◌++◌, map, ℕ, zero, suc, ◌+◌, ◌*◌, ◌-◌, ◌/◌, ◌^◌, max, leb, ltb, eqb, length, take, drop, replicate}
use Rattle.laws.specs.Lists.{join}
use Rattle.laws.specs.Tests.{within}
use Rattle.meaning.specs.declared.Cell.{Cell}
use Rattle.meaning.specs.declared.SubAddress.{SubAddress}
use Rattle.meaning.specs.declared.VideoOffset.{VideoOffset}
use Rattle.meaning.specs.Registers.{cells, Register, Row, Section, of_3d, of_video, sections}
use Rattle.meaning.specs.State.{state_words, empty, Write, apply_all}
use Rattle.meaning.specs.Answers.{Answer, bad_state, not_listing, success, answer, provided, settle}
use Rattle.meaning.specs.Text.{ascii}
use Rattle.meaning.specs.Lister.{hex}

-- ---- the form of a line

-- a byte of a line: a fixed one, or a digit of the value
pub data Slot : Type 0 where
  fixed : ℕ → Slot
  any_digit : Slot

-- L10 "hex is in lower case"
unfoldable pub is_hex : ℕ → Bool
is_hex x = within 48 57 x || within 97 102 x

-- the byte may stand there
abbrev pub takes : Slot → ℕ → Bool
takes (fixed b) x = eqb x b
takes any_digit x = is_hex x

-- how many bytes of a text follow a form
unfoldable pub along : List Slot → List ℕ → ℕ
along [] xs = 0
along (s ∷ f) [] = 0
along (s ∷ f) (x ∷ xs) = let more = along f xs in cond (takes s x) (suc more) 0

-- what a digit counts,
unfoldable pub digit_worth : ℕ → ℕ
digit_worth x = cond (leb x 57) (x - 48) (x - 87)

-- and digits, the highest first
unfoldable pub worth : List ℕ → ℕ
worth [] = 0
worth (d ∷ ds) = digit_worth d * 16 ^ length ds + worth ds

-- the lines that a cell may have: what stands before the free digits of the value, and how many of these there are
pub record Line : Type 0 where
  pub cell : Cell
  pub before : List ℕ
  pub digits : ℕ

-- L10 "each value fits the width of its register": of its eight digits, those past the width are 0
abbrev pub line_of : Cell → List ℕ → Register → Line
line_of c name r = record { cell = c; before = ascii "reg=" ++ (name ++ (ascii " val=" ++ hex (8 - r.width / 4) 0)); digits = r.width / 4 }

-- L4 "type, sub-type and sub-address of two digits each"
abbrev pub line_of_3d : ℕ → ℕ → Row SubAddress → Line
line_of_3d t u r = line_of r.cell (hex 2 t ++ (ascii "." ++ (hex 2 u ++ (ascii "." ++ hex 2 r.name.0)))) r.register

-- L5 "an offset of four digits"
abbrev pub line_of_video : Row VideoOffset → Line
line_of_video r = line_of r.cell (hex 4 r.name.0) r.register

-- of a section
abbrev pub section_lines : Section → List Line
section_lines (of_3d g) = map (line_of_3d g.type g.sub_type) g.rows
section_lines (of_video rs) = map line_of_video rs

-- L10 "the lines are in the order of the cells"
unfoldable pub table_lines : List Line
table_lines = join (map section_lines sections)

-- the whole line: L1 "the byte 0Ah ends each line"
abbrev pub form_of : Line → List Slot
form_of l = map fixed l.before ++ (replicate l.digits any_digit ++ map fixed (ascii "\n"))

-- what a text that follows the form writes
abbrev pub write_of : Line → List ℕ → Write
write_of l xs = record { cell = l.cell; value = worth (take l.digits (drop (length l.before) xs)) }

-- ---- reading

-- the answer for the bytes from here on, and what their lines write
pub record Outcome : Type 0 where
  pub answer : Answer
  pub writes : List Write

-- Y19 "the text is no listing": at the byte p from here
abbrev pub refused : ℕ → Outcome
refused p = record { answer = answer not_listing p; writes = [] }

-- the same, seen from n bytes further in front
abbrev pub further : ℕ → Outcome → Outcome
further n r = record { answer = answer r.answer.reason (n + r.answer.place); writes = r.writes }

-- with a write in front
abbrev pub with : Write → Outcome → Outcome
with w r = record { answer = r.answer; writes = w ∷ r.writes }

-- where the text goes n bytes along another line than those that are left, a refusal has the longer way for its place; of a success the place
-- is the longer one already
abbrev pub at_least : ℕ → Outcome → Outcome
at_least n r = record { answer = answer r.answer.reason (max n r.answer.place); writes = r.writes }

-- k lines are wanted, of these cells in their order: each cell's line stands here, or the cell is passed over; not if fewer cells are left
-- than lines wanted
unfoldable pub read_lines : List Line → ℕ → List ℕ → Outcome
read_lines ls zero [] = record { answer = answer success 0; writes = [] }
read_lines ls zero (x ∷ xs) = refused 0
read_lines [] (suc k) xs = refused 0
read_lines (l ∷ ls) (suc k) xs =
    let n = along (form_of l) xs in
    let here = read_lines ls k (drop n xs) in
    let passed = read_lines ls (suc k) xs in
    cond (leb k (length ls)) (cond (eqb n (length (form_of l))) (further n (with (write_of l xs) here)) (at_least n passed)) (refused 0)

-- L10 "the count is the true one without leading zeros": its digits so far make n. A line's end follows, or another digit unless n is 0 or
-- there are not so many cells
unfoldable pub read_count : ℕ → List ℕ → Outcome
read_count n [] = refused 0
read_count n (x ∷ xs) =
    let lines = further 1 (read_lines table_lines n xs) in
    let more = further 1 (read_count (n * 10 + (x - 48)) xs) in
    cond (eqb x 10) lines (cond (within 48 57 x && (ltb 0 n && leb (n * 10 + (x - 48)) cells)) more (refused 0))

-- it has a digit
unfoldable pub read_first : List ℕ → Outcome
read_first [] = refused 0
read_first (x ∷ xs) = cond (within 48 57 x) (further 1 (read_count (x - 48) xs)) (refused 0)

-- L2 "The first line is `cells=`"
abbrev pub head_form : List Slot
head_form = map fixed (ascii "cells=")

-- the whole text
unfoldable pub read_text : List ℕ → Outcome
read_text xs =
    let n = along head_form xs in
    cond (eqb n (length head_form)) (further n (read_first (drop n xs))) (refused n)

-- ---- the call

-- A8 "the listing reader gives 1 if the buffer is not 202 words, and that before 19; what the words are does not matter."
unfoldable pub listing_answer : List ℕ → List ℕ → Answer
listing_answer text st = provided (eqb (length st) state_words) bad_state (read_text text).answer

-- L11 "What it leaves in the buffer is the state of that listing.": what its lines write into the empty state
unfoldable pub listing_leaves : List ℕ → List ℕ → List ℕ
listing_leaves text st = settle (listing_answer text st) (apply_all empty (read_text text).writes) st
