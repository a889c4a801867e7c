-- The register state, and what the packets of a batch write into it.
-- Assumes nothing.
use Rattle.std.specs.Prelude.{Bool, true, false, ◌&&◌, List, [], ◌∷◌, ◌++◌, ℕ, zero, suc, ◌+◌, ◌*◌, leb, eqb, length, get_or, set, replicate, Option, Some, None}
use Rattle.laws.specs.Lists.{every, from}
use Rattle.laws.specs.Tests.{implies}
use Rattle.meaning.specs.declared.Cell.{Cell}
use Rattle.meaning.specs.declared.VideoOffset.{VideoOffset}
use Rattle.meaning.specs.Words.{offset, video_offset, following, data24}
use Rattle.meaning.specs.Registers.{cells, cell, find_video}
use Rattle.meaning.specs.Batch.{offset_3d, named}

-- ---- states

-- S1 "the values of the 101 cells, then their 101 marks"
abbrev pub cell_words : ℕ
cell_words = 2 * cells

-- S1 "A state is 202 words": nothing stands behind the marks
abbrev pub state_words : ℕ
state_words = cell_words

-- of a cell: its value
abbrev pub value_at : List ℕ → Cell → ℕ
value_at st c = get_or st c.0 0

-- and its mark
abbrev pub mark_at : List ℕ → Cell → ℕ
mark_at st c = get_or st (cells + c.0) 0

-- a mark that is not 0 marks its cell
abbrev pub is_mark : ℕ → Bool
is_mark zero = false
is_mark (suc m) = true

-- the cell is marked
abbrev pub marked : List ℕ → Cell → Bool
marked st c = is_mark (mark_at st c)

-- S2 "each mark is 0 or 1, and each value whose mark is 0 is 0 itself": of a cell
unfoldable pub cell_formed : List ℕ → Cell → Bool
cell_formed st c = leb (mark_at st c) 1 && implies (eqb (mark_at st c) 0) (eqb (value_at st c) 0)

-- S2 "It is well-formed": 202 words, and each cell is as it must be
unfoldable pub well_formed : List ℕ → Bool
well_formed st = eqb (length st) state_words && every (λ n. cell_formed st (cell n)) (from 0 cells)

-- S3 "Every word of the empty state is 0."
unfoldable pub empty : List ℕ
empty = replicate state_words 0

-- ---- counts

-- 1 for a cell that is chosen
abbrev pub one : Bool → ℕ
one true = 1
one false = 0

-- how many of the n cells from cell i on are chosen
unfoldable pub count_in : (Cell → Bool) → ℕ → ℕ → ℕ
count_in chosen i zero = 0
count_in chosen i (suc n) = one (chosen (cell i)) + count_in chosen (suc i) n

-- how many cells of a state are marked
abbrev pub marked_cells : List ℕ → ℕ
marked_cells st = count_in (marked st) 0 cells

-- ---- writes

-- a value for a cell
pub record Write : Type 0 where
  pub cell : Cell
  pub value : ℕ

-- S4 "A write puts a value into a cell and sets the cell's mark to 1."
unfoldable pub apply : List ℕ → Write → List ℕ
apply st w = set (set st w.cell.0 w.value) (cells + w.cell.0) 1

-- S6 "A batch's writes are made one after another. .. the last write holds."
unfoldable pub apply_all : List ℕ → List Write → List ℕ
apply_all st [] = st
apply_all st (w ∷ ws) = apply_all (apply st w) ws

-- ---- what a packet writes

-- a value for a register that the table has is a write
abbrev pub write_to : Option Cell → ℕ → List Write
write_to (Some c) v = record { cell = c; value = v } ∷ []
write_to None v = []

-- S5 "A parameter writes its 24 bits of data": of the parameters under a setting
unfoldable pub writes_3d : ℕ → List ℕ → List Write
writes_3d s [] = []
writes_3d s (p ∷ ps) = write_to (named s p) (data24 p) ++ writes_3d s ps

-- S5 "a word of a video packet writes all its 32 bits": of a run
unfoldable pub writes_run : VideoOffset → List ℕ → List Write
writes_run o [] = []
writes_run o (v ∷ vs) = write_to (find_video o) v ++ writes_run (following o) vs

-- of a packet's words after the header, by whether it is a 3D packet
abbrev pub body_writes : Bool → VideoOffset → List ℕ → List Write
body_writes true o [] = []
body_writes true o (s ∷ ps) = writes_3d s ps
body_writes false o vs = writes_run o vs

-- of a whole packet
unfoldable pub packet_writes : List ℕ → List Write
packet_writes [] = []
packet_writes (h ∷ t) = body_writes (eqb (offset h) offset_3d) (video_offset h) t

-- of packets, D2 "its writes .. one after another"
unfoldable pub all_writes : List (List ℕ) → List Write
all_writes [] = []
all_writes (p ∷ ps) = packet_writes p ++ all_writes ps
