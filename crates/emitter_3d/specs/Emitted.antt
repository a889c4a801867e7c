-- The words of a state as they are emitted: of a cell, of rows that follow one another, of a packet, of groups of equal size.
-- proofs/Emitted ties them to the words of the table's sections.
-- Assumes nothing.
use Rattle.std.specs.Prelude.{List, [], ◌++◌, ℕ, zero, suc, ◌+◌, ◌*◌, ◌/◌, ◌≤◌, ◌<◌, ◌^◌, length}
use Rattle.laws.specs.Lists.{join}
use Rattle.meaning.specs.declared.Cell.{Cell}
use Rattle.meaning.specs.declared.SubAddress.{SubAddress}
use Rattle.meaning.specs.Registers.{cell, first_video, Section}
use Rattle.meaning.specs.State.{value_at, mark_at, marked}
use Rattle.meaning.specs.Writer.{setting_word, if_so, packet_3d_of, packets_among}

-- the words of sections of the table: all their marked cells
abbrev pub words_of_sections : List ℕ → List Section → List ℕ
words_of_sections st ss = join (packets_among (marked st) st ss)

-- the parameter of a cell, if it is marked
unfoldable pub parameter_of : List ℕ → Cell → SubAddress → List ℕ
parameter_of st c a = if_so (marked st c) (a.0 * 2 ^ 24 + value_at st c) []

-- the parameters of n rows from cell c and sub-address a on
unfoldable pub parameters_from : List ℕ → ℕ → ℕ → ℕ → List ℕ
parameters_from st c a zero = []
parameters_from st c a (suc n) = parameter_of st (cell c) (record { 0 = a }) ++ parameters_from st (suc c) (suc a) n

-- the words of the packet of a setting and parameters; without a parameter there is no packet
abbrev pub packet_words : ℕ → List ℕ → List ℕ
packet_words s ps = join (packet_3d_of s ps)

-- the words of 01.00
unfoldable pub target_words : List ℕ → List ℕ
target_words st = packet_words (setting_word 0x01 0x00) (parameter_of st (cell 0) (record { 0 = 0x3F }) ++ parameters_from st 1 0x50 3)

-- groups of 02 that have so many rows each, from the first one's cell and sub-type on; their sub-addresses begin at `low`. The words of n of
-- them from number i on
unfoldable pub series_from : List ℕ → ℕ → ℕ → ℕ → ℕ → ℕ → ℕ → List ℕ
series_from st first rows low sub i zero = []
series_from st first rows low sub i (suc n) =
    packet_words (setting_word 0x02 (sub + i)) (parameters_from st (first + rows * i) low rows) ++ series_from st first rows low sub (suc i) n

-- stages and samples are numbered from 0 to 15
abbrev pub many : ℕ
many = 16

-- there is room in the bytes for words from a place on; no words need none
abbrev pub Room : List ℕ → ℕ → List ℕ → Type 0
Room out at ws = 0 < length ws → at + length ws ≤ length out / 4

-- a marked 3D value is 24 bits wide, so that a sub-address fits above it
abbrev pub Narrow : List ℕ → Type 0
Narrow st = (c : ℕ) → c < first_video → 0 < mark_at st (cell c) → value_at st (cell c) < 2 ^ 24
