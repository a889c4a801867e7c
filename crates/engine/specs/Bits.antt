-- The marks of the cells as bits, 32 in a word.
-- Assumes nothing.
use Rattle.std.specs.Prelude.{cond, List, map, ℕ, zero, suc, ◌/◌, ◌%◌, ◌^◌, get_or, set}
use Rattle.std.specs.Int.Bits.{bit_or}
use Rattle.laws.specs.Lists.{from}
use Rattle.meaning.specs.Registers.{cells, cell}
use Rattle.meaning.specs.State.{marked}

-- the bit of a cell
abbrev pub bit_of : List ℕ → ℕ → ℕ
bit_of ms c = get_or ms (c / 32) 0 / 2 ^ (c % 32) % 2

-- the marks that the bits are
unfoldable pub marks_of : List ℕ → List ℕ
marks_of ms = map (bit_of ms) (from 0 cells)

-- the bits with that of a cell set
unfoldable pub with_mark : List ℕ → ℕ → List ℕ
with_mark ms c = set ms (c / 32) (bit_or (get_or ms (c / 32) 0) (2 ^ (c % 32)))

-- the bits with those of a state's marked cells set, of the first n
unfoldable pub packed : List ℕ → ℕ → List ℕ → List ℕ
packed st zero ms = ms
packed st (suc n) ms = let m = packed st n ms in cond (marked st (cell n)) (with_mark m n) m
