-- Which grant, computed: of a list in which grants of other roles, one that grants nothing, equal ones and one that covers all overlap; and
-- of the cells of a state.
-- Assumes nothing.
use Rattle.std.specs.Prelude.{Option, Some, None}
use mathlib.Core.Path.{◌≡◌, refl}
use mathlib.Core.List.{List, [], ◌∷◌}
use Prim.Native.Nat.{ℕ, ◌+◌}
use lib.ListN.{set}
use Rattle.laws.specs.Lists.{from}
use Rattle.meaning.specs.declared.Memory.TheVariants.{Either, Only}
use Rattle.meaning.specs.Registers.{cells, cell, target_group, stage, sample, overlay, scaler, sections, register_among, register_in, register_at}
use Rattle.meaning.specs.Grants.{Grant, covers, which_from, which}
use Rattle.meaning.specs.State.{empty}
use Rattle.meaning.specs.Pair.{memory_of}
use Rattle.meaning.specs.Query.{which_at}

-- a grant by its words
abbrev grant : ℕ → ℕ → ℕ → ℕ → ℕ → Grant
grant role start length reach memory = record { role = role; start = start; length = length; reach = reach; memory = memory }

abbrev several : List Grant
several =
    grant 2 0x00100000 0x00080000 0x00000001 0
    -- its reach is more than its length
    ∷ grant 1 0x00100000 0x00001000 0x00002000 0
    -- the same twice, and in memory 1
    ∷ grant 1 0x00100000 0x00080000 0x00080000 1
    ∷ grant 1 0x00100000 0x00080000 0x00080000 0
    ∷ grant 1 0x00100000 0x00080000 0x00080000 0
    -- all there is, up to 2^32
    ∷ grant 1 0x00000000 0x100000000 0x00000100 1
    ∷ grant 3 0x00000000 0x00001000 0x00000010 0
    ∷ []

-- memory, role, address and what is told: the lowest of four, in whichever memory and in each; the last address and one step past it, the
-- end of all; nobody, there and in memories that there are none of
pub several_hold : (which several Either 1 0x00100000 ≡ Some 2)
    × (which several (Only 0) 1 0x00100000 ≡ Some 3)
    × (which several (Only 1) 1 0x00100000 ≡ Some 2)
    × (which several (Only 1) 1 0x00100100 ≡ Some 5)
    × (which several (Only 0) 1 0x00100100 ≡ None)
    × (which several (Only 2) 1 0x00100000 ≡ None)
    × (which several Either 1 0xFFFFFF00 ≡ Some 5)
    × (which several Either 1 0x100000000 ≡ None)
    × (which several Either 2 0x00100000 ≡ Some 0)
    × (which several Either 2 0x0017FFFF ≡ Some 0)
    × (which several Either 2 0x00180000 ≡ None)
    × (which several Either 3 0x00000FF0 ≡ Some 6)
    × (which several Either 3 0x00000FF1 ≡ None)
unfolding which_from covers
several_hold = (refl, refl, refl, refl, refl, refl, refl, refl, refl, refl, refl, refl, refl)

-- a state with one cell more marked
abbrev with : List ℕ → ℕ → ℕ → List ℕ
with st c v = set (set st c v) (cells + c) 1

abbrev holding : ℕ → ℕ → List ℕ
holding c v = with empty c v

-- which grant of these, of a state and a cell
abbrev told : List ℕ → ℕ → Option ℕ
told st c = which_at (record { grants = several }) st (cell c)

-- cell 1 by its value × 256, also where that is past 2^32, and in the memory that cell 2 names, if it names one; a scaler's by bits 28:4,
-- whatever the other bits are; 0 is an address where the cell is marked, and none where it is not; a cell without an address, and a number
-- that is no cell's
pub cells_hold : (told (holding 1 0x001000) 1 ≡ Some 3)
    × (told (with (holding 1 0x001000) 2 0x000000) 1 ≡ Some 3)
    × (told (with (holding 1 0x001000) 2 0x100000) 1 ≡ Some 2)
    × (told (with (holding 1 0x001000) 2 0x200000) 1 ≡ None)
    × (told (with (holding 1 0x001000) 2 0x300000) 1 ≡ None)
    × (told (with (holding 1 0x1001000) 2 0x100000) 1 ≡ None)
    × (told (holding 90 0xE010000F) 90 ≡ Some 0)
    × (told (holding 96 0) 96 ≡ Some 6)
    × (told (holding 96 0) 97 ≡ None)
    × (told (holding 3 0x001000) 3 ≡ None)
    × (told (holding 1 0x001000) 202 ≡ None)
unfolding which_at which_from covers memory_of empty register_at register_in register_among sections target_group stage sample overlay scaler from
cells_hold = (refl, refl, refl, refl, refl, refl, refl, refl, refl, refl, refl)
