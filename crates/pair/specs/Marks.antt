-- The marks of the pair on the copy that a batch is read on: cleared before it, and given back behind it.
-- Assumes nothing.
use Rattle.std.specs.Prelude.{Bool, ◌||◌, cond, List, ℕ, ◌+◌, ltb, eqb, set}
use Rattle.laws.specs.Tests.{within}
use Rattle.meaning.specs.Registers.{cells}
use Rattle.meaning.specs.State.{mark_at}
use Rattle.meaning.specs.Pair.{target_cell, location_cell}

-- a state with neither cell marked; the values stay
unfoldable pub cleared : List ℕ → List ℕ
cleared st = set (set st (cells + target_cell.0) 0) (cells + location_cell.0) 0

-- the mark of a cell there
abbrev pub outside : ℕ → ℕ → ℕ
outside c mark = cond (within 1 2 c) 0 mark

-- some write marked one of them again
unfoldable pub came_back : List ℕ → Bool
came_back now = ltb 0 (mark_at now target_cell) || ltb 0 (mark_at now location_cell)

-- a mark that did not come back is as it was
abbrev pub back : ℕ → ℕ → ℕ
back mark entry = cond (eqb mark 0) entry mark

-- the marks as they are behind the batch, from those that it was entered with
unfoldable pub restored : ℕ → ℕ → List ℕ → List ℕ
restored target location now =
    set (set now (cells + target_cell.0) (back (mark_at now target_cell) target)) (cells + location_cell.0) (back (mark_at now location_cell) location)
