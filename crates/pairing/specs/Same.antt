-- Of the entry state, what an answer may depend on.
-- Assumes nothing.
use Rattle.std.specs.Prelude.{◌≡◌, List, ℕ}
use Rattle.meaning.specs.State.{value_at, mark_at}
use Rattle.meaning.specs.Pair.{target_cell, location_cell}

-- S7 "The pair": two states with the same values and marks in cells 1 and 2
pub record SamePair (st other : List ℕ) : Type 0 where
  pub target : value_at st target_cell ≡ value_at other target_cell
  pub target_mark : mark_at st target_cell ≡ mark_at other target_cell
  pub location : value_at st location_cell ≡ value_at other location_cell
  pub location_mark : mark_at st location_cell ≡ mark_at other location_cell
