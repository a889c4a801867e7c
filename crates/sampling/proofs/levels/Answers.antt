-- `sampling::levels` meets its contract: the tests are those of the definition, in its order.
-- Assumes nothing.
use native.Mathlib.Nat.{div-one}
use Rattle.meaning.specs.Registers.{levels}
use Rattle.sampling.proofs.Codes.{row}
use Rattle.sampling.proofs.levels.Goals as goal

pub returns-then-not-level_code : goal.returns-then-not-level_code
unfolding levels
returns-then-not-level_code c = record { rule = simp div-one (search row) }

pub returns : goal.returns
unfolding levels
returns c = record { rule = simp div-one (search row) }
