-- `rules::memory_location` meets its contract: the test is the definition's.
-- Assumes nothing.
use native.Mathlib.Nat.{div-one}
use Rattle.meaning.specs.Registers.{memory_location}
use Rattle.laws.proofs.Arms.{tests}
use Rattle.rules.proofs.memory_location.Goals as goal

pub returns : goal.returns
unfolding memory_location
returns c = record { rule = search (div-one, tests) }
