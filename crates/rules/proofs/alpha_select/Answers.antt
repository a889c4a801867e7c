-- `rules::alpha_select` meets its contract: the test is the definition's.
-- Assumes nothing.
use native.Mathlib.Nat.{div-one}
use Rattle.meaning.specs.Registers.{alpha_select}
use Rattle.laws.proofs.Arms.{tests}
use Rattle.rules.proofs.alpha_select.Goals as goal

pub returns : goal.returns
unfolding alpha_select
returns c = record { rule = search (div-one, tests) }
