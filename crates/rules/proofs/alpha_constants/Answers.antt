-- `rules::alpha_constants` meets its contract: each side of the `&&` is one test of the definition.
-- Assumes nothing.
use native.Mathlib.Nat.{div-one}
use Rattle.meaning.specs.Registers.{alpha_constants}
use Rattle.laws.proofs.Arms.{tests}
use Rattle.rules.proofs.alpha_constants.Goals as goal

pub returns-then-value-le1024 : goal.returns-then-value-le1024
unfolding alpha_constants
returns-then-value-le1024 c = record { rule = search (div-one, tests) }

pub returns-else-value-le1024 : goal.returns-else-value-le1024
unfolding alpha_constants
returns-else-value-le1024 c = record { rule = search tests }
