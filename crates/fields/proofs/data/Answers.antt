-- The lowest bits are a remainder.
-- Assumes nothing.
use native.Mathlib.Omega.{arith}
use Rattle.meaning.specs.Words as parts
use Rattle.fields.proofs.data.Goals as goal

pub returns : goal.returns
unfolding parts.data24
returns c = record { bits = omega arith }
