-- The lowest bits are a remainder.
-- Assumes nothing.
use native.Mathlib.Omega.{arith}
use Rattle.meaning.specs.Words as parts
use Rattle.fields.proofs.offset.Goals as goal

pub returns : goal.returns
unfolding parts.offset
returns c = record { offset = omega arith }
