-- One bit is set.
-- Assumes nothing.
use Prim.Native.Nat.{◌%◌}
use native.Mathlib.Omega.{arith}
use Rattle.engine.specs.Bits.{with_mark}
use Rattle.engine.proofs.Bits.{one_shifted}
use Rattle.engine.proofs.set_mark.Goals as goal

pub returns : goal.returns
unfolding with_mark
returns c = record { marked = let k = c.args.cell % 32 in rw (one_shifted k (omega arith)) }
