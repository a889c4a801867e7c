-- One less than the mark is all ones, or 0.
-- Assumes nothing.
use Rattle.std.proofs.Common.{arith}
use Rattle.states.proofs.Formed.{excess_tells}
use Rattle.states.proofs.excess.Goals as goal

pub returns : goal.returns
returns c = record { clear = excess_tells c.args.value c.args.mark c.wrapping_sub_u32.result (omega arith) (omega arith) (omega arith) c.wrapping_sub_u32.ensures.value }
