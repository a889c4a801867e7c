-- Each way out is a clause of the definition.
-- Assumes nothing.
use Rattle.std.proofs.Common.{sym, arith}
use Rattle.states.proofs.Counted.{one_marked}
use Rattle.states.proofs.one.Goals as goal

pub returns-then-mark-eq0 : goal.returns-then-mark-eq0
returns-then-mark-eq0 c = record { one = rw c.if-mark-eq0.true; few = omega arith }

pub returns : goal.returns
returns c = record { one = sym (one_marked c.args.mark c.if-mark-eq0.false); few = omega arith }
