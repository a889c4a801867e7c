-- A mark that is not 0 is set.
-- Assumes nothing.
use Rattle.engine.proofs.Bits.{is_marked}
use Rattle.engine.proofs.load_mark.Goals as goal

pub returns : goal.returns
returns c = record { marked = rw (is_marked c.args.mark c.if-mark-eq0.false) c.set_mark.ensures.marked }
