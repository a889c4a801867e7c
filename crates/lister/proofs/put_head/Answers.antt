-- The three pieces of the line, one behind the other.
-- Assumes nothing.
use Rattle.lister.proofs.Head.{head_pieces}
use Rattle.lister.proofs.put_head.Goals as goal

pub returns : goal.returns
returns c = record { stored = rw c.put_decimal.ensures.stored (head_pieces c.args.out.now c.args.n c.args.digits c.requires.digits) }
