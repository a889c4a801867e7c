-- The invariant: the cells that were gone through are laid.
-- Assumes nothing.
use mathlib.Core.Path.{refl}
use native.Mathlib.Omega.{arith}
use Rattle.engine.proofs.Closing.{none_laid, one_laid, all_laid}
use Rattle.engine.proofs.lay.Goals as goal

pub loop-c-init : goal.loop-c-init
loop-c-init c = (omega arith, none_laid c.args.values.now c.args.marks.now c.args.state.now (omega arith))

pub loop-c-preserved : goal.loop-c-preserved
loop-c-preserved c = (omega arith, one_laid c.args.values.now c.args.marks.now c.loop-c.state c.loop-c.c c.loop-c.invariant.1 (omega arith) refl c.mark_in.ensures.mark)

pub returns : goal.returns
returns c = record { laid = all_laid c.args.values.now c.args.marks.now c.loop-c.state c.loop-c.c (omega arith) (omega arith) c.loop-c.invariant.1; size = c.loop-c.invariant.1.size }
