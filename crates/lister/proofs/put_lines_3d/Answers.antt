-- The invariant: to store the lines that are left over the output as it is now is to store all of them over the output at entry.
-- Assumes nothing.
use native.Mathlib.Omega.{arith}
use Rattle.lines.proofs.Pieces.{wide_3d}
use Rattle.lister.proofs.Lines.{begin, further, passed, fits, stored_line, ended}
use Rattle.lister.proofs.put_lines_3d.Goals as goal
use Rattle.lister.proofs.put_lines_3d.Goals.{then-mark-ne0, else-mark-ne0}

pub loop-left-init : goal.loop-left-init
loop-left-init c = begin (omega arith)

pub mark-requires : goal.mark-requires
mark-requires c = record { whole = omega arith; inside = omega (arith, further c.loop-left.invariant (omega arith)) }

pub value-requires : goal.value-requires
value-requires c = record { whole = omega arith; inside = omega (arith, further c.loop-left.invariant (omega arith)) }

pub put_line_3d-requires : goal.put_line_3d-requires
put_line_3d-requires c = record { table = c.requires.table; cell = omega (arith, further c.loop-left.invariant (omega arith)); room = fits c.loop-left.invariant (omega arith) c.requires.room }

pub overflow_add-at : goal.overflow_add-at
overflow_add-at c = omega (arith, fits c.loop-left.invariant (omega arith) c.requires.room)

pub overflow_add-c : goal.overflow_add-c
overflow_add-c c = omega (arith, further c.loop-left.invariant (omega arith))

pub loop-left-smaller : goal.loop-left-smaller
loop-left-smaller c = omega (arith, further c.loop-left.invariant (omega arith))

pub shape_of-out : goal.shape_of-out
shape_of-out c = c.loop-left.invariant.same

pub returns : goal.returns
returns c = record { stored = ended c.loop-left.invariant (omega arith) }

pub loop-left-preserved : goal.loop-left-preserved
loop-left-preserved c =
    let g = c.loop-left.invariant in
    elim c.if-mark-ne0.branch [
      | then-mark-ne0 w ↦
          rw (w.out-is, w.left-is, w.at-is)
          (stored_line g (further g (omega arith)) c.mark.ensures.mark w.if-mark-ne0.true w.value.ensures.value _ w.put_line_3d.ensures.stored (wide_3d _ _))
      | else-mark-ne0 w ↦ rw (w.out-is, w.left-is, w.at-is) (passed g (further g (omega arith)) c.mark.ensures.mark w.if-mark-ne0.false)
    ]
