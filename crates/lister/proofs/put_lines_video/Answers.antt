-- The invariant is that of the 3D lines, for other cells and another line; the marked cells that are left are counted in it alone.
-- Assumes nothing.
use Prim.Native.Nat.{◌+◌, ◌-◌, ◌≤◌}
use native.Mathlib.Omega.{arith}
use lib.ListN.{length}
use Rattle.meaning.specs.Words.{words_of}
use Rattle.meaning.specs.Registers.{end_video}
use Rattle.meaning.specs.State.{marked}
use Rattle.states.proofs.Counted.{count_none}
use Rattle.lines.proofs.Pieces.{wide_video}
use Rattle.lister.proofs.Lines.{begin, counted, passed, some, fits, stored_line, ended}
use Rattle.lister.proofs.put_lines_video.Goals as goal
use Rattle.lister.proofs.put_lines_video.Goals.{Then-mark-ne0, then-mark-ne0, else-mark-ne0}

pub loop-c-init : goal.loop-c-init
loop-c-init c = (omega arith, begin (omega arith))

-- where a cell is marked, there is room for its line
room : (c : Then-mark-ne0) → c.loop-c.at + 22 ≤ length c.loop-c.out
room c =
    fits c.loop-c.invariant.1 (some c.loop-c.invariant.1 (omega arith) c.mark.ensures.mark c.if-mark-ne0.true) c.requires.room

pub put_line_video-requires : goal.put_line_video-requires
put_line_video-requires c = record { table = c.requires.table; low = omega arith; high = omega arith; room = room (goal.at.put_line_video-requires c).Then-mark-ne0 }

pub overflow_add-at : goal.overflow_add-at
overflow_add-at c = omega (arith, room (goal.at.overflow_add-at c).Then-mark-ne0)

pub shape_of-out : goal.shape_of-out
shape_of-out c = c.loop-c.invariant.1.same

pub returns : goal.returns
returns c = record {
  stored = let st = words_of c.args.state.now in
      ended c.loop-c.invariant.1 (omega (arith, count_none (marked st) c.loop-c.c (end_video - c.loop-c.c) (omega arith)));
}

pub loop-c-preserved : goal.loop-c-preserved
loop-c-preserved c =
    let g = c.loop-c.invariant.1 in
    elim c.if-mark-ne0.branch [
      | then-mark-ne0 w ↦ (
        omega arith,
        rw (w.out-is, w.at-is)
            (counted
            (stored_line g (omega arith) c.mark.ensures.mark w.if-mark-ne0.true w.value.ensures.value _ w.put_line_video.ensures.stored (wide_video _ _))),
      )
      | else-mark-ne0 w ↦ (omega arith, rw (w.out-is, w.at-is) (counted (passed g (omega arith) c.mark.ensures.mark w.if-mark-ne0.false)))
    ]
