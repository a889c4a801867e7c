-- The invariant is that of the 3D lines, for other cells and another line; the marked cells that are left are counted in it alone.
-- Assumes nothing.
use Prim.Native.Nat.{◌-◌, ◌≤◌}
use Rattle.meaning.specs.Words.{words_of}
use Rattle.meaning.specs.Registers.{first_video, end_video}
use Rattle.meaning.specs.State.{marked, count_in}
use Rattle.lines.specs.Lines.{cell_line_video}
use Rattle.lister.proofs.Lines.{Going}
use Rattle.lister.proofs.put_lines_video.Given as goal

abbrev pub invariant-loop-c : goal.invariant-loop-c
invariant-loop-c l =
    (l.c ≤ end_video) × Going cell_line_video 22 (words_of l.state) first_video end_video l.initial.out l.start l.out (count_in (marked (words_of l.state)) l.c (end_video - l.c)) l.at l.c

abbrev pub decreases-loop-c : goal.decreases-loop-c
decreases-loop-c l = end_video - l.c
