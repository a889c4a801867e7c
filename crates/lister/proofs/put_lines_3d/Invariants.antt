-- The invariant: to store the lines that are left over the output as it is now is to store all of them over the output at entry.
-- Assumes nothing.
use Prim.Native.Nat.{◌-◌}
use Rattle.meaning.specs.Words.{words_of}
use Rattle.meaning.specs.Registers.{first_video}
use Rattle.lines.specs.Lines.{cell_line_3d}
use Rattle.lister.proofs.Lines.{Going}
use Rattle.lister.proofs.put_lines_3d.Given as goal

abbrev pub invariant-loop-left : goal.invariant-loop-left
invariant-loop-left l = Going cell_line_3d 26 (words_of l.state) l.first first_video l.initial.out l.start l.out l.left l.at l.c

abbrev pub decreases-loop-left : goal.decreases-loop-left
decreases-loop-left l = first_video - l.c
