-- The invariant: the marks gathered so far are at most 1 exactly if each of the cells passed has such a mark.
-- Assumes nothing.
use Rattle.std.proofs.Common.{◌≡◌, ◌-◌, ◌≤◌, leb}
use Rattle.meaning.specs.Words.{words_of}
use Rattle.meaning.specs.Registers.{cells}
use Rattle.states.specs.Marks.{marks_to}
use Rattle.states.proofs.gathered_marks.Given as goal

abbrev pub invariant-loop-c : goal.invariant-loop-c
invariant-loop-c l = (l.c ≤ cells) × (leb l.marks 1 ≡ marks_to (words_of l.state) l.c)

abbrev pub decreases-loop-c : goal.decreases-loop-c
decreases-loop-c l = cells - l.c
