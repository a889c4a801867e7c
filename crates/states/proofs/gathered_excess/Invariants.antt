-- The invariant: what is gathered so far is 0 exactly if each unmarked value of the cells passed is.
-- Assumes nothing.
use Rattle.std.proofs.Common.{◌≡◌, ◌-◌, ◌≤◌, eqb}
use Rattle.meaning.specs.Words.{words_of}
use Rattle.meaning.specs.Registers.{cells}
use Rattle.states.specs.Marks.{clear_to}
use Rattle.states.proofs.gathered_excess.Given as goal

abbrev pub invariant-loop-c : goal.invariant-loop-c
invariant-loop-c l = (l.c ≤ cells) × (eqb l.held 0 ≡ clear_to (words_of l.state) l.c)

abbrev pub decreases-loop-c : goal.decreases-loop-c
decreases-loop-c l = cells - l.c
