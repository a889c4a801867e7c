-- The invariant: what is counted, with the marked cells that are left, is the number of all; and no more is counted than cells are passed.
-- Assumes nothing.
use Rattle.std.proofs.Common.{◌≡◌, ◌+◌, ◌-◌, ◌≤◌}
use Rattle.meaning.specs.Words.{words_of}
use Rattle.meaning.specs.State.{marked, count_in}
use Rattle.states.proofs.marked_between.Given as goal

abbrev pub invariant-loop-c : goal.invariant-loop-c
invariant-loop-c l = (l.n + l.first ≤ l.c) × (l.n + count_in (marked (words_of l.state)) l.c (l.end - l.c) ≡ count_in (marked (words_of l.state)) l.first (l.end - l.first))

abbrev pub decreases-loop-c : goal.decreases-loop-c
decreases-loop-c l = l.end - l.c
