-- The invariant: the words that are left, stored over the state as it is now, leave the words of the bytes.
-- Assumes nothing.
use Rattle.std.proofs.Common.{◌-◌, ◌≤◌}
use Rattle.meaning.specs.Words.{words_of}
use Rattle.meaning.specs.State.{state_words}
use Rattle.states.proofs.Copied.{Leaves}
use Rattle.states.proofs.load.Given as goal

abbrev pub invariant-loop-i : goal.invariant-loop-i
invariant-loop-i l = (l.i ≤ state_words) × Leaves (words_of l.bytes) l.state l.i

abbrev pub decreases-loop-i : goal.decreases-loop-i
decreases-loop-i l = state_words - l.i
