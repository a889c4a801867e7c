-- The invariant: what is counted, with the groups that are left, is the need of all; and no group needs more than its cells and two words.
-- Assumes nothing.
use mathlib.Core.Path.{◌≡◌}
use Prim.Native.Nat.{◌+◌, ◌*◌, ◌-◌, ◌≤◌}
use Rattle.meaning.specs.Words.{words_of}
use Rattle.meaning.specs.Registers.{cells}
use Rattle.meaning.specs.State.{marked}
use Rattle.needs.specs.Series.{series_need}
use Rattle.needs.proofs.series_need.Given as goal

abbrev pub invariant-loop-n : goal.invariant-loop-n
invariant-loop-n l = record {
  within : l.n ≤ l.count;
  few : l.need ≤ (cells + 2) * l.n;
  left : l.need + series_need (marked (words_of l.state)) l.first l.rows l.n (l.count - l.n) ≡ series_need (marked (words_of l.state)) l.first l.rows 0 l.count;
}

abbrev pub decreases-loop-n : goal.decreases-loop-n
decreases-loop-n l = l.count - l.n
