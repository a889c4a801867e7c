-- The invariant: the values that are left, stored over those that are there now, leave the values of the state; and the bits of the cells that
-- were gone through, once of the state and once of the state without the marks of the pair.
-- Assumes nothing.
use mathlib.Core.Path.{◌≡◌}
use Prim.Native.Nat.{◌≤◌, ◌-◌}
use lib.ListN.{take}
use Rattle.meaning.specs.Words.{words_of}
use Rattle.meaning.specs.Registers.{cells}
use Rattle.states.proofs.Copied.{Leaves}
use Rattle.pair.specs.Marks.{cleared}
use Rattle.engine.specs.Bits.{packed}
use Rattle.engine.proofs.load.Given as goal

abbrev pub invariant-loop-c : goal.invariant-loop-c
invariant-loop-c l =
    (l.c ≤ cells) × (Leaves (take cells (words_of l.state)) l.values l.c × ((l.marked ≡ packed (words_of l.state) l.c l.initial.marked) × (l.marks ≡ packed (cleared (words_of l.state)) l.c l.initial.marks)))

abbrev pub decreases-loop-c : goal.decreases-loop-c
decreases-loop-c l = cells - l.c
