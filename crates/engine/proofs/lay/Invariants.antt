-- The invariant: the cells that were gone through are laid.
-- Assumes nothing.
use Prim.Native.Nat.{◌≤◌, ◌-◌}
use Rattle.meaning.specs.Registers.{cells}
use Rattle.engine.proofs.Closing.{Laid}
use Rattle.engine.proofs.lay.Given as goal

abbrev pub invariant-loop-c : goal.invariant-loop-c
invariant-loop-c l = (l.c ≤ cells) × Laid l.values l.marks l.state l.c

abbrev pub decreases-loop-c : goal.decreases-loop-c
decreases-loop-c l = cells - l.c
