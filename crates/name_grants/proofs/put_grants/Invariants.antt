-- The invariant: the places of the cells that are left, stored behind those that are put, give what all give over the buffer at entry.
-- Assumes nothing.
use Prim.Native.Nat.{◌-◌, ◌≤◌}
use Rattle.meaning.specs.Registers.{cells}
use Rattle.name_grants.proofs.Places.{Going}
use Rattle.name_grants.proofs.put_grants.Given as goal

abbrev pub invariant-loop-c : goal.invariant-loop-c
invariant-loop-c l = (l.c ≤ cells) × Going l.state l.grants l.initial.out l.out l.count l.c

abbrev pub decreases-loop-c : goal.decreases-loop-c
decreases-loop-c l = cells - l.c
