-- By the two tests.
-- Assumes nothing.
use Rattle.laws.specs.Tests.{within}
use Rattle.laws.proofs.Tests.{within_iff, false_of}
use native.Mathlib.Omega.{arith}
use Rattle.engine.proofs.outside_pair.Goals as goal

pub returns-then-cell-eq-TARGET_CELL : goal.returns-then-cell-eq-TARGET_CELL
returns-then-cell-eq-TARGET_CELL c = record { mark = rw c.if-cell-eq-TARGET_CELL.true }

pub returns-then-cell-eq-LOCATION_CELL : goal.returns-then-cell-eq-LOCATION_CELL
returns-then-cell-eq-LOCATION_CELL c = record { mark = rw c.if-cell-eq-LOCATION_CELL.true }

pub returns : goal.returns
returns c = record { mark = rw (false_of (within 1 2 c.args.cell.0) (λ t. omega (arith, (within_iff 1 2 c.args.cell.0).0 t))) }
