-- No digit where the number has fewer units; else one below ten.
-- Assumes nothing.
use mathlib.Core.Path.{refl}
use Prim.Native.Nat.{◌/◌, ◌%◌}
use native.Mathlib.Omega.{arith}
use borrow.Author.Tests.{lt-leb, le-leb}
use Rattle.list_batch.specs.Printed.{digit_for}
use Rattle.list_batch.proofs.Puts.{digit_small}
use Rattle.list_batch.proofs.put_digit.Goals as goal

pub returns-then-n-unit : goal.returns-then-n-unit
unfolding digit_for
returns-then-n-unit c = record { put = rw (lt-leb _ _ c.if-n-unit.true) (record { stored = refl; ends = omega arith }) }

pub returns : goal.returns
unfolding digit_for
returns c = record { put = rw (le-leb _ _ c.if-n-unit.false, ← digit_small (c.args.n / c.args.unit % 10) (omega arith)) (record { stored = refl; ends = refl }) }
