-- The invariant: the bytes that are left, stored over the buffer as it is now, give what all eight give over the buffer at entry.
-- Assumes nothing.
use mathlib.Core.Path.{◌≡◌}
use Prim.Native.Nat.{◌-◌, ◌≤◌}
use lib.ListN.{length}
use lib.Seq.{sets}
use Rattle.restore_listing.specs.Restored.{number_bytes}
use Rattle.restore_listing.proofs.Fronts.{low_bytes}
use Rattle.restore_listing.proofs.put_number.Given as goal

abbrev pub invariant-loop-i : goal.invariant-loop-i
invariant-loop-i l = (l.i ≤ 8) × (length l.out ≡ length l.initial.out) × (sets l.out l.i (low_bytes (8 - l.i) l.left) ≡ sets l.initial.out 0 (number_bytes l.n))

abbrev pub decreases-loop-i : goal.decreases-loop-i
decreases-loop-i l = 8 - l.i
