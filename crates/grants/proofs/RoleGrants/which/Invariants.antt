-- The loop goes from grant to grant up to the last, which is asked behind it. What is left to ask from here on decides for all.
-- Assumes nothing.
use mathlib.Core.Path.{◌≡◌}
use Prim.Native.Nat.{suc, ◌-◌, ◌≤◌, ◌<◌}
use Rattle.meaning.specs.Grants.{most_grants}
use Rattle.grants.specs.Kept.{which_kept}
use Rattle.grants.proofs.RoleGrants.which.Given as goal

abbrev pub invariant-loop-i : goal.invariant-loop-i
invariant-loop-i l =
    (l.i ≤ l.last) × (l.last < most_grants) × (which_kept l.self.starts.now l.self.lasts.now l.self.numbers.now l.i (suc l.last - l.i) l.memory l.address ≡ which_kept l.self.starts.now l.self.lasts.now l.self.numbers.now l.initial.i (suc l.last - l.initial.i) l.memory l.address)

abbrev pub decreases-loop-i : goal.decreases-loop-i
decreases-loop-i l = l.last - l.i
