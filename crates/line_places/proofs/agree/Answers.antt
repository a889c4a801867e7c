-- The bytes that agree, one after another: the invariant says that to go along from here is to go along the whole.
-- Assumes nothing.
use mathlib.Core.Path.{◌≡◌}
use native.Mathlib.Omega.{arith}
use lib.ListN.{length}
use Rattle.line_places.proofs.Along.{going_short, agree_done, agree_stopped, agree_next}
use Rattle.line_places.proofs.agree.Goals as goal
use Rattle.line_places.proofs.agree.Goals.{then-text-at-via-then-text-at, then-text-at-via-else-text-at+then-text-at-2}

pub returns-then-text-at : goal.returns-then-text-at
returns-then-text-at c = record {
  bytes =
      elim c.then-text-at.branch [
        | then-text-at-via-then-text-at w ↦ going_short c.loop-i.invariant (omega arith)
        | then-text-at-via-else-text-at+then-text-at-2 w ↦ agree_stopped c.args.expected.now c.loop-i.invariant (omega arith) (omega arith) (λ e. omega arith)
      ];
}

pub loop-i-preserved : goal.loop-i-preserved
loop-i-preserved c = agree_next c.args.expected.now c.loop-i.invariant (omega arith) (omega arith) (omega arith)

pub returns : goal.returns
returns c = record {
  bytes = let e : c.loop-i.i ≡ length c.args.expected.now = omega arith in rw e at (agree_done c.args.expected.now c.loop-i.invariant (omega arith));
}
