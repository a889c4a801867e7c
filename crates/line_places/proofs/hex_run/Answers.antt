-- The digits, one after another: the invariant says that to go along from here is to go along the whole.
-- Assumes nothing.
use mathlib.Core.Path.{◌≡◌}
use native.Mathlib.Omega.{arith}
use Rattle.laws.proofs.Arms.{told_true, told_false}
use Rattle.line_places.proofs.Along.{going_short, digits_done, digits_stopped, digits_next}
use Rattle.line_places.proofs.hex_run.Goals as goal
use Rattle.line_places.proofs.hex_run.Goals.{then-text-at-via-then-text-at, then-text-at-via-else-text-at+then-not-is_hex}

pub returns-then-text-at : goal.returns-then-text-at
returns-then-text-at c = record {
  digits =
      elim c.then-text-at.branch [
        | then-text-at-via-then-text-at w ↦ going_short c.loop-i.invariant (omega arith)
        | then-text-at-via-else-text-at+then-not-is_hex w ↦
            digits_stopped c.args.n c.loop-i.invariant (omega arith) (omega arith) (told_false w.is_hex.ensures.hex w.if-not-is_hex.true)
      ];
}

pub loop-i-preserved : goal.loop-i-preserved
loop-i-preserved c = digits_next c.args.n c.loop-i.invariant (omega arith) (omega arith) (told_true c.is_hex.ensures.hex c.if-not-is_hex.false)

pub returns : goal.returns
returns c = record { digits = let e : c.loop-i.i ≡ c.args.n = omega arith in rw e at (digits_done c.args.n c.loop-i.invariant (omega arith)) }
