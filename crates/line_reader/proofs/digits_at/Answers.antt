-- The digits before i make the value.
-- Assumes nothing.
use Rattle.std.proofs.Common.{rules, of_calls, None}
use mathlib.Core.Path.{◌≡◌}
use native.Mathlib.Omega.{arith}
use Rattle.line_reader.proofs.Digits.{hex_some}
use Rattle.line_reader.proofs.Values.{making_start, making_done, making_stopped, making_fits, making_next}
use Rattle.line_reader.proofs.digits_at.Goals as goal

pub loop-i-init : goal.loop-i-init
loop-i-init c = making_start c.args.text.now c.args.at c.requires.inside

pub overflow_mul-value : goal.overflow_mul-value
overflow_mul-value c = omega (arith, making_fits c.loop-i.invariant (omega arith) 0 (omega arith))

pub returns-in_err-value : goal.returns-in_err-value
returns-in_err-value c =
    let none : c.from_residual.result ≡ None = search (rules, of_calls) in
    record { value = rw none (making_stopped c.loop-i.invariant (omega arith) c.in_err-value.ensures.digit) }

pub overflow_add-value : goal.overflow_add-value
overflow_add-value c = omega (arith, making_fits c.loop-i.invariant (omega arith) c.in_ok-value.field-0 (hex_some _ c.in_ok-value.ensures.digit).1)

pub loop-i-preserved : goal.loop-i-preserved
loop-i-preserved c = making_next c.loop-i.invariant (omega arith) c.in_ok-value.ensures.digit

pub returns : goal.returns
returns c = record { value = making_done c.loop-i.invariant (omega arith) }
