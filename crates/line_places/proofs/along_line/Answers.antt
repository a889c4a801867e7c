-- A line's parts, one behind the other; each way out is a law of Runs.
-- Assumes nothing.
use mathlib.Core.List.{map}
use Prim.Native.Nat.{◌+◌, ◌≤◌}
use native.Mathlib.Omega.{arith}
use lib.ListN.{length, replicate}
use Rattle.meaning.specs.ListingReader.{fixed, any_digit}
use Rattle.line_places.proofs.Runs.{along_inside, run_left, run_digits, run_short, run_other, run_whole}
use Rattle.line_places.proofs.along_line.Goals as goal
use Rattle.line_places.proofs.along_line.Goals.{After-agree-agreed, After-hex_run-digits}

-- what agrees lies inside the text,
agreed-inside : (c : After-agree-agreed) → c.args.at + c.agree-agreed.result ≤ length c.args.text.now
agreed-inside c =
    (along_inside (map fixed c.args.before.now) c.args.text.now c.args.at c.agree-agreed.result c.requires.inside c.agree-agreed.ensures.bytes).0

-- and so do the digits
digits-inside : (c : After-hex_run-digits)
    → c.args.at + c.agree-agreed.result + c.hex_run-digits.result ≤ length c.args.text.now
digits-inside c =
    let agreed = (along_inside (map fixed c.args.before.now) c.args.text.now c.args.at c.agree-agreed.result c.requires.inside c.agree-agreed.ensures.bytes).0 in
    (along_inside (replicate c.args.n any_digit) c.args.text.now (c.args.at + c.agree-agreed.result) c.hex_run-digits.result agreed c.hex_run-digits.ensures.digits).0

pub returns-then-agreed-before : goal.returns-then-agreed-before
returns-then-agreed-before c = record { bytes = run_left c.args.text.now c.args.before.now c.args.at c.args.n c.agree-agreed.result c.agree-agreed.ensures.bytes (omega arith) }

pub overflow_add-at : goal.overflow_add-at
overflow_add-at c = omega (arith, agreed-inside (goal.at.overflow_add-at c).After-agree-agreed)

pub hex_run-digits-requires : goal.hex_run-digits-requires
hex_run-digits-requires c = record { inside = agreed-inside (goal.at.hex_run-digits-requires c).After-agree-agreed }

pub overflow_add-result : goal.overflow_add-result
overflow_add-result c = omega (arith, digits-inside (goal.at.overflow_add-result c).After-hex_run-digits)

pub returns-then-digits-n : goal.returns-then-digits-n
returns-then-digits-n c = record { bytes = run_digits c.args.text.now c.args.before.now c.args.at c.args.n c.agree-agreed.result c.agree-agreed.ensures.bytes (omega arith) c.hex_run-digits.result c.hex_run-digits.ensures.digits (omega arith) }

pub overflow_add-end : goal.overflow_add-end
overflow_add-end c = omega (arith, agreed-inside (goal.at.overflow_add-end c).After-agree-agreed)

pub overflow_add-end-2 : goal.overflow_add-end-2
overflow_add-end-2 c = omega (arith, digits-inside (goal.at.overflow_add-end-2 c).After-hex_run-digits)

pub overflow_add-result-then-text-end : goal.overflow_add-result-then-text-end
overflow_add-result-then-text-end c = omega (arith, digits-inside (goal.at.overflow_add-result-then-text-end c).After-hex_run-digits)

pub returns-then-text-end : goal.returns-then-text-end
returns-then-text-end c = record { bytes = run_short c.args.text.now c.args.before.now c.args.at c.args.n c.agree-agreed.result c.agree-agreed.ensures.bytes (omega arith) c.hex_run-digits.result c.hex_run-digits.ensures.digits (omega arith) (omega arith) }

pub returns-then-text-end-ne10 : goal.returns-then-text-end-ne10
returns-then-text-end-ne10 c = record { bytes = run_other c.args.text.now c.args.before.now c.args.at c.args.n c.agree-agreed.result c.agree-agreed.ensures.bytes (omega arith) c.hex_run-digits.result c.hex_run-digits.ensures.digits (omega arith) (omega arith) (λ e. omega arith) }

pub returns : goal.returns
returns c = record { bytes = run_whole c.args.text.now c.args.before.now c.args.at c.args.n c.agree-agreed.result c.agree-agreed.ensures.bytes (omega arith) c.hex_run-digits.result c.hex_run-digits.ensures.digits (omega arith) (omega arith) (omega arith) }
