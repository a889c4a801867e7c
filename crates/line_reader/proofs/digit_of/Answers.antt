-- The table has what each byte counts.
-- Assumes nothing.
use mathlib.Core.Path.{◌≡◌, ◌∙◌}
use native.Mathlib.Omega.{arith}
use Rattle.line_reader.specs.Named.{digit_or_16}
use Rattle.line_reader.proofs.Digits.{table_at, counts_none, counts_some}
use Rattle.line_reader.proofs.digit_of.Goals as goal
use Rattle.line_reader.proofs.digit_of.Goals.{After-wide-d}

looked_up : (c : After-wide-d) → c.wide-d.result ≡ digit_or_16 c.args.x
looked_up c = c.wide-d.ensures.same ∙ rw c.requires.table (table_at c.args.x (omega arith))

pub returns-then-d-gt15 : goal.returns-then-d-gt15
returns-then-d-gt15 c = record { digit = counts_none c.args.x (looked_up (goal.at.returns-then-d-gt15 c).After-wide-d) (omega arith) }

pub returns : goal.returns
returns c = record { digit = counts_some c.args.x (looked_up (goal.at.returns c).After-wide-d) (omega arith) }
