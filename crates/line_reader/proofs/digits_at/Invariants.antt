-- The digits before i make the value.
-- Assumes nothing.
use Rattle.line_reader.proofs.Values.{Making}
use Rattle.line_reader.proofs.digits_at.Given as goal

abbrev pub invariant-loop-i : goal.invariant-loop-i
invariant-loop-i l = Making l.text l.at l.value l.i
