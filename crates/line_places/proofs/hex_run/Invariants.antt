-- The digits, one after another: the invariant says that to go along from here is to go along the whole.
-- Assumes nothing.
use lib.ListN.{replicate}
use Rattle.meaning.specs.ListingReader.{any_digit}
use Rattle.line_places.proofs.Along.{Going}
use Rattle.line_places.proofs.hex_run.Given as goal

abbrev pub invariant-loop-i : goal.invariant-loop-i
invariant-loop-i l = Going (replicate l.n any_digit) l.text l.at l.i
