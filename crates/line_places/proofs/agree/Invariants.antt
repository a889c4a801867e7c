-- The bytes that agree, one after another: the invariant says that to go along from here is to go along the whole.
-- Assumes nothing.
use mathlib.Core.List.{map}
use Rattle.meaning.specs.ListingReader.{fixed}
use Rattle.line_places.proofs.Along.{Going}
use Rattle.line_places.proofs.agree.Given as goal

abbrev pub invariant-loop-i : goal.invariant-loop-i
invariant-loop-i l = Going (map fixed l.expected) l.text l.at l.i
