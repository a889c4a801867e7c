-- The bytes that agree, one after another: the invariant says that to go along from here is to go along the whole.
-- Assumes nothing.
use Rattle.meaning.specs.ListingReader.{head_form}
use Rattle.line_places.proofs.Along.{Going}
use Rattle.listing_reader.proofs.key_bytes.Given as goal

abbrev pub invariant-loop-i : goal.invariant-loop-i
invariant-loop-i l = Going head_form l.text 0 l.i
