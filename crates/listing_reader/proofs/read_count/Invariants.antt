-- The digits so far make the count, and to read on from here is to read the count.
-- Assumes nothing.
use Rattle.listing_reader.proofs.Counts.{Counting}
use Rattle.listing_reader.proofs.read_count.Given as goal

abbrev pub invariant-loop-at : goal.invariant-loop-at
invariant-loop-at l = Counting l.text l.start l.at l.count
