-- To read on from here, with what is stored, is to read all lines.
-- Assumes nothing.
use Prim.Native.Nat.{◌-◌}
use Rattle.listing_reader.proofs.Loop.{Lined}
use Rattle.listing_reader.proofs.read_lines.Given as goal

abbrev pub invariant-loop-i : goal.invariant-loop-i
invariant-loop-i l = Lined l.text l.start l.n l.initial.state l.at (l.n - l.i) l.c l.state
