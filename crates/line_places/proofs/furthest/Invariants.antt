-- The most so far and the most of what is left are the most of all.
-- Assumes nothing.
use lib.ListN.{drop}
use Rattle.line_places.proofs.Most.{Found}
use Rattle.line_places.proofs.furthest.Given as goal

abbrev pub invariant-loop-c : goal.invariant-loop-c
invariant-loop-c l = Found (drop l.at l.text) l.first l.end l.far l.c
