-- The most so far and the most of what is left are the most of all.
-- Assumes nothing.
use Rattle.std.proofs.Common.{rules}
use mathlib.Core.Path.{◌≡◌}
use Prim.Native.Nat.{max}
use native.Mathlib.Omega.{arith}
use lib.ListN.{drop}
use Rattle.line_places.proofs.Most.{found_next, found_all}
use Rattle.line_places.proofs.furthest.Goals as goal

pub loop-c-preserved : goal.loop-c-preserved
loop-c-preserved c =
    let more : c.max-far.result ≡ max c.loop-c.far c.along_cell.result = search rules in
    found_next (drop c.args.at c.args.text.now) c.args.first c.args.end c.loop-c.far c.loop-c.c c.loop-c.invariant (omega arith) c.along_cell.ensures.bytes more

pub returns : goal.returns
returns c = record { bytes = found_all (drop c.args.at c.args.text.now) c.args.first c.args.end c.loop-c.far c.loop-c.c c.loop-c.invariant (omega arith) }
