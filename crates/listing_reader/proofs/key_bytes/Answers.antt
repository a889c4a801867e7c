-- The bytes that agree, one after another: the invariant says that to go along from here is to go along the whole.
-- Assumes nothing.
use mathlib.Core.Path.{◌≡◌}
use native.Mathlib.Omega.{arith}
use native.Mathlib.Nat.{zero-add}
use Rattle.meaning.specs.Text.{ascii}
use Rattle.meaning.specs.ListingReader.{head_form}
use Rattle.line_places.proofs.Along.{going_start, going_short, agree_done, agree_stopped, agree_next}
use Rattle.listing_reader.proofs.key_bytes.Goals as goal
use Rattle.listing_reader.proofs.key_bytes.Goals.{then-text-i-via-then-text-i, then-text-i-via-else-text-i+then-text-i-2}

pub loop-i-init : goal.loop-i-init
loop-i-init c = going_start head_form c.args.text.now 0

pub returns-then-text-i : goal.returns-then-text-i
returns-then-text-i c = record {
  bytes =
      elim c.then-text-i.branch [
        | then-text-i-via-then-text-i w ↦ going_short c.loop-i.invariant (omega arith)
        | then-text-i-via-else-text-i+then-text-i-2 w ↦
            agree_stopped (ascii "cells=") c.loop-i.invariant (omega arith) (omega arith) (rw (zero-add c.loop-i.i) w.if-text-i-2.true)
      ];
}

pub loop-i-preserved : goal.loop-i-preserved
loop-i-preserved c = agree_next (ascii "cells=") c.loop-i.invariant (omega arith) (omega arith) (rw (zero-add c.loop-i.i) c.if-text-i-2.false)

pub returns : goal.returns
returns c = record { bytes = let e : c.loop-i.i ≡ 6 = omega arith in rw e at (agree_done (ascii "cells=") c.loop-i.invariant (omega arith)) }
