-- The invariant: to emit the rows from number k on, from the place reached, is to emit all of them.
-- Assumes nothing.
use Prim.Native.Nat.{◌-◌}
use Rattle.meaning.specs.Words.{words_of}
use Rattle.emitter_3d.specs.Emitted.{parameters_from}
use Rattle.emitter_3d.proofs.Runs.{Runs, in_row}
use Rattle.emitter_3d.proofs.Emitted.{row_at}
use Rattle.emitter_3d.proofs.emit_rows.Given as goal

abbrev pub invariant-loop-k : goal.invariant-loop-k
invariant-loop-k l =
    Runs (parameters_from (words_of l.state) l.cell l.address l.rows) l.initial.out l.at (in_row (row_at (words_of l.state) l.cell l.address) l.k (l.rows - l.k)) l.out l.end

abbrev pub decreases-loop-k : goal.decreases-loop-k
decreases-loop-k l = l.rows - l.k
