-- The invariant: to emit the groups from number n on, from the place reached, is to emit all of them. Where that is the place at which
-- the words of all groups end, none is left, and the rest of the groups need not be looked at.
-- Assumes nothing.
use Prim.Native.Nat.{◌-◌}
use Rattle.meaning.specs.Words.{words_of}
use Rattle.emitter_3d.specs.Emitted.{series_from, many}
use Rattle.emitter_3d.proofs.Runs.{Runs, in_row}
use Rattle.emitter_3d.proofs.Emitted.{group_at}
use Rattle.emitter_3d.proofs.emit_series.Given as goal

abbrev pub invariant-loop-n : goal.invariant-loop-n
invariant-loop-n l =
    Runs (series_from (words_of l.state) l.first l.rows l.low.0 l.sub 0 many) l.initial.out l.start (in_row (group_at (words_of l.state) l.first l.rows l.low.0 l.sub) l.n (many - l.n)) l.out l.at

abbrev pub decreases-loop-n : goal.decreases-loop-n
decreases-loop-n l = many - l.n
