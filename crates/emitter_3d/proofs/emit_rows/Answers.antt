-- The invariant: to emit the rows from number k on, from the place reached, is to emit all of them.
-- Assumes nothing.
use Prim.Native.Nat.{◌+◌}
use native.Mathlib.Omega.{arith}
use Rattle.meaning.specs.Words.{words_of}
use Rattle.emitter_3d.proofs.Runs.{begun, same_long, row_room_next, row_went, row_past}
use Rattle.emitter_3d.proofs.Emitted.{row_at, rows_row}
use Rattle.emitter_3d.proofs.emit_rows.Goals as goal

pub loop-k-init : goal.loop-k-init
loop-k-init c = begun _ _ _ (rows_row _ _ _ _)

pub emit_parameter-end-requires : goal.emit_parameter-end-requires
emit_parameter-end-requires c =
    let f = row_at (words_of c.args.state.now) c.args.first.0 c.args.low.0 in
    record {
      whole = c.requires.whole;
      inside = omega arith;
      short = omega arith;
      narrow = c.requires.narrow (c.args.first.0 + c.loop-k.k) (omega arith);
      room = row_room_next f c.loop-k.k c.args.rows c.loop-k.invariant (omega arith) c.requires.room;
    }

pub loop-k-preserved : goal.loop-k-preserved
loop-k-preserved c =
    row_went (row_at (words_of c.args.state.now) c.args.first.0 c.args.low.0) c.loop-k.k c.args.rows c.loop-k.invariant (omega arith)
    (c.emit_parameter-end.ensures.end, c.emit_parameter-end.ensures.words)

pub shape_of-out : goal.shape_of-out
shape_of-out c = same_long c.loop-k.invariant

pub returns : goal.returns
returns c =
    let both = row_past (row_at (words_of c.args.state.now) c.args.first.0 c.args.low.0) c.loop-k.k c.args.rows c.loop-k.invariant (omega arith) in
    record { end = both.0; words = both.1 }
