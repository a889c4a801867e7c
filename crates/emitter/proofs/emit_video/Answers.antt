-- The invariant: to emit the video cells from c on, from the place reached, is to emit all of them.
-- Assumes nothing.
use native.Mathlib.Omega.{arith}
use Rattle.meaning.specs.Words.{words_of}
use Rattle.meaning.specs.Registers.{end_video}
use Rattle.emitter.specs.Videos.{video_words}
use Rattle.emitter_3d.proofs.Runs.{begun, same_long, row_room, row_went, row_past}
use Rattle.emitter.proofs.Videos.{video_row}
use Rattle.emitter.proofs.emit_video.Goals as goal

pub loop-c-init : goal.loop-c-init
loop-c-init c = record { low = omega arith; high = omega arith; left = begun _ _ _ (video_row (words_of c.args.state.now)) }

pub emit_video_cell-end-requires : goal.emit_video_cell-end-requires
emit_video_cell-end-requires c = record {
  whole = c.requires.whole;
  low = omega arith;
  high = omega arith;
  room = row_room (video_words (words_of c.args.state.now)) c.loop-c.c end_video c.loop-c.invariant.left (omega arith) c.requires.room;
}

pub loop-c-preserved : goal.loop-c-preserved
loop-c-preserved c =
    let cell = c.emit_video_cell-end.ensures in
    record {
      low = omega arith;
      high = omega arith;
      left = row_went (video_words (words_of c.args.state.now)) c.loop-c.c end_video c.loop-c.invariant.left (omega arith) (cell.end, cell.words);
    }

pub shape_of-out : goal.shape_of-out
shape_of-out c = same_long c.loop-c.invariant.left

pub returns : goal.returns
returns c = record { words = (row_past (video_words (words_of c.args.state.now)) c.loop-c.c end_video c.loop-c.invariant.left (omega arith)).1 }
