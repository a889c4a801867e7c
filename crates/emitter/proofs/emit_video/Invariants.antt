-- The invariant: to emit the video cells from c on, from the place reached, is to emit all of them.
-- Assumes nothing.
use Prim.Native.Nat.{◌-◌, ◌≤◌}
use Rattle.meaning.specs.Words.{words_of}
use Rattle.meaning.specs.Registers.{first_video, end_video, sections_video}
use Rattle.emitter_3d.specs.Emitted.{words_of_sections}
use Rattle.emitter.specs.Videos.{video_words}
use Rattle.emitter_3d.proofs.Runs.{Runs, in_row}
use Rattle.emitter.proofs.emit_video.Given as goal

abbrev pub invariant-loop-c : goal.invariant-loop-c
invariant-loop-c l = record {
  low : first_video ≤ l.c;
  high : l.c ≤ end_video;
  left : Runs (words_of_sections (words_of l.state) sections_video) l.initial.out l.at (in_row (video_words (words_of l.state)) l.c (end_video - l.c)) l.out l.end;
}

abbrev pub decreases-loop-c : goal.decreases-loop-c
decreases-loop-c l = end_video - l.c
