-- Two runs of stores, the second from where the first ended, are one run over the front.
-- Assumes nothing.
use mathlib.Core.Path.{◌≡◌, sym, ap, ◌∙◌}
use mathlib.Core.List.{List}
use Prim.Native.Nat.{ℕ, ◌+◌, ◌/◌, ◌≤◌}
use native.Mathlib.Omega.{arith}
use lib.ListN.{length}
use Rattle.laws.specs.Lists.{over}
use Rattle.meaning.specs.Words.{words_of, bytes_of}
use Rattle.meaning.specs.Registers.{sections_3d, sections_video}
use Rattle.meaning.specs.State.{marked}
use Rattle.meaning.specs.Writer.{written}
use Rattle.meaning.proofs.Writing.{sections_length}
use Rattle.words.specs.Stores.{put_words}
use Rattle.words.proofs.Stores.{length_put, put_append, put_over}
use Rattle.emitter_3d.specs.Emitted.{words_of_sections}
use Rattle.emitter.proofs.Videos.{written_parts, written_length}
use Rattle.emitter.proofs.emit.Goals as goal
use Rattle.emitter.proofs.emit.Goals.{Start}

stored : (st old mid out : List ℕ) (at : ℕ) → length (written st) ≤ length old / 4 → at ≡ length (words_of_sections st sections_3d)
    → mid ≡ put_words old 0 (words_of_sections st sections_3d) → out ≡ put_words mid at (words_of_sections st sections_video) → out ≡ over (bytes_of (written st)) old
stored st old mid out at room ends one two =
    let e : at ≡ 0 + length (words_of_sections st sections_3d) = omega arith in
    rw (two, one, e, put_append old 0 (words_of_sections st sections_3d) (words_of_sections st sections_video), ← written_parts st) (put_over (written st) old room)

-- the words before the video packets end where they are said to
ends : (s : goal.Start) → s.args.before_video ≡ length (words_of_sections (words_of s.args.state.now) sections_3d)
ends s = let st = words_of s.args.state.now in s.requires.before_video ∙ sym (sections_length (marked st) st sections_3d)

pub emit_3d-requires : goal.emit_3d-requires
emit_3d-requires c =
    let e = ends (goal.at.emit_3d-requires c).Start in
    record { whole = c.requires.whole; narrow = c.requires.narrow; end = e; room = omega (arith, e, c.requires.room, written_length (words_of c.args.state.now)) }

pub emit_video-requires : goal.emit_video-requires
emit_video-requires c =
    let st = words_of c.args.state.now in
    let long = ap length c.emit_3d.ensures.words ∙ length_put c.args.out.now 0 (words_of_sections st sections_3d) in
    record { whole = c.requires.whole; room = omega (arith, c.requires.room, written_length st, ends (goal.at.emit_video-requires c).Start, long) }

pub returns : goal.returns
returns c = record {
  words =
      stored (words_of c.args.state.now) c.args.out.now c.emit_3d.new.out c.emit_video.new.out c.args.before_video c.requires.room (ends (goal.at.returns c).Start)
      c.emit_3d.ensures.words c.emit_video.ensures.words;
}
