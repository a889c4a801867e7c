-- An unmarked cell emits nothing, and a marked one a packet of one word.
-- Assumes nothing.
use mathlib.Core.Path.{◌≡◌, sym, ap, ◌∙◌}
use Prim.Native.Nat.{◌+◌, ◌/◌, ◌≤◌}
use native.Mathlib.Omega.{arith}
use lib.ListN.{length}
use Rattle.meaning.specs.declared.VideoOffset.{VideoOffset}
use Rattle.meaning.specs.Words.{words_of}
use Rattle.meaning.specs.State.{mark_at}
use Rattle.words.proofs.Stores.{length_put}
use Rattle.emitter_3d.proofs.Cells.{emits_none, two_stored}
use Rattle.emitter.proofs.Videos.{video_none, video_one, offset_short}
use Rattle.emitter.proofs.emit_video_cell.Goals as goal
use Rattle.emitter.proofs.emit_video_cell.Goals.{Else-mark-eq0}

pub returns-then-mark-eq0 : goal.returns-then-mark-eq0
returns-then-mark-eq0 c =
    let both = emits_none c.args.out.now c.args.at (video_none (words_of c.args.state.now) c.args.cell (sym c.mark.ensures.mark ∙ c.if-mark-eq0.true)) in
    record { end = both.0; words = both.1 }

-- the cell is marked here
is_marked : (c : goal.Else-mark-eq0) → mark_at (words_of c.args.state.now) c.args.cell ≡ 0 → ⊥
is_marked c e = c.if-mark-eq0.false (c.mark.ensures.mark ∙ e)

room : (c : goal.Else-mark-eq0) → c.args.at + 2 ≤ length c.args.out.now / 4
room c = omega (arith, c.requires.room, ap length (video_one (words_of c.args.state.now) c.args.cell (is_marked c)))

pub overflow_add-offset : goal.overflow_add-offset
overflow_add-offset c = omega (arith, offset_short c.args.cell c.requires.low c.requires.high, ap (λ (o : VideoOffset). o.0) c.offset_of-offset.ensures.offset)

pub put_word-requires : goal.put_word-requires
put_word-requires c = record { inside = omega (arith, room (goal.at.put_word-requires c).Else-mark-eq0) }

pub put_word-requires-2 : goal.put_word-requires-2
put_word-requires-2 c = record { inside = omega (arith, room (goal.at.put_word-requires-2 c).Else-mark-eq0, ap length c.put_word.ensures.stored ∙ length_put _ _ _) }

pub returns : goal.returns
returns c =
    let one = video_one (words_of c.args.state.now) c.args.cell (is_marked (goal.at.returns c).Else-mark-eq0) in
    record {
      end = rw one (omega arith);
      words =
          rw (one, ← c.offset_of-offset.ensures.offset, ← c.value.ensures.value) (two_stored _ _ _ _ c.put_word.ensures.stored c.put_word-2.ensures.stored);
    }
