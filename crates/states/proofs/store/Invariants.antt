-- The invariant: the words that are left, stored over the bytes as they are now, leave the bytes of all of them over the front.
-- Assumes nothing.
use Rattle.std.proofs.Common.{◌≡◌, ◌-◌, ◌≤◌, length}
use lib.Seq.{slice}
use Rattle.laws.specs.Lists.{over}
use Rattle.meaning.specs.Words.{bytes_of}
use Rattle.meaning.specs.State.{state_words}
use Rattle.words.specs.Stores.{put_words}
use Rattle.states.proofs.store.Given as goal

abbrev pub invariant-loop-i : goal.invariant-loop-i
invariant-loop-i l =
    (l.i ≤ state_words) × (length l.bytes ≡ length l.initial.bytes) × (put_words l.bytes l.i (slice l.i state_words l.state) ≡ over (bytes_of l.state) l.initial.bytes)

abbrev pub decreases-loop-i : goal.decreases-loop-i
decreases-loop-i l = state_words - l.i
