-- The invariant: the words that are left, stored over the bytes as they are now, leave the bytes of all of them over the front.
-- Assumes nothing.
use Rattle.std.proofs.Common.{arith}
use Rattle.meaning.specs.State.{state_words}
use Rattle.meaning.proofs.Bytes.{length_words}
use Rattle.words.proofs.Stores.{word_stored}
use Rattle.states.proofs.Copied.{before_stores, all_stored}
use Rattle.states.proofs.store.Goals as goal

pub loop-i-init : goal.loop-i-init
loop-i-init c = let room = length_words c.args.bytes.now in
    (omega arith, omega arith, before_stores c.args.state.now c.args.bytes.now state_words (omega arith) (omega arith))

pub put_word-requires : goal.put_word-requires
put_word-requires c = record { inside = omega (arith, length_words c.args.bytes.now) }

pub returns : goal.returns
returns c = record { stored = all_stored c.args.state.now c.loop-i.bytes _ state_words c.loop-i.i (omega arith) c.loop-i.invariant.2 }

pub loop-i-preserved : goal.loop-i-preserved
loop-i-preserved c = (
  omega arith,
  omega (arith, c.put_word.auto.bytes),
  rw c.put_word.ensures.stored (word_stored c.args.state.now c.loop-i.bytes _ state_words c.loop-i.i (omega arith) (omega arith) c.loop-i.invariant.2),
)
