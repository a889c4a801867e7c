-- The invariant: the words that are left, stored over the state as it is now, leave the words of the bytes.
-- Assumes nothing.
use Rattle.std.proofs.Common.{arith}
use Rattle.meaning.specs.Words.{words_of}
use Rattle.meaning.proofs.Bytes.{length_words}
use Rattle.states.proofs.Copied.{at_first, one_copied, all_copied}
use Rattle.states.proofs.load.Goals as goal

pub loop-i-init : goal.loop-i-init
loop-i-init c = (omega arith, at_first (words_of c.args.bytes.now) c.args.state.now (omega arith))

pub word-requires : goal.word-requires
word-requires c = record { inside = omega (arith, length_words c.args.bytes.now) }

pub loop-i-preserved : goal.loop-i-preserved
loop-i-preserved c = let ws = words_of c.args.bytes.now in
    (omega arith, one_copied ws c.loop-i.state c.loop-i.i c.word.result (omega arith) c.word.ensures.word c.loop-i.invariant.1)

pub returns : goal.returns
returns c = record { loaded = all_copied (words_of c.args.bytes.now) c.loop-i.state c.loop-i.i (omega arith) c.loop-i.invariant.1 }
