-- A whole state has a word for each cell.
-- Assumes nothing.
use Rattle.std.proofs.Common.{arith}
use Rattle.meaning.proofs.Bytes.{length_words}
use Rattle.states.proofs.value.Goals as goal

pub word-requires : goal.word-requires
word-requires c = record { inside = omega (arith, length_words c.args.state.now) }
