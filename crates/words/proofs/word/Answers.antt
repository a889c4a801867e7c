-- The sum of four bytes is the word that they make.
-- Assumes nothing.
use native.Mathlib.Omega.{arith}
use Rattle.words.proofs.Words.{word_at}
use Rattle.words.proofs.word.Goals as goal

pub returns : goal.returns
returns c = record { word = omega (arith, word_at c.args.bytes.now c.args.i (omega arith)) }
