-- Five words, one behind another.
-- Assumes nothing.
use Rattle.keeping.proofs.Grant.read.Goals as goal
use Rattle.meaning.specs.Words.{words_of}
use Rattle.meaning.proofs.Bytes.{length_words}
use native.Mathlib.Omega.{arith}
use mathlib.Core.Path.{◌∙◌}
use Rattle.numbering.proofs.Grants.{grant_read}
use Rattle.keeping.proofs.Counting.{words_read}

pub returns : goal.returns
returns c = record {
  grant =
      grant_read (words_of c.args.grants.now) _ _ _ _ _ _ c.word.ensures.word c.word-2.ensures.word c.word-3.ensures.word c.word-4.ensures.word c.word-5.ensures.word
      ∙ words_read (words_of c.args.grants.now) c.args.number (omega (arith, length_words c.args.grants.now));
}
