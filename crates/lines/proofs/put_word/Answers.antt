-- Four pairs, one behind the other, are the eight digits.
-- Assumes nothing.
use Rattle.lines.proofs.Pieces.{word_pieces}
use Rattle.lines.proofs.put_word.Goals as goal

pub returns : goal.returns
returns c = record { stored = rw (c.put_pair-4.ensures.stored, c.put_pair-3.ensures.stored, c.put_pair-2.ensures.stored, c.put_pair.ensures.stored) (word_pieces c.args.out.now c.args.at c.args.w) }
