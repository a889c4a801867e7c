-- The three pieces of the text, one behind the other.
-- Assumes nothing.
use Rattle.lines.proofs.Pieces.{value_pieces}
use Rattle.lines.proofs.put_value.Goals as goal

pub returns : goal.returns
returns c = record { stored = rw (c.put_word.ensures.stored, c.put_val_key.ensures.stored) (value_pieces c.args.out.now c.args.at c.args.value) }
