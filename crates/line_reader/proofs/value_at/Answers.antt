-- The key, the equals sign, the newline, the digits; each way out is a law of Values.
-- Assumes nothing.
use native.Mathlib.Omega.{arith}
use Rattle.line_reader.proofs.Values.{no_key, no_equals, no_newline, value_of}
use Rattle.line_reader.proofs.value_at.Goals as goal

pub returns-then-four-ne-VAL_KEY : goal.returns-then-four-ne-VAL_KEY
returns-then-four-ne-VAL_KEY c = record { value = no_key c.args.text.now c.args.at c.requires.inside c.four.ensures.four (λ e. omega arith) }

pub returns-then-text-at-ne61 : goal.returns-then-text-at-ne61
returns-then-text-at-ne61 c = record { value = no_equals c.args.text.now c.args.at c.requires.inside c.four.ensures.four (λ e. omega arith) }

pub returns-then-text-at-ne10 : goal.returns-then-text-at-ne10
returns-then-text-at-ne10 c = record { value = no_newline c.args.text.now c.args.at c.requires.inside c.four.ensures.four (λ e. omega arith) }

pub returns : goal.returns
returns c = record {
  value = value_of c.args.text.now c.args.at c.requires.inside c.four.ensures.four (omega arith) (omega arith) (omega arith) c.digits_at.result c.digits_at.ensures.value;
}
