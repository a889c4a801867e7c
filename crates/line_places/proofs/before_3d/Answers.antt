-- The bytes are those of the cell's name.
-- Assumes nothing.
use Rattle.line_places.proofs.Names.{name_3d_lem}
use Rattle.line_places.proofs.before_3d.Goals as goal

pub returns : goal.returns
returns c = record {
  text = name_3d_lem c.args.cell c.name_of-name.result c.name_of-name.ensures.name _ _ _ _ _ _
      c.hex_digit.ensures.digit
      c.hex_digit-2.ensures.digit
      c.hex_digit-3.ensures.digit
      c.hex_digit-4.ensures.digit
      c.hex_digit-5.ensures.digit
      c.hex_digit-6.ensures.digit;
}
