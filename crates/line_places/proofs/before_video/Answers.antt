-- The bytes are those of the cell's offset.
-- Assumes nothing.
use Rattle.line_places.proofs.Names.{name_video_lem}
use Rattle.line_places.proofs.before_video.Goals as goal

pub returns : goal.returns
returns c = record {
  text = name_video_lem c.args.cell c.offset_of-offset.result c.offset_of-offset.ensures.offset _ _ _ _
      c.hex_digit.ensures.digit
      c.hex_digit-2.ensures.digit
      c.hex_digit-3.ensures.digit
      c.hex_digit-4.ensures.digit;
}
