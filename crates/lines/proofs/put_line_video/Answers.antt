-- The four pieces of the line, one behind the other.
-- Assumes nothing.
use Rattle.registers.specs.Names.{offset_of}
use Rattle.lines.specs.Lines.{cell_line_video}
use Rattle.lines.proofs.Pieces.{line_video_pieces}
use Rattle.lines.proofs.put_line_video.Goals as goal

pub returns : goal.returns
unfolding cell_line_video
returns c = record {
  stored = rw (c.put_value.ensures.stored, c.put_pair-2.ensures.stored, c.put_pair.ensures.stored, c.put_reg_key.ensures.stored, c.offset_of-offset.ensures.offset)
      (line_video_pieces c.args.out.now c.args.at (offset_of c.args.cell) c.args.value);
}
