-- The five pieces of the line, one behind the other.
-- Assumes nothing.
use Rattle.registers.specs.Names.{name_of, type_of, sub_type_of, address_of}
use Rattle.lines.specs.Lines.{cell_line_3d}
use Rattle.lines.proofs.Pieces.{line_3d_pieces}
use Rattle.lines.proofs.put_line_3d.Goals as goal

pub returns : goal.returns
unfolding name_of cell_line_3d
returns c = record {
  stored = rw (c.put_value.ensures.stored, c.put_pair.ensures.stored, c.put_dotted-2.ensures.stored, c.put_dotted.ensures.stored, c.put_reg_key.ensures.stored, c.name_of-name.ensures.name)
      (line_3d_pieces c.args.out.now c.args.at (type_of c.args.cell) (sub_type_of c.args.cell) (address_of c.args.cell) c.args.value);
}
