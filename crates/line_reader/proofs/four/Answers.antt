-- The sum of four bytes is their word.
-- Assumes nothing.
use native.Mathlib.Omega.{arith}
use Rattle.line_reader.proofs.Fours.{four_of}
use Rattle.line_reader.proofs.four.Goals as goal

pub returns : goal.returns
returns c = record {
  four = four_of c.args.text.now c.args.at (omega arith)
      (omega (arith, c.wide.ensures.same, c.wide.ensures.byte))
      (omega (arith, c.wide-2.ensures.same, c.wide-2.ensures.byte))
      (omega (arith, c.wide-3.ensures.same, c.wide-3.ensures.byte))
      (omega (arith, c.wide-4.ensures.same, c.wide-4.ensures.byte))
      (omega (arith, c.wide.ensures.same, c.wide-2.ensures.same, c.wide-3.ensures.same, c.wide-4.ensures.same));
}
