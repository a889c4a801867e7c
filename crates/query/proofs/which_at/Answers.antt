-- No such cell, an unmarked one, cell 1, or the value of another.
-- Assumes nothing.
use mathlib.Core.Path.{◌∙◌}
use native.Mathlib.Omega.{arith}
use Rattle.meaning.specs.Words.{words_of}
use Rattle.meaning.specs.Grants.{terms_of}
use Rattle.pair.proofs.Judged.{which_is}
use Rattle.query.proofs.Asked.{at_no_cell, at_unmarked, at_target, at_other}
use Rattle.query.proofs.which_at.Goals as goal

pub returns-then-cell-ge-CELLS : goal.returns-then-cell-ge-CELLS
returns-then-cell-ge-CELLS c = record { at = λ ws fine names. at_no_cell (terms_of ws) (words_of c.args.state.now) c.args.cell (omega arith) }

pub returns-then-mark-eq0 : goal.returns-then-mark-eq0
returns-then-mark-eq0 c = record { at = λ ws fine names. at_unmarked (terms_of ws) (words_of c.args.state.now) c.args.cell (omega arith) c.mark.ensures.mark c.if-mark-eq0.true }

pub returns-then-cell-eq-TARGET_CELL : goal.returns-then-cell-eq-TARGET_CELL
returns-then-cell-eq-TARGET_CELL c = record {
  at = λ ws fine names.
      let k = c.args.kept.now in
      let told = which_is ws fine k.starts.now k.lasts.now k.numbers.now k.bounds.now names (words_of c.args.state.now) in
      let its = c.part_of.ensures.role in
      at_target (terms_of ws) (words_of c.args.state.now) c.args.cell (omega arith) c.mark.ensures.mark c.if-mark-eq0.false c.if-cell-eq-TARGET_CELL.true
      (c.which.ensures.which ∙ rw (its.starts, its.lasts, its.numbers, its.part) told);
}

pub returns : goal.returns
returns c = record {
  at = λ ws fine names.
      let other = c.if-cell-eq-TARGET_CELL.false in
      at_other (terms_of ws) (words_of c.args.state.now) c.args.cell (omega arith) c.mark.ensures.mark c.if-mark-eq0.false other c.value.ensures.value (c.which_stored.ensures.stored ws names other);
}
