-- By the tests, in their order.
-- Assumes nothing.
use mathlib.Core.Path.{refl, sym, ap, ◌∙◌}
use Rattle.meaning.proofs.Refusals.{refused}
use Rattle.asking.specs.Told.{asked_as}
use Rattle.engine.proofs.Feeding.{one_more, at_cell, fed_stays, fed_full, fed_refused, fed_unstored, fed_stored}
use Rattle.engine.proofs.feed.Goals as goal

pub returns-then-engine-ne0 : goal.returns-then-engine-ne0
returns-then-engine-ne0 c = record { fed = λ g k. fed_stays g c.args.engine c.args.word c.if-engine-ne0.true }

pub returns-then-engine-ge-MOST_FED : goal.returns-then-engine-ge-MOST_FED
returns-then-engine-ge-MOST_FED c = record { fed = λ g k. fed_full g c.args.engine c.args.word c.if-engine-ne0.false c.if-engine-ge-MOST_FED.true }

pub returns-in-Err : goal.returns-in-Err
returns-in-Err c = record {
  fed = λ g k.
      let told = sym (ap asked_as c.in-Err.is) ∙ c.ask.ensures.asked g k in
      rw c.number.ensures.number (fed_refused g c.args.engine c.args.word c.if-engine-ne0.false c.if-engine-ge-MOST_FED.false told (refused _));
}

pub overflow_add-engine : goal.overflow_add-engine
overflow_add-engine c = one_more _ c.if-engine-ge-MOST_FED.false

pub returns-then-cell-ge-CELLS : goal.returns-then-cell-ge-CELLS
returns-then-cell-ge-CELLS c = record {
  fed = λ g k.
      fed_unstored g c.args.engine c.args.word c.if-engine-ne0.false c.if-engine-ge-MOST_FED.false (sym (ap asked_as c.in-Ok.is) ∙ c.ask.ensures.asked g k) refl
      c.if-cell-ge-CELLS.true;
}

pub offset_bounds-engine-cell : goal.offset_bounds-engine-cell
offset_bounds-engine-cell c = at_cell _ c.if-cell-ge-CELLS.false

pub bounds-engine-cell : goal.bounds-engine-cell
bounds-engine-cell c = c.if-cell-ge-CELLS.false

pub set_mark-requires : goal.set_mark-requires
set_mark-requires c = record { inside = c.if-cell-ge-CELLS.false }

pub returns : goal.returns
returns c = record {
  fed = λ g k.
      fed_stored g c.args.engine c.args.word c.if-engine-ne0.false c.if-engine-ge-MOST_FED.false (sym (ap asked_as c.in-Ok.is) ∙ c.ask.ensures.asked g k) refl
      c.if-cell-ge-CELLS.false c.set_mark.ensures.marked;
}
