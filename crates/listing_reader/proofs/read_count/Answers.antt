-- The digits so far make the count, and to read on from here is to read the count.
-- Assumes nothing.
use native.Mathlib.Omega.{arith}
use Rattle.listing_reader.proofs.Counts.{first_none, first_not, first_next, digit_few, count_end, count_line, count_not, count_zero, count_great, count_next}
use Rattle.listing_reader.proofs.read_count.Goals as goal
use Rattle.listing_reader.proofs.read_count.Goals.{then-count-eq0-via-then-count-eq0, then-count-eq0-via-else-count-eq0+then-count-d-gt-CELLS}

pub returns-then-text-start-clause-none : goal.returns-then-text-start-clause-none
returns-then-text-start-clause-none c = first_none c.args.text.now c.args.start (omega arith)

pub returns-in_default-clause-none : goal.returns-in_default-clause-none
returns-in_default-clause-none c = first_not c.args.text.now c.args.start (omega arith) c.in_default.ensures.digit

pub loop-at-init : goal.loop-at-init
loop-at-init c = first_next c.args.text.now c.args.start (omega arith) c.in-Some.ensures.digit

pub returns-then-x-eq10-clause-count : goal.returns-then-x-eq10-clause-count
returns-then-x-eq10-clause-count c = count_line c.args.text.now c.args.start c.loop-at.invariant (omega arith) (omega arith)

pub returns-in_default-decimal_of-clause-none : goal.returns-in_default-decimal_of-clause-none
returns-in_default-decimal_of-clause-none c =
    count_not c.args.text.now c.args.start c.loop-at.invariant (omega arith) (λ e. omega arith) c.in_default-decimal_of.ensures.digit

pub overflow_add-count : goal.overflow_add-count
overflow_add-count c = omega (arith, c.loop-at.invariant.few, digit_few _ c.in-Some-decimal_of.ensures.digit)

pub returns-then-count-eq0-clause-none : goal.returns-then-count-eq0-clause-none
returns-then-count-eq0-clause-none c =
    elim c.then-count-eq0.branch [
      | then-count-eq0-via-then-count-eq0 w ↦
          count_zero c.args.text.now c.args.start c.loop-at.invariant (omega arith) (λ e. omega arith) c.in-Some-decimal_of.ensures.digit (omega arith)
      | then-count-eq0-via-else-count-eq0+then-count-d-gt-CELLS w ↦
          count_great c.args.text.now c.args.start c.loop-at.invariant (omega arith) (λ e. omega arith) c.in-Some-decimal_of.ensures.digit (λ e. omega arith) (omega arith)
    ]

pub loop-at-preserved : goal.loop-at-preserved
loop-at-preserved c =
    count_next c.args.text.now c.args.start c.loop-at.invariant (omega arith) (λ e. omega arith) c.in-Some-decimal_of.ensures.digit (λ e. omega arith) (omega arith)

pub returns-clause-none : goal.returns-clause-none
returns-clause-none c = count_end c.args.text.now c.args.start c.loop-at.invariant (omega arith) (omega arith)
