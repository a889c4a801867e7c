-- The invariant: the marks gathered so far are at most 1 exactly if each of the cells passed has such a mark.
-- Assumes nothing.
use Rattle.std.proofs.Common.{◌≡◌, ℕ, leb, refl, ap, ◌∙◌, arith}
use Rattle.laws.specs.Lists.{every, from}
use Rattle.meaning.specs.Words.{words_of}
use Rattle.meaning.specs.Registers.{cells, cell}
use Rattle.meaning.specs.State.{mark_at}
use Rattle.states.specs.Marks.{marks_to}
use Rattle.laws.proofs.Bits.{or_small}
use Rattle.states.proofs.Formed.{one_more}
use Rattle.states.proofs.gathered_marks.Goals as goal

pub loop-c-init : goal.loop-c-init
unfolding every from
loop-c-init c = (omega arith, refl)

pub mark-marks-requires : goal.mark-marks-requires
mark-marks-requires c = record { whole = omega arith; inside = omega arith }

pub loop-c-preserved : goal.loop-c-preserved
loop-c-preserved c = let st = words_of c.args.state.now in (
  omega arith,
  one_more
      (λ m. leb m 1)
      or_small
      (λ k. leb (mark_at st (cell k)) 1)
      c.loop-c.marks
      c.mark-marks.result
      c.loop-c.c
      (ap (λ (m : ℕ). leb m 1) c.mark-marks.ensures.mark)
      c.loop-c.invariant.1,
)

pub returns : goal.returns
returns c = record {
  small = let e : c.loop-c.c ≡ cells = omega arith in
      c.loop-c.invariant.1 ∙ ap (marks_to (words_of c.args.state.now)) e;
}
