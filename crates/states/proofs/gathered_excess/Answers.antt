-- The invariant: what is gathered so far is 0 exactly if each unmarked value of the cells passed is.
-- Assumes nothing.
use Rattle.std.proofs.Common.{◌≡◌, ℕ, eqb, refl, ap, ◌∙◌, ap₂, arith}
use Rattle.laws.specs.Lists.{every, from}
use Rattle.laws.specs.Tests.{implies}
use Rattle.meaning.specs.Words.{words_of}
use Rattle.meaning.specs.Registers.{cells, cell}
use Rattle.meaning.specs.State.{value_at, mark_at}
use Rattle.states.specs.Marks.{clear_to}
use Rattle.laws.proofs.Bits.{or_zero}
use Rattle.states.proofs.Formed.{one_more, mark_small}
use Rattle.states.proofs.gathered_excess.Goals as goal

pub loop-c-init : goal.loop-c-init
unfolding every from
loop-c-init c = (omega arith, refl)

pub value-requires : goal.value-requires
value-requires c = record { whole = omega arith; inside = omega arith }

pub mark-requires : goal.mark-requires
mark-requires c = record { whole = omega arith; inside = omega arith }

pub excess-held-requires : goal.excess-held-requires
excess-held-requires c = record { small = omega (arith, mark_small (words_of c.args.state.now) c.loop-c.c c.requires.marks (omega arith)) }

pub loop-c-preserved : goal.loop-c-preserved
loop-c-preserved c = let st = words_of c.args.state.now in (
  omega arith,
  one_more
      (λ h. eqb h 0)
      or_zero
      (λ k. implies (eqb (mark_at st (cell k)) 0) (eqb (value_at st (cell k)) 0))
      c.loop-c.held
      c.excess-held.result
      c.loop-c.c
      (c.excess-held.ensures.clear
      ∙ ap₂ (λ (k v : ℕ). implies (eqb k 0) (eqb v 0)) c.mark.ensures.mark c.value.ensures.value)
      c.loop-c.invariant.1,
)

pub returns : goal.returns
returns c = record {
  clear = let e : c.loop-c.c ≡ cells = omega arith in
      c.loop-c.invariant.1 ∙ ap (clear_to (words_of c.args.state.now)) e;
}
