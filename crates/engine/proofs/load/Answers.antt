-- The invariant: the values that are left, stored over those that are there now, leave the values of the state; and the bits of the cells that
-- were gone through, once of the state and once of the state without the marks of the pair.
-- Assumes nothing.
use mathlib.Core.Path.{◌≡◌, refl, sym, ap, ◌∙◌}
use Prim.Native.Nat.{ℕ}
use native.Mathlib.Omega.{arith}
use lib.ListN.{take}
use lib.Seq.{get_or-take, length-take-le}
use Rattle.meaning.specs.Words.{words_of}
use Rattle.meaning.specs.Registers.{cells}
use Rattle.states.proofs.Copied.{at_first, one_copied, all_copied}
use Rattle.pair.specs.Marks.{cleared, outside}
use Rattle.pair.proofs.Marks.{cleared_mark}
use Rattle.engine.specs.Bits.{packed}
use Rattle.engine.proofs.Bits.{one_loaded}
use Rattle.engine.proofs.load.Goals as goal

pub loop-c-init : goal.loop-c-init
unfolding packed
loop-c-init c = let ws = words_of c.args.state.now in
    (omega arith, (at_first (take cells ws) c.args.values.now (omega (arith, length-take-le cells ws (omega arith))), (refl, refl)))

pub loop-c-preserved : goal.loop-c-preserved
loop-c-preserved c = let ws = words_of c.args.state.now in (
  omega arith,
  (
    one_copied (take cells ws) c.loop-c.values c.loop-c.c c.value.result (omega (arith, length-take-le cells ws (omega arith)))
        (c.value.ensures.value ∙ sym (get_or-take cells ws c.loop-c.c 0 (omega arith))) c.loop-c.invariant.1.0,
    (
      one_loaded ws c.loop-c.c c.args.marked.now c.loop-c.marked c.mark-mark.ensures.mark c.loop-c.invariant.1.1.0 c.load_mark.ensures.marked,
      one_loaded (cleared ws) c.loop-c.c c.args.marks.now c.loop-c.marks
          (c.outside_pair.ensures.mark ∙ ap (outside c.loop-c.c) c.mark-mark.ensures.mark ∙ sym (cleared_mark ws c.requires.whole c.loop-c.c (omega arith)))
          c.loop-c.invariant.1.1.1 c.load_mark-in-loop-c.ensures.marked,
    ),
  ),
)

pub returns : goal.returns
returns c =
    let ws = words_of c.args.state.now in
    let e : c.loop-c.c ≡ cells = omega arith in
    record {
      values = all_copied (take cells ws) c.loop-c.values c.loop-c.c (omega (arith, length-take-le cells ws (omega arith))) c.loop-c.invariant.1.0;
      marked = c.loop-c.invariant.1.1.0 ∙ ap (λ (n : ℕ). packed ws n c.args.marked.now) e;
      marks = c.loop-c.invariant.1.1.1 ∙ ap (λ (n : ℕ). packed (cleared ws) n c.args.marks.now) e;
    }
