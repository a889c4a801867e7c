-- To read on from here, with what is stored, is to read all lines.
-- Assumes nothing.
use mathlib.Core.Path.{◌≡◌, refl}
use Prim.Native.Nat.{◌+◌, ◌-◌}
use native.Mathlib.Omega.{arith}
use lib.ListN.{length-drop, drop}
use Rattle.meaning.specs.Registers.{cells}
use Rattle.listing_reader.proofs.Loop.{furthest_within, lined_start, lined_end, lined_more, lined_none, line_inside, lined_next}
use Rattle.listing_reader.proofs.read_lines.Goals as goal

pub loop-i-init : goal.loop-i-init
loop-i-init c =
    let e : c.args.n - 0 ≡ c.args.n = omega arith in
    rw e (lined_start c.args.text.now c.args.start c.args.n c.args.state.now c.requires.inside c.requires.few c.requires.array)

pub overflow_add-at : goal.overflow_add-at
overflow_add-at c =
    omega (
      arith,
      c.furthest.ensures.bytes,
      furthest_within (cells + 1 - (c.args.n - c.loop-i.i) - c.loop-i.c) c.loop-i.c (drop c.loop-i.at c.args.text.now),
      length-drop c.loop-i.at c.args.text.now,
      c.loop-i.invariant.inside,
    )

pub returns-in_default : goal.returns-in_default
returns-in_default c =
    let both =
    lined_none c.args.text.now c.args.start c.args.n c.args.state.now c.loop-i.invariant (λ e. omega arith) c.in_default.ensures.line c.furthest.ensures.bytes
    (rw c.at.ensures.at refl) in
    record { answer = both.0; state = both.1 }

pub overflow_add-at-in-loop-i : goal.overflow_add-at-in-loop-i
overflow_add-at-in-loop-i c =
    omega (
      arith,
      line_inside c.args.text.now c.args.start c.args.n c.args.state.now c.loop-i.invariant (λ e. omega arith) c.in-Some.ensures.line c.width-at.ensures.width,
    )

pub loop-i-preserved : goal.loop-i-preserved
loop-i-preserved c =
    let e : c.args.n - (c.loop-i.i + 1) ≡ c.args.n - c.loop-i.i - 1 = omega arith in
    rw e
    (lined_next c.args.text.now c.args.start c.args.n c.args.state.now c.loop-i.invariant (λ e. omega arith) c.in-Some.ensures.line c.width-at.ensures.width)

pub returns-then-at-text : goal.returns-then-at-text
returns-then-at-text c =
    let both =
    lined_more c.args.text.now c.args.start c.args.n c.args.state.now c.loop-i.invariant (omega arith) (λ e. omega arith) (rw c.at-then-at-text.ensures.at refl) in
    record { answer = both.0; state = both.1 }

pub returns : goal.returns
returns c =
    let both = lined_end c.args.text.now c.args.start c.args.n c.args.state.now c.loop-i.invariant (omega arith) (omega arith) in
    record { answer = both.0; state = both.1 }
