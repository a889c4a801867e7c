-- The invariant: what is counted, with the marked cells that are left, is the number of all; and no more is counted than cells are passed.
-- Assumes nothing.
use Rattle.std.proofs.Common.{ℕ, ◌-◌, ap, arith}
use Rattle.meaning.specs.Words.{words_of}
use Rattle.meaning.specs.State.{is_mark, marked, one}
use Rattle.states.proofs.Counted.{count_next, count_none}
use Rattle.states.proofs.marked_between.Goals as goal

pub loop-c-init : goal.loop-c-init
loop-c-init c = (omega arith, omega arith)

pub mark-requires : goal.mark-requires
mark-requires c = record { whole = omega arith; inside = omega arith }

pub loop-c-preserved : goal.loop-c-preserved
loop-c-preserved c = (omega arith, omega (arith, ap (λ (x : ℕ). one (is_mark x)) c.mark.ensures.mark, count_next (marked (words_of c.args.state.now)) c.loop-c.c c.args.end (omega arith)))

pub returns : goal.returns
returns c = record { count = omega (arith, count_none (marked (words_of c.args.state.now)) c.loop-c.c (c.args.end - c.loop-c.c) (omega arith)) }
