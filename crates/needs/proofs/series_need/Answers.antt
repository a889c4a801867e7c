-- The invariant: what is counted, with the groups that are left, is the need of all; and no group needs more than its cells and two words.
-- Assumes nothing.
use mathlib.Core.Path.{◌≡◌}
use Prim.Native.Nat.{◌+◌, ◌*◌, ◌-◌, ◌≤◌}
use native.Mathlib.Omega.{arith}
use Rattle.meaning.specs.Words.{words_of}
use Rattle.meaning.specs.Registers.{cells}
use Rattle.meaning.specs.State.{marked, count_in}
use Rattle.meaning.proofs.Writing.{count_few, in_series}
use Rattle.needs.proofs.Series.{need_few, series_next, series_none}
use Rattle.needs.proofs.series_need.Goals as goal
use Rattle.needs.proofs.series_need.Goals.{After-group_need-need, In-loop-n}

-- the group lies within the series
here : (c : goal.In-loop-n) → c.args.first + c.args.rows * c.loop-n.n + c.args.rows ≤ cells
here c = in_series c.args.first c.args.rows c.args.count c.loop-n.n cells c.requires.inside c.loop-n-test.true

-- what a group within the table needs
near : (c : goal.After-group_need-need) → c.args.first + c.args.rows * c.loop-n.n + c.args.rows ≤ cells → c.group_need-need.result ≤ cells + 2
near c within =
    let chosen = marked (words_of c.args.state.now) in
    let first = c.args.first + c.args.rows * c.loop-n.n in
    omega (arith, c.group_need-need.ensures.need, need_few (count_in chosen first c.args.rows), count_few chosen first c.args.rows)

pub loop-n-init : goal.loop-n-init
loop-n-init c =
    let e : c.args.count - 0 ≡ c.args.count = omega arith in
    record { within = omega arith; few = omega arith; left = rw e (omega arith) }

pub overflow_mul-rows : goal.overflow_mul-rows
overflow_mul-rows c = omega (arith, here (goal.at.overflow_mul-rows c).In-loop-n)

pub overflow_add-first : goal.overflow_add-first
overflow_add-first c = omega (arith, here (goal.at.overflow_add-first c).In-loop-n)

pub group_need-need-requires : goal.group_need-need-requires
group_need-need-requires c = record { whole = c.requires.whole; inside = here (goal.at.group_need-need-requires c).In-loop-n }

pub overflow_add-need : goal.overflow_add-need
overflow_add-need c = let at = goal.at.overflow_add-need c in omega (arith, near at.After-group_need-need (here at.In-loop-n))

pub loop-n-preserved : goal.loop-n-preserved
loop-n-preserved c =
    let at = goal.at.loop-n-preserved c in
    record {
      within = omega arith;
      few = omega (arith, near at.After-group_need-need (here at.In-loop-n));
      left =
          omega (arith, c.group_need-need.ensures.need, series_next (marked (words_of c.args.state.now)) c.args.first c.args.rows c.loop-n.n c.args.count (omega arith));
    }

pub returns : goal.returns
returns c = record {
  need = omega (arith, series_none (marked (words_of c.args.state.now)) c.args.first c.args.rows c.loop-n.n (c.args.count - c.loop-n.n) (omega arith));
}
