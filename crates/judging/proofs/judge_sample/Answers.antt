-- Each arm is a register of the sample; where none is, no register is named.
-- Assumes nothing.
use mathlib.Core.Path.{◌≡◌}
use Prim.Native.Nat.{◌+◌, ◌*◌}
use native.Mathlib.Omega.{arith}
use Rattle.headers.specs.Told.{cell_in}
use Rattle.judging.proofs.Judging.{sample_base}
use Rattle.judging.proofs.judge_sample.Goals as goal

pub returns-in-48-clause-verdict : goal.returns-in-48-clause-verdict
unfolding cell_in
returns-in-48-clause-verdict c = λ g. let i = sample_base c.requires.sample in
    let first : c.args.base.0 + 0 ≡ 36 + 3 * i.0 = omega (arith, i.2) in
    rw (c.in-48.is, c.for_cell.ensures.verdict, first) (c.levels_reason.ensures.reason g i.0 i.1)

pub returns-in-49-clause-verdict : goal.returns-in-49-clause-verdict
unfolding cell_in
returns-in-49-clause-verdict c = λ g. let i = sample_base c.requires.sample in
    let second : c.args.base.0 + 1 ≡ 37 + 3 * i.0 = omega (arith, i.2) in
    rw (c.in-49.is, c.for_cell-in-49.ensures.verdict, second) (c.filters_reason.ensures.reason g i.0 i.1)

pub returns-in-50-clause-verdict : goal.returns-in-50-clause-verdict
unfolding cell_in
returns-in-50-clause-verdict c = λ g. let i = sample_base c.requires.sample in
    let third : c.args.base.0 + 2 ≡ 38 + 3 * i.0 = omega (arith, i.2) in
    rw (c.in-50.is, c.for_cell-in-50.ensures.verdict, third) (c.mapping_reason.ensures.reason g i.0 i.1)
