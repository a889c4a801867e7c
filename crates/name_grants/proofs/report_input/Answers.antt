-- The input is cut behind its first word, and behind the grant list.
-- Assumes nothing.
use Rattle.name_grants.proofs.Parts.{CutAt, neither, grants_part, batch_part}
use Rattle.name_grants.proofs.report_input.Goals as goal

pub returns-then-input-lt-WORD : goal.returns-then-input-lt-WORD
returns-then-input-lt-WORD c =
    let none = neither c.args.input.now c.if-input-lt-WORD.true in
    rw (none.0, none.1) (record { count = c.report.ensures.count; bytes = c.report.ensures.bytes })

pub returns : goal.returns
returns c =
    let end = c.list_length-end in
    let cut : CutAt c.args.input.now end.result = (end.ensures.inside, (end.ensures.grants, end.ensures.batch)) in
    rw (← grants_part c.args.input.now end.result cut, ← batch_part c.args.input.now end.result cut) (record { count = c.report-2.ensures.count; bytes = c.report-2.ensures.bytes })
