-- The marks of the group's cells are counted, and header and setting come with the first.
-- Assumes nothing.
use mathlib.Core.Path.{◌≡◌, ap, ◌∙◌}
use native.Mathlib.Omega.{arith}
use Rattle.meaning.specs.Words.{words_of}
use Rattle.meaning.specs.State.{marked, count_in}
use Rattle.meaning.specs.Writer.{packet_need}
use Rattle.meaning.proofs.Writing.{count_few}
use Rattle.needs.proofs.Series.{need_none, need_some}
use Rattle.needs.proofs.group_need.Goals as goal
use Rattle.needs.proofs.group_need.Goals.{After-marked_between-n}

-- what was counted
counted : (c : goal.After-marked_between-n) → c.marked_between-n.result ≡ count_in (marked (words_of c.args.state.now)) c.args.first c.args.rows
counted c = c.marked_between-n.ensures.count ∙ ap (count_in (marked (words_of c.args.state.now)) c.args.first) (omega arith)

pub returns-then-n-eq0 : goal.returns-then-n-eq0
returns-then-n-eq0 c = record { need = need_none c.marked_between-n.result c.if-n-eq0.true ∙ ap packet_need (counted (goal.at.returns-then-n-eq0 c).After-marked_between-n) }

pub overflow_add-result : goal.overflow_add-result
overflow_add-result c = omega (arith, counted (goal.at.overflow_add-result c).After-marked_between-n, count_few (marked (words_of c.args.state.now)) c.args.first c.args.rows)

pub returns : goal.returns
returns c = record { need = need_some c.marked_between-n.result c.if-n-eq0.false ∙ ap packet_need (counted (goal.at.returns c).After-marked_between-n) }
