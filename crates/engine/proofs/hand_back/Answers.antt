-- A reason that stands goes first; else the state is laid out, and its pair judged.
-- Assumes nothing.
use mathlib.Core.Path.{ap, ◌∙◌}
use mathlib.Core.Bool.{false≢true}
use lib.ListN.{length}
use Rattle.pair.proofs.Marks.{restored_length}
use Rattle.engine.proofs.Closing.{before_pair, pair_bad, pair_good}
use Rattle.engine.proofs.hand_back.Goals as goal

-- nothing is claimed to be known of the address, so nothing is owed for it
pub kept-requires : goal.kept-requires
kept-requires c = record { whole = c.lay-2.ensures.size; known = λ t. absurd (false≢true t) }

pub lay-requires-then-not-kept : goal.lay-requires-then-not-kept
lay-requires-then-not-kept c = record { array = ap length c.kept.ensures.own ∙ restored_length _ _ _ ∙ c.lay-2.ensures.size }

pub returns-then-ended-ne0 : goal.returns-then-ended-ne0
returns-then-ended-ne0 c =
    let a = c.args in
    let both = before_pair a.part.now.starts.now a.part.now.lasts.now a.part.now.numbers.now a.values.now a.before.now a.marks.now a.marked.now a.part.now.part
    c.closing_reason-ended.ensures.reason c.if-ended-ne0.true c.lay.ensures.laid in
    record { reason = both.0; state = both.1 }

pub returns-then-not-kept : goal.returns-then-not-kept
returns-then-not-kept c =
    let a = c.args in
    let both = pair_bad a.part.now.starts.now a.part.now.lasts.now a.part.now.numbers.now a.values.now a.before.now a.marks.now a.marked.now a.part.now.part
    c.closing_reason-ended.ensures.reason c.if-ended-ne0.false c.mark_in-target.ensures.mark c.mark_in-location.ensures.mark
    c.lay-2.ensures.laid c.kept.ensures.kept c.if-not-kept.true c.lay-then-not-kept.ensures.laid in
    record { reason = both.0; state = both.1 }

pub returns : goal.returns
returns c =
    let a = c.args in
    let both = pair_good a.part.now.starts.now a.part.now.lasts.now a.part.now.numbers.now a.values.now a.before.now a.marks.now a.marked.now a.part.now.part
    c.closing_reason-ended.ensures.reason c.if-ended-ne0.false c.mark_in-target.ensures.mark c.mark_in-location.ensures.mark
    c.lay-2.ensures.laid c.kept.ensures.kept c.if-not-kept.false c.kept.ensures.own in
    record { reason = both.0; state = both.1 }
