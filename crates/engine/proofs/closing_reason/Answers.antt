-- By the two tests.
-- Assumes nothing.
use Rattle.engine.proofs.Closing.{stood, ends, none}
use Rattle.engine.proofs.closing_reason.Goals as goal

pub returns-then-reason-ne0 : goal.returns-then-reason-ne0
returns-then-reason-ne0 c = record { reason = stood c.args.reason c.args.left c.if-reason-ne0.true }

pub returns-then-left-ne0 : goal.returns-then-left-ne0
returns-then-left-ne0 c = record { reason = ends c.args.reason c.args.left c.if-reason-ne0.false c.if-left-ne0.true }

pub returns : goal.returns
returns c = record { reason = none c.args.reason c.args.left c.if-reason-ne0.false c.if-left-ne0.false }
