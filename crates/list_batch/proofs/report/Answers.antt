-- The number that the reader gives tells which of the two is printed.
-- Assumes nothing.
use mathlib.Core.Path.{sym, ◌∙◌}
use Rattle.meaning.specs.State.{empty}
use Rattle.list_batch.specs.Printed.{empty_bytes}
use Rattle.list_batch.proofs.Left.{tells, refused, listed}
use Rattle.list_batch.proofs.report.Goals as goal

pub returns-then-reason-ne0 : goal.returns-then-reason-ne0
unfolding empty_bytes empty
returns-then-reason-ne0 c = let both = refused c.args.batch.now c.args.out.now c.put_refusal.new.out c.read_under_k1-answer.result c.put_refusal.result c.requires.room
    c.read_under_k1-answer.ensures.number c.if-reason-ne0.true c.put_refusal.ensures.put in record { count = both.0; text = both.1 }

pub returns : goal.returns
unfolding empty_bytes empty
returns c = let both = listed c.args.batch.now (sym (tells c.args.batch.now c.read_under_k1-answer.ensures.number).0 ∙ c.if-reason-ne0.false) c.args.out.now c.irangelda_list-listed.new.out c.irangelda_list-listed.result c.requires.room
    (rw c.read_under_k1-answer.ensures.bytes at c.irangelda_list-listed.ensures.number) (rw c.read_under_k1-answer.ensures.bytes at c.irangelda_list-listed.ensures.bytes) in record { count = both.0; text = both.1 }
