-- The listing reader's number tells whether there is a state to write.
-- Assumes nothing.
use Rattle.meaning.specs.State.{empty}
use Rattle.restore_listing.specs.Restored.{empty_bytes, state_read}
use Rattle.restore_listing.proofs.Answered.{refused, taken}
use Rattle.restore_listing.proofs.report.Goals as goal

pub returns-then-number-ne0 : goal.returns-then-number-ne0
unfolding empty_bytes empty
returns-then-number-ne0 c = let both = refused c.args.text.now c.args.out.now c.irangelda_read_listing-number.result c.irangelda_read_listing-number.ensures.number c.put_number.new.out c.put_number.ensures.put c.if-number-ne0.true in record { count = both.0; bytes = both.1 }

pub returns : goal.returns
unfolding empty_bytes empty state_read
returns c = let both = taken c.args.text.now c.args.out.now c.irangelda_read_listing-number.result c.irangelda_read_listing-number.ensures.number c.put_number.new.out c.put_number.ensures.put c.if-number-ne0.false c.put_batch.new.out
    c.put_batch.result (rw c.irangelda_read_listing-number.ensures.bytes at c.put_batch.ensures.count) (rw c.irangelda_read_listing-number.ensures.bytes at c.put_batch.ensures.bytes) in record { count = both.0; bytes = both.1 }
