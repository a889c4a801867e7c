-- The words go behind the place of the number that tells how many they are.
-- Assumes nothing.
use Rattle.restore_listing.proofs.Rewritten.{no_batch, a_batch}
use Rattle.restore_listing.proofs.put_batch.Goals as goal

pub returns-then-number-ne0 : goal.returns-then-number-ne0
returns-then-number-ne0 c = let both = no_batch c.args.state.now c.args.out.now c.requires.room c.irangelda_write-number.result c.irangelda_write-number.ensures.number c.irangelda_write-number.new.out c.irangelda_write-number.ensures.bytes c.put_number.new.out c.put_number.ensures.put
    c.if-number-ne0.true in record { count = both.0; bytes = both.1 }

pub returns : goal.returns
returns c = let both = a_batch c.args.state.now c.args.out.now c.requires.room c.irangelda_write-number.result c.irangelda_write-number.ensures.number c.irangelda_write-number.new.out c.irangelda_write-number.ensures.bytes c.put_number.new.out c.put_number.ensures.put
    c.if-number-ne0.false in record { count = both.0; bytes = both.1 }
