-- The state's test, then that of the grants.
-- Assumes nothing.
use Rattle.laws.proofs.Arms.{told_true, told_false}
use Rattle.irangelda.proofs.two_buffers_fine.Goals as goal

pub returns-then-not-word_buffer_fine : goal.returns-then-not-word_buffer_fine
returns-then-not-word_buffer_fine c = record { fine = rw (told_false c.word_buffer_fine.ensures.fine c.if-not-word_buffer_fine.true) }

pub returns : goal.returns
returns c = record { fine = rw (told_true c.word_buffer_fine.ensures.fine c.if-not-word_buffer_fine.false) c.word_buffer_fine-2.ensures.fine }
