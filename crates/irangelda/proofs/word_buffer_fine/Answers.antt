-- First the size, then the multiple of 4.
-- Assumes nothing.
use Rattle.laws.proofs.Arms.{told_true, told_false}
use Rattle.meaning.specs.Exported.{word_buffer_fine}
use Rattle.irangelda.proofs.word_buffer_fine.Goals as goal

pub returns-then-not-buffer_fine : goal.returns-then-not-buffer_fine
unfolding word_buffer_fine
returns-then-not-buffer_fine c = record { fine = rw (told_false c.buffer_fine.ensures.fine c.if-not-buffer_fine.true) }

pub returns : goal.returns
unfolding word_buffer_fine
returns c = record { fine = rw (told_true c.buffer_fine.ensures.fine c.if-not-buffer_fine.false) }
