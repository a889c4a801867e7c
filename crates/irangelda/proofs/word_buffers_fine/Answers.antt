-- The lengths one after another, and then all three at once.
-- Assumes nothing.
use Rattle.laws.proofs.Arms.{told_true, told_false}
use Rattle.irangelda.proofs.Buffers.{first_long, second_long, third_long, none_long}
use Rattle.irangelda.proofs.word_buffers_fine.Goals as goal

pub returns-then-not-buffer_fine : goal.returns-then-not-buffer_fine
returns-then-not-buffer_fine c = record { fine = first_long _ _ _ (told_false c.buffer_fine.ensures.fine c.if-not-buffer_fine.true) }

pub returns-then-not-buffer_fine-2 : goal.returns-then-not-buffer_fine-2
returns-then-not-buffer_fine-2 c = record { fine = second_long _ _ _ (told_false c.buffer_fine-2.ensures.fine c.if-not-buffer_fine-2.true) }

pub returns-then-not-buffer_fine-3 : goal.returns-then-not-buffer_fine-3
returns-then-not-buffer_fine-3 c = record { fine = third_long _ _ _ (told_false c.buffer_fine-3.ensures.fine c.if-not-buffer_fine-3.true) }

pub returns : goal.returns
returns c = record { fine = none_long _ _ _ (told_true c.buffer_fine.ensures.fine c.if-not-buffer_fine.false) (told_true c.buffer_fine-2.ensures.fine c.if-not-buffer_fine-2.false) (told_true c.buffer_fine-3.ensures.fine c.if-not-buffer_fine-3.false) }
