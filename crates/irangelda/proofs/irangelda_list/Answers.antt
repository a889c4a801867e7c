-- 13 where a buffer is bad; else the lister's answer as a number.
-- Assumes nothing.
use Rattle.laws.proofs.Arms.{told_true, told_false}
use Rattle.irangelda.proofs.Places.{list_place}
use Rattle.irangelda.proofs.Buffers.{list_13, list_answered}
use Rattle.irangelda.proofs.irangelda_list.Goals as goal

pub returns-then-not-text_buffers_fine : goal.returns-then-not-text_buffers_fine
returns-then-not-text_buffers_fine c = let both = list_13 _ _ (told_false c.text_buffers_fine.ensures.fine c.if-not-text_buffers_fine.true) in record { number = both.0; bytes = both.1 }

pub number-requires : goal.number-requires
number-requires c = record { place = rw c.list.ensures.answer (list_place _ _) }

pub returns : goal.returns
returns c = let both = list_answered _ _ (told_true c.text_buffers_fine.ensures.fine c.if-not-text_buffers_fine.false) c.list.ensures.answer c.list.ensures.bytes c.number.ensures.number in record { number = both.0; bytes = both.1 }
