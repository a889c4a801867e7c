-- 13 where a buffer is bad; else the query's answer as a number.
-- Assumes nothing.
use native.Mathlib.Omega.{arith}
use Rattle.laws.proofs.Arms.{told_true, told_false}
use Rattle.meaning.specs.Words.{words_of}
use Rattle.meaning.specs.Registers.{cell}
use Rattle.meaning.specs.Exported.{exported_which_grant}
use Rattle.numbering.proofs.Answers.{query_place}
use Rattle.irangelda.proofs.Buffers.{two_13, two_answered}
use Rattle.irangelda.proofs.irangelda_which_grant.Goals as goal

pub returns-then-not-two_buffers_fine : goal.returns-then-not-two_buffers_fine
unfolding exported_which_grant
returns-then-not-two_buffers_fine c = record { number = two_13 _ _ _ (told_false c.two_buffers_fine.ensures.fine c.if-not-two_buffers_fine.true) }

pub number-requires : goal.number-requires
number-requires c = record { place = rw c.which_grant.ensures.answer (omega (arith, query_place (words_of c.args.state.now) (words_of c.args.grants.now) (cell c.args.cell))) }

pub returns : goal.returns
unfolding exported_which_grant
returns c = record { number = two_answered _ _ _ (told_true c.two_buffers_fine.ensures.fine c.if-not-two_buffers_fine.false) c.which_grant.ensures.answer c.number.ensures.number }
