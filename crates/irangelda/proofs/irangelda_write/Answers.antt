-- 13 where a buffer is bad; else the writer's answer as a number.
-- Assumes nothing.
use Prim.Native.Nat.{◌/◌}
use native.Mathlib.Omega.{arith}
use lib.ListN.{length}
use Rattle.laws.proofs.Arms.{told_true, told_false}
use Rattle.meaning.specs.Words.{words_of}
use Rattle.sizing.proofs.Sizes.{write_place}
use Rattle.irangelda.proofs.Buffers.{write_13, write_answered}
use Rattle.irangelda.proofs.irangelda_write.Goals as goal

pub returns-then-not-word_buffers_fine : goal.returns-then-not-word_buffers_fine
returns-then-not-word_buffers_fine c = let both = write_13 c.args.state.now c.args.grants.now c.args.out.now (told_false c.word_buffers_fine.ensures.fine c.if-not-word_buffers_fine.true) in record { number = both.0; bytes = both.1 }

pub number-requires : goal.number-requires
number-requires c = record { place = rw c.write.ensures.answer (omega (arith, write_place (words_of c.args.state.now) (words_of c.args.grants.now) (length c.args.out.now / 4))) }

pub returns : goal.returns
returns c = let both = write_answered c.args.state.now c.args.grants.now c.args.out.now (told_true c.word_buffers_fine.ensures.fine c.if-not-word_buffers_fine.false)
    c.write.ensures.answer c.write.ensures.bytes c.number.ensures.number in record { number = both.0; bytes = both.1 }
