-- 13 where a buffer is bad; else the reader's answer as a number.
-- Assumes nothing.
use mathlib.Core.Path.{◌≡◌}
use mathlib.Core.Bool.{true}
use mathlib.Core.List.{[], ◌∷◌}
use Rattle.laws.specs.Lists.{every}
use Rattle.laws.proofs.Arms.{told_true, told_false}
use Rattle.meaning.specs.Exported.{word_buffer_fine}
use Rattle.irangelda.proofs.Buffers.{read_13, read_answered, read_small}
use Rattle.irangelda.proofs.irangelda_read.Goals as goal
use Rattle.irangelda.proofs.irangelda_read.Goals.{After-read}

-- the buffers of a call that gets as far as the reader are fine
fine : (w : goal.After-read) → every word_buffer_fine (w.args.batch.now ∷ w.args.grants.now ∷ w.args.state.now ∷ []) ≡ true
fine w = told_true w.word_buffers_fine.ensures.fine w.if-not-word_buffers_fine.false

pub returns-then-not-word_buffers_fine : goal.returns-then-not-word_buffers_fine
returns-then-not-word_buffers_fine c = let both = read_13 c.args.batch.now c.args.grants.now c.args.state.now (told_false c.word_buffers_fine.ensures.fine c.if-not-word_buffers_fine.true) in record { number = both.0; bytes = both.1 }

pub number-requires : goal.number-requires
number-requires c = record { place = rw c.read.ensures.answer (read_small _ _ _ (fine (goal.at.number-requires c).After-read)) }

pub returns : goal.returns
returns c = let both = read_answered _ _ _ (fine (goal.at.returns c).After-read) c.read.ensures.answer c.read.ensures.bytes c.number.ensures.number in record { number = both.0; bytes = both.1 }
