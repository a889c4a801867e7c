-- The reader's number tells whether there is a state to tell of.
-- Assumes nothing.
use mathlib.Core.Path.{sym, ◌∙◌}
use native.Mathlib.Omega.{arith}
use borrow.Author.Rules.{rules}
use Rattle.meaning.specs.State.{empty}
use Rattle.name_grants.specs.Named.{empty_bytes, state_left}
use Rattle.name_grants.proofs.Left.{state_formed, state_size}
use Rattle.name_grants.proofs.Answered.{number_small, tells, refused, taken}
use Rattle.name_grants.proofs.report.Goals as goal

pub overflow_cast-number : goal.overflow_cast-number
overflow_cast-number c = omega (arith, number_small _ _ _ c.irangelda_read-number.ensures.number)

pub returns-then-number-ne0 : goal.returns-then-number-ne0
unfolding empty_bytes empty
returns-then-number-ne0 c = let both = refused c.args.grants.now c.args.batch.now c.args.out.now c.requires.room c.irangelda_read-number.result c.irangelda_read-number.ensures.number c.put_word.new.bytes c.put_word.ensures.stored c.if-number-ne0.true in record { count = both.0; bytes = both.1 }

pub put_state-requires : goal.put_state-requires
unfolding empty_bytes empty state_left
put_state-requires c = let done = sym (tells c.args.grants.now c.args.batch.now c.args.out.now c.requires.room c.irangelda_read-number.result c.irangelda_read-number.ensures.number c.put_word.new.bytes c.put_word.ensures.stored) ∙ c.if-number-ne0.false in record { size = rw c.irangelda_read-number.ensures.bytes (state_size c.args.grants.now c.args.batch.now done); formed = rw c.irangelda_read-number.ensures.bytes (state_formed c.args.grants.now c.args.batch.now done); room = search rules }

pub returns : goal.returns
unfolding empty_bytes empty state_left
returns c = let both = taken c.args.grants.now c.args.batch.now c.args.out.now c.requires.room c.irangelda_read-number.result c.irangelda_read-number.ensures.number c.put_word.new.bytes c.put_word.ensures.stored c.if-number-ne0.false
    c.put_state.new.out c.put_state.result (rw c.irangelda_read-number.ensures.bytes at c.put_state.ensures.count) (rw c.irangelda_read-number.ensures.bytes at c.put_state.ensures.bytes) in record { count = both.0; bytes = both.1 }
