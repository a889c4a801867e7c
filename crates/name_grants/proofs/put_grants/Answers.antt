-- The invariant: the places of the cells that are left, stored behind those that are put, give what all give over the buffer at entry.
-- Assumes nothing.
use native.Mathlib.Omega.{arith}
use Rattle.meaning.specs.Registers.{cell}
use Rattle.name_grants.proofs.Places.{place_low, place_told, ended, passed, put}
use Rattle.name_grants.proofs.put_grants.Goals as goal
use Rattle.name_grants.proofs.put_grants.Goals.{then-mark-ne0, else-mark-ne0}

pub overflow_cast-out : goal.overflow_cast-out
overflow_cast-out c = let p = cell c.loop-c.c in
    omega (arith, place_told c.args.state.now c.args.grants.now p c.irangelda_which_grant-number.ensures.number, place_low c.args.state.now c.args.grants.now p)

pub loop-c-preserved : goal.loop-c-preserved
loop-c-preserved c = elim c.if-mark-ne0.branch [
  | then-mark-ne0 w ↦ (omega arith, rw (w.out-is, w.count-is) (put c.loop-c.invariant.1 (omega arith) c.mark.ensures.mark w.if-mark-ne0.true (place_told c.args.state.now c.args.grants.now (cell c.loop-c.c) w.irangelda_which_grant-number.ensures.number)))
  | else-mark-ne0 w ↦ (omega arith, rw (w.out-is, w.count-is) (passed c.loop-c.invariant.1 (omega arith) c.mark.ensures.mark w.if-mark-ne0.false))
]

pub returns : goal.returns
returns c = let both = ended c.loop-c.invariant.1 (omega arith) c.requires.room in record { count = both.0; bytes = both.1 }
