-- The five digits, each behind those before it.
-- Assumes nothing.
use mathlib.Core.Path.{refl}
use Prim.Native.Nat.{◌+◌, ◌%◌, ◌≤◌}
use native.Mathlib.Omega.{arith}
use lib.ListN.{length}
use Rattle.list_batch.specs.Printed.{decimal5}
use Rattle.list_batch.proofs.Puts.{behind, room_behind, digit_small, one_digit}
use Rattle.list_batch.proofs.put_decimal.Goals as goal
use Rattle.list_batch.proofs.put_decimal.Goals.{After-put_digit-at, After-put_digit-at-2, After-put_digit-at-3, After-put_digit-at-4}

-- the room that is left behind each digit
room-1 : (d : goal.After-put_digit-at) → d.put_digit-at.result + 4 ≤ length d.put_digit-at.new.out
room-1 d = room_behind 1 4 (one_digit 10000 d.args.n) d.put_digit-at.ensures.put d.requires.room

pub put_digit-at-requires-2 : goal.put_digit-at-requires-2
put_digit-at-requires-2 c = record { unit = omega arith; room = omega (arith, room-1 (goal.at.put_digit-at-requires-2 c).After-put_digit-at) }

room-2 : (d : goal.After-put_digit-at-2) → d.put_digit-at-2.result + 3 ≤ length d.put_digit-at-2.new.out
room-2 d =
    room_behind 1 3 (one_digit 1000 d.args.n) d.put_digit-at-2.ensures.put (room-1 d.before.before.before.before)

pub put_digit-at-requires-3 : goal.put_digit-at-requires-3
put_digit-at-requires-3 c = record { unit = omega arith; room = omega (arith, room-2 (goal.at.put_digit-at-requires-3 c).After-put_digit-at-2) }

room-3 : (d : goal.After-put_digit-at-3) → d.put_digit-at-3.result + 2 ≤ length d.put_digit-at-3.new.out
room-3 d =
    room_behind 1 2 (one_digit 100 d.args.n) d.put_digit-at-3.ensures.put (room-2 d.before.before.before.before)

pub put_digit-at-requires-4 : goal.put_digit-at-requires-4
put_digit-at-requires-4 c = record { unit = omega arith; room = omega (arith, room-3 (goal.at.put_digit-at-requires-4 c).After-put_digit-at-3) }

room-4 : (d : goal.After-put_digit-at-4) → d.put_digit-at-4.result + 1 ≤ length d.put_digit-at-4.new.out
room-4 d =
    room_behind 1 1 (one_digit 10 d.args.n) d.put_digit-at-4.ensures.put (room-3 d.before.before.before.before)

pub bounds-out-at : goal.bounds-out-at
bounds-out-at c = omega (arith, room-4 (goal.at.bounds-out-at c).After-put_digit-at-4)

pub overflow_add-result : goal.overflow_add-result
overflow_add-result c = omega (arith, room-4 (goal.at.overflow_add-result c).After-put_digit-at-4, c.put_digit-at-4.auto.out, c.put_digit-at-3.auto.out, c.put_digit-at-2.auto.out, c.put_digit-at.auto.out)

pub returns : goal.returns
unfolding decimal5
returns c = record {
  put = behind c.put_digit-at.ensures.put
      (behind c.put_digit-at-2.ensures.put
      (behind c.put_digit-at-3.ensures.put
      (behind c.put_digit-at-4.ensures.put (rw (← digit_small (c.args.n % 10) (omega arith)) (record { stored = refl; ends = refl })))));
}
