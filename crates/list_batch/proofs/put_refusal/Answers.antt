-- The pieces of the line, each behind those before it.
-- Assumes nothing.
use Prim.Native.Nat.{◌+◌, ◌≤◌}
use native.Mathlib.Omega.{arith}
use lib.ListN.{length}
use Rattle.list_batch.specs.Printed.{refusal_line}
use Rattle.list_batch.proofs.Puts.{behind, room_behind, five_digits}
use Rattle.list_batch.proofs.put_refusal.Goals as goal
use Rattle.list_batch.proofs.put_refusal.Goals.{After-put_decimal-at, After-put_decimal-at-2, After-put_text-at, After-put_text-at-2}

-- the room that is left behind each piece
room-1 : (t : goal.After-put_text-at) → t.put_text-at.result + 18 ≤ length t.put_text-at.new.out
room-1 t = room_behind 7 18 (omega arith) t.put_text-at.ensures.put t.requires.room

pub put_decimal-at-requires : goal.put_decimal-at-requires
put_decimal-at-requires c = record { room = omega (arith, room-1 (goal.at.put_decimal-at-requires c).After-put_text-at) }

room-2 : (d : goal.After-put_decimal-at) → d.put_decimal-at.result + 13 ≤ length d.put_decimal-at.new.out
room-2 d =
    room_behind 5 13 (five_digits d.args.reason) d.put_decimal-at.ensures.put (room-1 d.before.before.before.before)

pub put_text-at-requires-2 : goal.put_text-at-requires-2
put_text-at-requires-2 c = record { room = omega (arith, room-2 (goal.at.put_text-at-requires-2 c).After-put_decimal-at) }

room-3 : (t : goal.After-put_text-at-2) → t.put_text-at-2.result + 6 ≤ length t.put_text-at-2.new.out
room-3 t = room_behind 7 6 (omega arith) t.put_text-at-2.ensures.put (room-2 t.before.before.before.before.before.before)

pub put_decimal-at-requires-2 : goal.put_decimal-at-requires-2
put_decimal-at-requires-2 c = record { room = omega (arith, room-3 (goal.at.put_decimal-at-requires-2 c).After-put_text-at-2) }

room-4 : (d : goal.After-put_decimal-at-2) → d.put_decimal-at-2.result + 1 ≤ length d.put_decimal-at-2.new.out
room-4 d =
    room_behind 5 1 (five_digits d.args.place) d.put_decimal-at-2.ensures.put (room-3 d.before.before.before.before)

pub put_text-requires : goal.put_text-requires
put_text-requires c = record { room = omega (arith, room-4 (goal.at.put_text-requires c).After-put_decimal-at-2) }

pub returns : goal.returns
unfolding refusal_line
returns c = record {
  put = behind c.put_text-at.ensures.put
      (behind c.put_decimal-at.ensures.put
      (behind c.put_text-at-2.ensures.put (behind c.put_decimal-at-2.ensures.put c.put_text.ensures.put)));
}
