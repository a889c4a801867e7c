-- The invariant: to emit the groups from number n on, from the place reached, is to emit all of them. Where that is the place at which
-- the words of all groups end, none is left, and the rest of the groups need not be looked at.
-- Assumes nothing.
use mathlib.Core.List.{List}
use Prim.Native.Nat.{ℕ, ◌+◌, ◌*◌, ◌/◌, ◌≤◌}
use native.Mathlib.Omega.{arith}
use lib.ListN.{length}
use Rattle.meaning.specs.Words.{words_of}
use Rattle.meaning.specs.Registers.{first_video}
use Rattle.meaning.proofs.Writing.{in_series}
use Rattle.emitter_3d.specs.Emitted.{parameters_from, many}
use Rattle.emitter_3d.proofs.Cells.{parameters_few}
use Rattle.emitter_3d.proofs.Runs.{begun, same_long, full, row_room, row_went, row_past}
use Rattle.emitter_3d.proofs.Packets.{room_parameters, head_asks, closed}
use Rattle.emitter_3d.proofs.Emitted.{group_at, series_row}
use Rattle.emitter_3d.proofs.emit_series.Goals as goal
use Rattle.emitter_3d.proofs.emit_series.Goals.{Else-at-end}

-- the group's cells lie before the video cells
here : (c : goal.Else-at-end) → c.args.first + c.args.rows * c.loop-n.n + c.args.rows ≤ first_video
here c = in_series c.args.first c.args.rows many c.loop-n.n first_video c.requires.inside (omega arith)

-- the words of the groups, number by number, and the parameters of this one
abbrev group : goal.Else-at-end → ℕ → List ℕ
group c = group_at (words_of c.args.state.now) c.args.first c.args.rows c.args.low.0 c.args.sub

abbrev rows : goal.Else-at-end → List ℕ
rows c = parameters_from (words_of c.args.state.now) (c.args.first + c.args.rows * c.loop-n.n) c.args.low.0 c.args.rows

-- there is room for its packet
room : (c : goal.Else-at-end) → c.loop-n.at + length (group c c.loop-n.n) ≤ length c.loop-n.out / 4
room c = row_room (group c) c.loop-n.n many c.loop-n.invariant (omega arith) (omega (arith, c.requires.end, c.requires.room))

-- and its place is no higher than the end of all words
low : (c : goal.Else-at-end) → c.loop-n.at ≤ c.args.end
low c = omega (arith, c.loop-n.invariant.ends, c.requires.end)

pub loop-n-init : goal.loop-n-init
loop-n-init c = begun _ _ _ (series_row (words_of c.args.state.now) c.args.first c.args.rows c.args.low.0 c.args.sub 0 many)

pub shape_of-out-then-at-end : goal.shape_of-out-then-at-end
shape_of-out-then-at-end c = same_long c.loop-n.invariant

pub returns-then-at-end : goal.returns-then-at-end
returns-then-at-end c =
    let both = full c.loop-n.invariant (omega (arith, c.requires.end, c.if-at-end.true)) in
    record { end = both.0; words = both.1 }

pub overflow_mul-rows : goal.overflow_mul-rows
overflow_mul-rows c = omega (arith, here (goal.at.overflow_mul-rows c).Else-at-end)

pub overflow_add-first : goal.overflow_add-first
overflow_add-first c = omega (arith, here (goal.at.overflow_add-first c).Else-at-end)

pub overflow_add-at : goal.overflow_add-at
overflow_add-at c = omega (arith, low (goal.at.overflow_add-at c).Else-at-end)

pub emit_rows-last-requires : goal.emit_rows-last-requires
emit_rows-last-requires c =
    let e = (goal.at.emit_rows-last-requires c).Else-at-end in
    record {
      whole = c.requires.whole;
      narrow = c.requires.narrow;
      inside = here e;
      short = omega arith;
      room = room_parameters 0x02 (c.args.sub + c.loop-n.n) (rows e) c.loop-n.out c.loop-n.at (room e);
    }

pub close_packet-at-requires : goal.close_packet-at-requires
close_packet-at-requires c =
    let e = (goal.at.close_packet-at-requires c).Else-at-end in
    let few = parameters_few (words_of c.args.state.now) (c.args.first + c.args.rows * c.loop-n.n) c.args.low.0 c.args.rows in
    let last = c.emit_rows-last.ensures in
    let asks =
    head_asks 0x02 (c.args.sub + c.loop-n.n) (rows e) c.loop-n.out c.loop-n.at (room e) (last.end, last.words)
    (omega (arith, few, c.requires.few)) (omega arith) (omega (arith, c.requires.sub, c.loop-n-test.true)) in
    record { order = asks.0; few = asks.1.0; ty = asks.1.1.0; sub = asks.1.1.1.0; room = asks.1.1.1.1 }

pub loop-n-preserved : goal.loop-n-preserved
loop-n-preserved c =
    let e = (goal.at.loop-n-preserved c).Else-at-end in
    let last = c.emit_rows-last.ensures in
    let packet = c.close_packet-at.ensures in
    row_went (group e) c.loop-n.n many c.loop-n.invariant (omega arith)
    (closed 0x02 (c.args.sub + c.loop-n.n) (rows e) c.loop-n.out c.loop-n.at (room e) (last.end, last.words) packet.end packet.words)

pub shape_of-out : goal.shape_of-out
shape_of-out c = same_long c.loop-n.invariant

pub returns : goal.returns
returns c =
    let both = row_past (group_at (words_of c.args.state.now) c.args.first c.args.rows c.args.low.0 c.args.sub) c.loop-n.n many c.loop-n.invariant (omega arith) in
    record { end = both.0; words = both.1 }
