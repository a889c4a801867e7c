-- The parameters are stored one after another, two places on; then the head before them.
-- Assumes nothing.
use mathlib.Core.Path.{sym, ap}
use mathlib.Core.List.{List, [], ◌++◌, append-nil}
use Prim.Native.Nat.{ℕ, ◌+◌, ◌/◌, ◌≤◌}
use native.Mathlib.Omega.{arith}
use lib.ListN.{length, length-append}
use Rattle.meaning.specs.Words.{words_of}
use Rattle.meaning.specs.Registers.{cell}
use Rattle.meaning.specs.Writer.{setting_word}
use Rattle.emitter_3d.specs.Emitted.{parameter_of, parameters_from, packet_words, target_words, Room}
use Rattle.emitter_3d.proofs.Cells.{parameter_few, parameters_few}
use Rattle.emitter_3d.proofs.Runs.{Runs, Done, begun, room_next, went, ended}
use Rattle.emitter_3d.proofs.Packets.{room_parameters, head_asks, closed}
use Rattle.emitter_3d.proofs.emit_target.Goals as goal
use Rattle.emitter_3d.proofs.emit_target.Goals.{Start}

-- the parameter of the first row, and those of the others
abbrev first : goal.Start → List ℕ
first s = parameter_of (words_of s.args.state.now) (cell 0) (record { 0 = 0x3F })

abbrev more : goal.Start → List ℕ
more s = parameters_from (words_of s.args.state.now) 1 0x50 3

few : (s : goal.Start) → length (first s ++ more s) ≤ 4
few s =
    let st = words_of s.args.state.now in
    omega (arith, length-append (first s) (more s), parameter_few st (cell 0) (record { 0 = 0x3F }), parameters_few st 1 0x50 3)

room : (s : goal.Start) → 0 + length (packet_words (setting_word 0x01 0x00) (first s ++ more s)) ≤ length s.args.out.now / 4
unfolding target_words
room s = omega (arith, s.requires.room)

room_all : (s : goal.Start) → Room s.args.out.now 2 (first s ++ more s)
room_all s = room_parameters 0x01 0x00 (first s ++ more s) s.args.out.now 0 (room s)

start : (s : goal.Start) → Runs (first s ++ more s) s.args.out.now 2 (first s ++ (more s ++ [])) s.args.out.now 2
start s = begun _ _ _ (ap (λ (ps : List ℕ). first s ++ ps) (sym (append-nil (more s))))

-- the first is stored: the others are left
others : (s : goal.Start) {out : List ℕ} {second : ℕ} → Done (first s) s.args.out.now 2 out second → Runs (first s ++ more s) s.args.out.now 2 (more s ++ []) out second
others s one = went (first s) (more s ++ []) (start s) one

-- all are stored
all : (s : goal.Start) {mid out : List ℕ} {second end : ℕ} → Done (first s) s.args.out.now 2 mid second → Done (more s) mid second out end
    → Done (first s ++ more s) s.args.out.now 2 out end
all s one three = ended (went (more s) [] (others s one) three)

pub emit_parameter-second-requires : goal.emit_parameter-second-requires
emit_parameter-second-requires c =
    let s = (goal.at.emit_parameter-second-requires c).Start in
    record {
      whole = c.requires.whole;
      inside = omega arith;
      short = omega arith;
      narrow = c.requires.narrow 0 (omega arith);
      room = room_next (first s) (more s ++ []) (start s) (room_all s);
    }

pub emit_rows-end-requires : goal.emit_rows-end-requires
emit_rows-end-requires c =
    let s = (goal.at.emit_rows-end-requires c).Start in
    let one = c.emit_parameter-second.ensures in
    record {
      whole = c.requires.whole;
      narrow = c.requires.narrow;
      inside = omega arith;
      short = omega arith;
      room = room_next (more s) [] (others s (one.end, one.words)) (room_all s);
    }

pub close_packet-requires : goal.close_packet-requires
close_packet-requires c =
    let s = (goal.at.close_packet-requires c).Start in
    let one = c.emit_parameter-second.ensures in
    let three = c.emit_rows-end.ensures in
    let asks = head_asks 0x01 0x00 _ _ 0 (room s) (all s (one.end, one.words) (three.end, three.words)) (few s) (omega arith) (omega arith) in
    record { order = asks.0; few = asks.1.0; ty = asks.1.1.0; sub = asks.1.1.1.0; room = asks.1.1.1.1 }

pub returns : goal.returns
unfolding target_words
returns c =
    let s = (goal.at.returns c).Start in
    let one = c.emit_parameter-second.ensures in
    let three = c.emit_rows-end.ensures in
    let whole = closed 0x01 0x00 _ _ 0 (room s) (all s (one.end, one.words) (three.end, three.words)) c.close_packet.ensures.end c.close_packet.ensures.words in
    record { end = omega (arith, whole.0); words = whole.1 }
