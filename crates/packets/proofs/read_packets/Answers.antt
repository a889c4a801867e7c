-- Packet after packet: to read on from here is to read the whole.
-- Assumes nothing.
use Rattle.std.proofs.Common.{rules, arith, ◌≡◌, refl, sym, ◌<◌, ◌/◌, length, Err}
use Rattle.meaning.specs.declared.Kind.TheVariants.{Setting}
use Rattle.meaning.specs.Words.{words_of}
use Rattle.meaning.specs.Grants.{Terms}
use Rattle.meaning.specs.Answers.{answer_in, ends_inside, success, answer}
use Rattle.meaning.proofs.Bytes.{length_words}
use Rattle.grants.specs.Held.{IsKept}
use Rattle.bodies.specs.Passes.{Comes}
use Rattle.packets.specs.Packets.{packets_from}
use Rattle.packets.proofs.Packets.{all_ahead, all_read, not_whole, read_stop, read_on}
use Rattle.packets.proofs.read_packets.Goals as goal
use Rattle.packets.proofs.read_packets.Goals.{After-read_packet, After-from_residual}

-- a header stands before the end, which is told in whole words of the buffer
inside : (r : After-read_packet) → r.loop-at.at < length (words_of r.args.batch.now)
inside r = omega (arith, length_words r.args.batch.now)

pub loop-at-init : goal.loop-at-init
loop-at-init c = λ g k. all_ahead g _ _

refused : (c : After-from_residual) (g : Terms) → IsKept g c.args.kept.now → Comes (answer_in c.from_residual.result) c.read_packet.new.state (packets_from g 0 Setting 0 (words_of c.args.batch.now) c.args.state.now)
refused c g k =
    let e = c.in_err-at.field-0.0 in
    let refusal : c.from_residual.result ≡ Err e = search rules in
    let told = c.in_err-at.ensures in
    rw refusal (read_stop g _ _ _ _ (c.loop-at.invariant g k) (inside (goal.at.returns-in_err-at c).After-read_packet) (told.answer g k, told.state g k) e.reason refl)

pub returns-in_err-at : goal.returns-in_err-at
returns-in_err-at c = record { answer = λ g k. (refused c g k).0; state = λ g k. (refused c g k).1 }

pub loop-at-preserved : goal.loop-at-preserved
loop-at-preserved c = let told = c.in_ok-at.ensures in
    λ g k. read_on g _ _ _ _ (c.loop-at.invariant g k) (inside (goal.at.loop-at-preserved c).After-read_packet) (told.answer g k, told.state g k) refl

pub returns-then-at-words : goal.returns-then-at-words
returns-then-at-words c =
    let words = length_words c.args.batch.now in
    let short : (g : Terms) → IsKept g c.args.kept.now → Comes (answer ends_inside (length c.args.batch.now / 4)) c.loop-at.state (packets_from g 0 Setting 0 (words_of c.args.batch.now) c.args.state.now) =
    λ g k. not_whole g _ _ _ _ (c.loop-at.invariant g k) (sym words) (omega (arith, words)) in
    record { answer = rw c.at.ensures.at (λ g k. (short g k).0); state = λ g k. (short g k).1 }

pub returns : goal.returns
returns c =
    let words = length_words c.args.batch.now in
    let all : (g : Terms) → IsKept g c.args.kept.now → Comes (answer success (length c.args.batch.now / 4)) c.loop-at.state (packets_from g 0 Setting 0 (words_of c.args.batch.now) c.args.state.now) =
    λ g k. all_read g _ _ _ _ (c.loop-at.invariant g k) (sym words) (omega (arith, words)) in
    record { answer = λ g k. (all g k).0; state = λ g k. (all g k).1 }
