-- What the header and the words at hand come to is what the packet comes to.
-- Assumes nothing.
use Rattle.std.proofs.Common.{rules, arith, ◌≡◌, ap, ◌∙◌, ℕ, ◌+◌, ◌<◌, length, drop, Err}
use Prim.Native.Nat.{min}
use Rattle.meaning.specs.Words.{count, words_of}
use Rattle.meaning.specs.Grants.{Terms}
use Rattle.meaning.specs.Answers.{answer_in, success, answer}
use Rattle.meaning.proofs.Bytes.{length_words}
use Rattle.grants.specs.Held.{IsKept}
use Rattle.bodies.specs.Passes.{Comes}
use Rattle.packets.specs.Packets.{packet_from}
use Rattle.packets.proofs.Packets.{packet_refused, packet_passed}
use Rattle.packets.proofs.read_packet.Goals as goal
use Rattle.packets.proofs.read_packet.Goals.{After-read_headed, After-from_residual, In_ok-read_headed}

-- the header stands before the end
inside : (r : After-read_headed) → r.args.at < length (words_of r.args.batch.now)
inside r = omega (arith, length_words r.args.batch.now)

-- the place after the packet by its count, and where its words at hand end
next_is : (r : After-read_headed) → r.args.at + 1 + r.count-n.result ≡ r.args.at + 1 + count r.word-header.result
next_is r = ap (λ (n : ℕ). r.args.at + 1 + n) r.count-n.ensures.count

end_is : (r : After-read_headed) → r.min-end.result ≡ min (r.args.at + 1 + count r.word-header.result) (length (words_of r.args.batch.now))
end_is r = r.min-end.ensures ∙ rw (next_is r, length_words r.args.batch.now)

refused : (c : After-from_residual) (g : Terms) → IsKept g c.args.kept.now → Comes (answer_in c.from_residual.result) c.read_headed.new.state (packet_from g c.args.at (drop c.args.at (words_of c.args.batch.now)) c.args.state.now)
refused c g k =
    let r = (goal.at.returns-in_err-read_headed-clause-answer c).After-read_headed in
    let e = c.in_err-read_headed.field-0.0 in
    let refusal : c.from_residual.result ≡ Err e = search rules in
    rw refusal (packet_refused g (words_of c.args.batch.now) _ _ (inside r) c.word-header.ensures.word _ (end_is r) e.reason (c.in_err-read_headed.ensures.read g k))

pub returns-in_err-read_headed-clause-answer : goal.returns-in_err-read_headed-clause-answer
returns-in_err-read_headed-clause-answer c = λ g k. (refused c g k).0

pub returns-in_err-read_headed-clause-state : goal.returns-in_err-read_headed-clause-state
returns-in_err-read_headed-clause-state c = λ g k. (refused c g k).1

passed : (c : In_ok-read_headed) (g : Terms) → IsKept g c.args.kept.now → Comes (answer success (c.args.at + 1 + c.count-n.result)) c.read_headed.new.state (packet_from g c.args.at (drop c.args.at (words_of c.args.batch.now)) c.args.state.now)
passed c g k =
    let r = (goal.at.returns-clause-answer c).After-read_headed in
    packet_passed g (words_of c.args.batch.now) _ _ (inside r) c.word-header.ensures.word _ (end_is r) (c.in_ok-read_headed.ensures.read g k) (next_is r)

pub returns-clause-answer : goal.returns-clause-answer
returns-clause-answer c = λ g k. (passed c g k).0

pub returns-clause-state : goal.returns-clause-state
returns-clause-state c = λ g k. (passed c g k).1
