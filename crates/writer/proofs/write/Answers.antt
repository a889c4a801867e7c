-- The size decides, then the room; with both, the words are written.
-- Assumes nothing.
use mathlib.Core.Path.{sym, ap}
use native.Mathlib.Omega.{arith}
use Rattle.std.proofs.Common.{rules, of_calls, ◌≡◌, Ok, Err}
use Rattle.meaning.specs.Words.{words_of}
use Rattle.meaning.specs.Answers.{Answer, success, answer}
use Rattle.meaning.specs.Writer.{size_answer}
use Rattle.sizing.proofs.Sizes.{sized}
use Rattle.writer.proofs.Answers.{sound_narrow, handed_on, short, enough}
use Rattle.writer.proofs.write.Goals as goal
use Rattle.writer.proofs.write.Goals.{In_ok-need}

pub returns-in_err-need-clause-answer : goal.returns-in_err-need-clause-answer
returns-in_err-need-clause-answer c =
    let e = c.in_err-need.field-0.0 in
    let refused : c.measure.result ≡ Err e = search (rules, of_calls) in
    let same : c.from_residual.result ≡ Err e = search (rules, of_calls) in
    rw same (handed_on _ _ _ _ (rw refused at c.measure.ensures.answer))

-- the size that was told
told : (c : In_ok-need) → answer success c.in_ok-need.need.in_all ≡ size_answer (words_of c.args.state.now) (words_of c.args.grants.now)
told c = let e : c.measure.result ≡ Ok c.in_ok-need.need = search (rules, of_calls) in rw e at c.measure.ensures.answer

pub returns-then-out-need-clause-answer : goal.returns-then-out-need-clause-answer
returns-then-out-need-clause-answer c =
    rw c.at.ensures.at (short _ _ (told (goal.at.returns-then-out-need-clause-answer c).In_ok-need) c.if-out-need.true)

pub emit-requires-clause-whole : goal.emit-requires-clause-whole
emit-requires-clause-whole c = (sized _ _ (sym (ap (λ (a : Answer). a.reason) (told (goal.at.emit-requires-clause-whole c).In_ok-need)))).1.formed.size

pub emit-requires-clause-narrow : goal.emit-requires-clause-narrow
emit-requires-clause-narrow c = sound_narrow _ _ (sized _ _ (sym (ap (λ (a : Answer). a.reason) (told (goal.at.emit-requires-clause-narrow c).In_ok-need)))).1

pub emit-requires-clause-room : goal.emit-requires-clause-room
emit-requires-clause-room c =
    let t = told (goal.at.emit-requires-clause-room c).In_ok-need in
    let e = sized _ _ (sym (ap (λ (a : Answer). a.reason) t)) in
    omega (arith, e.2, ap (λ (a : Answer). a.place) t, c.if-out-need.false)

pub returns-clause-answer : goal.returns-clause-answer
returns-clause-answer c = enough _ _ (told (goal.at.returns-clause-answer c).In_ok-need) c.if-out-need.false
