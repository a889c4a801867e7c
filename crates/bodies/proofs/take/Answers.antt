-- Each word is asked and what it writes is stored: to read on from here is to read the whole.
-- Assumes nothing.
use Rattle.std.proofs.Common.{rules, of_calls, arith, ◌≡◌, inl, inr, ℕ, get_or, Ok, Err}
use Rattle.std.proofs.Math.Seq.{slice}
use Rattle.std.specs.Iterator.Adapters.{zip_second}
use Rattle.meaning.specs.declared.Kind.{Kind}
use Rattle.meaning.specs.Words.{words_of}
use Rattle.meaning.specs.Grants.{Terms}
use Rattle.bodies.specs.Passes.{Passed, body_from}
use Rattle.bodies.specs.Told.{Stands, Judges, Tells}
use Rattle.bodies.proofs.Bodies.{body_on, body_stop, body_done, among_words}
use Rattle.bodies.proofs.take.Goals as goal
use Rattle.bodies.proofs.take.Goals.{After-ask-asked}

-- the word at hand stands in the body,
here : (g : _) (c : After-ask-asked g) → Stands c.args.index c.args.first c.args.end c.in-Some.k c.in-Some.at
here g c = record {
  from = omega (arith, c.in-Some.ensures.steps);
  before = omega (arith, c.in-Some.ensures.steps);
  apart = omega (arith, c.in-Some.ensures.steps);
}

module _ (g : _) (c : After-ask-asked g) (h : Terms) (kind : ℕ → Kind) (judges : Judges (goal.F-post g c.args.ask) h kind c.args.index c.args.first c.args.end (words_of c.args.batch.now)) where
  abbrev whole : Passed
  whole = body_from h c.args.first (kind c.args.index) (slice c.args.first c.args.end (words_of c.args.batch.now)) c.args.state.now

  -- is of its kind,
  read_on : body_from h c.in-Some.at (kind c.in-Some.k) (slice c.in-Some.at c.args.end (words_of c.args.batch.now)) c.loop-k.state ≡ whole
  read_on = let s = c.in-Some.ensures.steps in rw (s.0.0, s.1.1.1) (c.loop-k.invariant.whole h kind judges)

  -- and what is told of it is so
  told : Tells h (kind c.in-Some.k) (get_or (words_of c.args.batch.now) c.in-Some.at 0) c.ask-asked.result
  told = judges.tells _ _ _ (here g c) (rw c.word.ensures.word at c.ask-asked.ensures)

pub returns-in_err-map_err : goal.returns-in_err-map_err
returns-in_err-map_err g c =
    let r = c.in_err-map_err.field-0.0.reason in
    let told_err : c.ask-asked.result.verdict ≡ Err r = search (rules, of_calls) in
    let refusal : c.from_residual.result ≡ Err (record { reason = r; place = c.in-Some.at }) = search (rules, of_calls) in
    let a = (goal.at.returns-in_err-map_err g c).After-ask-asked in
    record { read = λ h kind judges. rw refusal (body_stop h _ _ _ (among_words c.args.batch.now _ c.requires.places.1) _ _ _ (read_on g a h kind judges) (here g a).before (told g a h kind judges) told_err) }

pub loop-k-preserved : goal.loop-k-preserved
loop-k-preserved g c =
    let s = c.in-Some.ensures.steps in
    let fine : c.ask-asked.result.verdict ≡ Ok tt = search (rules, of_calls) in
    let a = (goal.at.loop-k-preserved g c).After-ask-asked in
    record {
      can_next = (tt, tt);
      finite = tt;
      from = omega (arith, s);
      to = omega (arith, s);
      end = omega (arith, s);
      apart = omega (arith, s);
      whole = λ h kind judges. rw (s.0.1, s.1.1.2, ← s.1.1.1, ← judges.follows _ _ (here g a)) (body_on h _ _ _ (among_words c.args.batch.now _ c.requires.places.1) _ _ _ (read_on g a h kind judges) (here g a).before (told g a h kind judges) fine c.store.ensures.applied);
    }

pub returns : goal.returns
returns g c =
    let end : (zip_second c.loop-k.k-iterator).start ≡ c.args.end = elim c.in-None.ensures.steps [ inl x ↦ omega (arith, x) | inr x ↦ omega (arith, x) ] in
    record { read = λ h kind judges. body_done h _ _ c.args.end (among_words c.args.batch.now _ c.requires.places.1) _ _ (zip_second c.loop-k.k-iterator).start (c.loop-k.invariant.whole h kind judges) end }
