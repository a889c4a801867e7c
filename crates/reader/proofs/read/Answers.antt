-- Test by test, as the answer is told; the batch is read on a copy, and only an accepted one is stored back.
-- Assumes nothing.
use Rattle.std.proofs.Common.{rules, ◌≡◌, refl, sym, ap, ◌∙◌, true, length, List, ℕ, of_calls, Ok, Err}
use Rattle.laws.specs.Lists.{over}
use Rattle.meaning.specs.Words.{words_of, bytes_of}
use Rattle.meaning.specs.Grants.{grants_fine}
use Rattle.meaning.specs.State.{well_formed}
use Rattle.meaning.specs.Answers.{answer_in, success, answer}
use Rattle.keeping.proofs.Keeping.{begun_by_lem, bounded_after, kept_after}
use Rattle.pair.specs.Marks.{cleared}
use Rattle.pair.proofs.Marks.{restored_length}
use Rattle.reader.proofs.Answers.{ReadOn, whole, state_refused, grants_refused, own_size, targets, batch_refused, known, pair_refused, accepts, stores}
use Rattle.reader.proofs.read.Goals as goal
use Rattle.reader.proofs.read.Goals.{Else-not-begin, After-place, After-read_packets, In_ok-place}

pub returns-then-not-well_formed-clause-answer : goal.returns-then-not-well_formed-clause-answer
returns-then-not-well_formed-clause-answer c =
    rw c.at.ensures.at (state_refused (words_of c.args.batch.now) (words_of c.args.grants.now) (words_of c.args.state.now) (sym c.if-not-well_formed.ensures.formed))

pub returns-then-not-begin-clause-answer : goal.returns-then-not-begin-clause-answer
returns-then-not-begin-clause-answer c =
    rw c.at-then-not-begin.ensures.at (grants_refused (words_of c.args.batch.now) (words_of c.args.grants.now) (words_of c.args.state.now) (sym c.if-not-well_formed.ensures.formed) (sym c.if-not-begin.ensures.fine))

pub place-requires-clause-begun : goal.place-requires-clause-begun
place-requires-clause-begun c = c.if-not-begin.ensures.begun ∙ begun_by_lem _ (sym c.if-not-begin.ensures.fine)

-- where the list keeps its rules: what the two tests told
formed : (x : Else-not-begin) → well_formed (words_of x.args.state.now) ≡ true
formed x = sym x.if-not-well_formed.ensures.formed

fine : (x : Else-not-begin) → grants_fine (words_of x.args.grants.now) ≡ true
fine x = sym x.if-not-begin.ensures.fine

pub load-requires-clause-whole : goal.load-requires-clause-whole
load-requires-clause-whole c = whole _ (formed (goal.at.load-requires-clause-whole c).Else-not-begin)

pub invariant_of-kept : goal.invariant_of-kept
invariant_of-kept c = record { bounded = bounded_after _ _ _ _ (fine (goal.at.invariant_of-kept c).Else-not-begin) c.place.ensures.bounds }

-- the packets are read
ready : (r : After-read_packets) → ReadOn (words_of r.args.batch.now) (words_of r.args.grants.now) (words_of r.args.state.now) r.place.new.starts r.place.new.lasts r.place.new.numbers r.place.new.bounds (answer_in r.read_packets.result) r.read_packets.new.state
ready r =
    let k = r.place.ensures in
    let kept = kept_after _ _ _ _ (refl, (refl, refl)) (sym r.if-not-begin.ensures.fine) (k.starts, (k.lasts, (k.numbers, k.bounds))) in
    let read = r.read_packets.ensures in
    record {
      formed = sym r.if-not-well_formed.ensures.formed;
      fine = sym r.if-not-begin.ensures.fine;
      s = _;
      l = _;
      n = _;
      lent = (refl, (refl, refl));
      kept = (k.starts, (k.lasts, (k.numbers, k.bounds)));
      own = _;
      copied = r.clear_pair.ensures.cleared ∙ ap cleared r.load.ensures.loaded;
      read = (read.answer _ kept.0, read.state _ kept.0);
    }

pub returns-in_err-place-clause-answer : goal.returns-in_err-place-clause-answer
returns-in_err-place-clause-answer c =
    let x = ready (goal.at.returns-in_err-place-clause-answer c).After-read_packets in
    let e = c.in_err-place.field-0.0 in
    let refused : c.read_packets.result ≡ Err e = search (rules, of_calls) in
    let same : c.from_residual.result ≡ Err e = search (rules, of_calls) in
    rw same (rw refused at (batch_refused x e.reason (rw refused)))

accepted : (c : In_ok-place) → answer_in c.read_packets.result ≡ answer success c.in_ok-place.place
accepted c = let e : c.read_packets.result ≡ Ok c.in_ok-place.place = search (rules, of_calls) in ap answer_in e

pub kept-requires-clause-known : goal.kept-requires-clause-known
kept-requires-clause-known c = λ t.
    let x = ready (goal.at.kept-requires-clause-known c).After-read_packets in
    known x (accepted (goal.at.kept-requires-clause-known c).In_ok-place) (targets c.part_of-part.ensures.role) refl t

pub returns-then-not-kept-clause-answer : goal.returns-then-not-kept-clause-answer
returns-then-not-kept-clause-answer c =
    let x = ready (goal.at.returns-then-not-kept-clause-answer c).After-read_packets in
    rw c.at-then-not-kept.ensures.at (pair_refused x (accepted (goal.at.returns-then-not-kept-clause-answer c).In_ok-place) (targets c.part_of-part.ensures.role) c.mark-target.ensures.mark c.mark-location.ensures.mark c.kept.ensures.kept c.if-not-kept.true)

pub store-requires-clause-array : goal.store-requires-clause-array
store-requires-clause-array c =
    ap length c.kept.ensures.own ∙ restored_length _ _ _ ∙ own_size (ready (goal.at.store-requires-clause-array c).After-read_packets)

pub returns-clause-answer : goal.returns-clause-answer
returns-clause-answer c =
    let x = ready (goal.at.returns-clause-answer c).After-read_packets in
    accepts x (accepted (goal.at.returns-clause-answer c).In_ok-place) (targets c.part_of-part.ensures.role) c.mark-target.ensures.mark c.mark-location.ensures.mark c.kept.ensures.kept c.if-not-kept.false

pub returns-clause-bytes : goal.returns-clause-bytes
returns-clause-bytes c =
    let x = ready (goal.at.returns-clause-bytes c).After-read_packets in
    c.store.ensures.stored ∙ ap (λ (y : List ℕ). over (bytes_of y) c.args.state.now) (stores x (accepted (goal.at.returns-clause-bytes c).In_ok-place) (targets c.part_of-part.ensures.role) c.mark-target.ensures.mark c.mark-location.ensures.mark c.kept.ensures.kept c.if-not-kept.false c.kept.ensures.own)
