-- What the reader's answer does not depend on: of all that the registers hold, the pair alone decides, and only between 0 and 14.
-- Assumes nothing.
use mathlib.Core.Path.{◌≡◌, refl, sym, ap, ◌∙◌}
use mathlib.Core.Logic.{◌≢◌}
use mathlib.Core.Bool.{Bool, true, false, cond}
use mathlib.Core.List.{List}
use lib.Dec.{T, eqb}
use Prim.Native.Nat.{ℕ}
use Rattle.laws.proofs.Tests.{true_of}
use Rattle.meaning.specs.Grants.{grants_fine, terms_of}
use Rattle.meaning.specs.State.{well_formed}
use Rattle.meaning.specs.Pair.{wrote_pair, pair_kept}
use Rattle.meaning.specs.Positions.{writes_of}
use Rattle.meaning.specs.Answers.{Answer, provided}
use Rattle.meaning.specs.Reader.{unless, batch_answer, paired_answer, read_answer}
use Rattle.meaning.proofs.States.{formed_iff}
use Rattle.pairing.specs.Same.{SamePair}
use Rattle.pairing.proofs.Entry.{unwritten_kept, same_pair_kept}

-- no place, and no reason but 0 and 14, depends on what the registers hold; 0 or 14 depends on cells 1 and 2 alone, and on nothing where
-- the batch writes neither
pub record Ignores (batch grants st other : List ℕ) : Type 0 where
  pub place : (read_answer batch grants st).place ≡ (read_answer batch grants other).place
  pub refusals : (read_answer batch grants st).reason ≢ 0 → (read_answer batch grants st).reason ≢ 14 → read_answer batch grants st ≡ read_answer batch grants other
  pub pair : SamePair st other → read_answer batch grants st ≡ read_answer batch grants other
  pub unwritten : ¬ T (wrote_pair (writes_of batch)) → read_answer batch grants st ≡ read_answer batch grants other

-- the call on a well-formed state: by the grants' test, by whether the words are accepted, and by the pair
abbrev call : Bool → Bool → Answer → Bool → Answer
call b z a k = provided b 2 (cond z (record { reason = unless k 14 0; place = a.place }) a)

call_place : (b z : Bool) (a : Answer) (k j : Bool) → (call b z a k).place ≡ (call b z a j).place
call_place true true a k j = refl
call_place true false a k j = refl
call_place false z a k j = refl

call_refused : (b z : Bool) (a : Answer) (k j : Bool) → (call b z a k).reason ≢ 0 → (call b z a k).reason ≢ 14 → call b z a k ≡ call b z a j
unfolding unless
call_refused true true a true j n m = absurd (n refl)
call_refused true true a false j n m = absurd (m refl)
call_refused true false a k j n m = refl
call_refused false z a k j n m = refl

call_of : (batch grants st : List ℕ) → T (well_formed st)
    → read_answer batch grants st
    ≡ call (grants_fine grants) (eqb (batch_answer (terms_of grants) batch).reason 0) (batch_answer (terms_of grants) batch) (pair_kept (terms_of grants) st (writes_of batch))
unfolding read_answer paired_answer
call_of batch grants st s = rw (true_of (well_formed st) s)

pub ignores : (batch grants st other : List ℕ) → T (well_formed st) → T (well_formed other) → Ignores batch grants st other
ignores batch grants st other s o =
    let g = terms_of grants in
    let b = grants_fine grants in
    let a = batch_answer g batch in
    let z = eqb a.reason 0 in
    let k = pair_kept g st (writes_of batch) in
    let j = pair_kept g other (writes_of batch) in
    let here = call_of batch grants st s in
    let there = call_of batch grants other o in
    let reason = ap (λ (x : Answer). x.reason) here in
    let same : k ≡ j → read_answer batch grants st ≡ read_answer batch grants other = λ e. here ∙ ap (call b z a) e ∙ sym there in
    record {
      place = ap (λ (x : Answer). x.place) here ∙ call_place b z a k j ∙ sym (ap (λ (x : Answer). x.place) there);
      refusals = λ n m. here ∙ call_refused b z a k j (λ e. n (reason ∙ e)) (λ e. m (reason ∙ e)) ∙ sym there;
      pair = λ p. same (same_pair_kept g st other (writes_of batch) (((formed_iff st).0 s).size ∙ sym ((formed_iff other).0 o).size) p);
      unwritten = λ n. same (unwritten_kept g st (writes_of batch) n ∙ sym (unwritten_kept g other (writes_of batch) n));
    }
