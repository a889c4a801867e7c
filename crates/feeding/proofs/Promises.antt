-- What the engine promises of the words fed: when a word is refused, that a refusal stays, and that closing answers as the reader does.
-- Assumes nothing.
use mathlib.Core.Path.{◌≡◌, refl, sym, ap, ◌∙◌}
use mathlib.Core.Logic.{◌↔◌, ◌≢◌}
use mathlib.Core.Bool.{Bool, true, false}
use mathlib.Core.List.{List, [], ◌∷◌, ◌++◌}
use Prim.Native.Nat.{ℕ, suc, ◌≤◌, ◌<◌}
use native.Mathlib.Omega.{arith}
use lib.Dec.{T}
use lib.ListN.{length}
use lib.Seq.{take_all}
use Rattle.laws.proofs.Tests.{true_of, holds_of}
use Rattle.meaning.specs.declared.Kind.TheVariants.{Setting}
use Rattle.meaning.specs.Grants.{grants_fine, terms_of}
use Rattle.meaning.specs.State.{well_formed, empty, apply_all}
use Rattle.meaning.specs.Positions.{writes_of}
use Rattle.meaning.specs.Answers.{Answer, bad_state, bad_grants, engine_full, success, answer, settle}
use Rattle.meaning.specs.Reader.{batch_answer, paired_answer, read_answer, read_leaves}
use Rattle.meaning.specs.Engine.{most_fed, word_refused, fed_answer, closed_answer, Call, opening, feeding, closing, call_answer, engine_answer, engine_leaves}
use Rattle.meaning.proofs.Exactly.{read_batch}
use Rattle.meaning.proofs.Bytes.{settle_refused}
use Rattle.feeding.proofs.Runs.{Refused, not_refused}
use Rattle.feeding.proofs.Answers.{refused_iff, Taken, Fed, all_taken, stopped, past_full, fed_is, fed_told, taken_of, fed_stays, fed_none, next_length, next_full, words_first, closed_few, closed_refused}

-- ---- opening

-- M1 "Opening gives 1, then 2, as the reader does. Else it answers 0 at 0."
pub data Opens (st grants : List ℕ) : Answer → Type 0 where
  -- the state is tested first
  by_bad_state : well_formed st ≡ false → Opens st grants (answer bad_state 0)
  by_bad_grants : well_formed st ≡ true → grants_fine grants ≡ false → Opens st grants (answer bad_grants 0)
  opens : well_formed st ≡ true → grants_fine grants ≡ true → Opens st grants (answer success 0)

opens_by : (st grants : List ℕ) (a b : Bool) → well_formed st ≡ a → grants_fine grants ≡ b → Opens st grants (engine_answer st grants opening)
unfolding engine_answer call_answer
opens_by st grants false b e f = rw e (by_bad_state e)
opens_by st grants true false e f = rw (e, f) (by_bad_grants e f)
opens_by st grants true true e f = rw (e, f) (opens e f)

-- opening answers one of the three
pub opens_as : (st grants : List ℕ) → Opens st grants (engine_answer st grants opening)
opens_as st grants = opens_by st grants (well_formed st) (grants_fine grants) refl refl

-- M2 "After 1 or 2 at opening, every later call repeats that answer, and closing hands back the empty state."
pub record Repeats (st grants ws : List ℕ) : Type 0 where
  pub feed : engine_answer st grants (feeding ws) ≡ engine_answer st grants opening
  pub close : engine_answer st grants (closing ws) ≡ engine_answer st grants opening
  pub state : engine_leaves st grants ws ≡ empty
  pub reader : read_answer ws grants st ≡ engine_answer st grants opening

repeats_by : (st grants ws : List ℕ) {a : Answer} → Opens st grants a → a.reason ≢ 0 → Repeats st grants ws
unfolding engine_answer engine_leaves read_answer
repeats_by st grants ws (by_bad_state e) n = record { feed = rw e; close = rw e; state = rw e; reader = rw e }
repeats_by st grants ws (by_bad_grants e f) n = record { feed = rw (e, f); close = rw (e, f); state = rw (e, f); reader = rw (e, f) }
repeats_by st grants ws (opens e f) n = absurd (n refl)

-- where opening does not answer 0
pub refused_at_opening : (st grants ws : List ℕ) → (engine_answer st grants opening).reason ≢ 0 → Repeats st grants ws
refused_at_opening st grants ws n = repeats_by st grants ws (opens_as st grants) n

-- before any word, the answer is that of opening
pub none_fed : (st grants : List ℕ) → engine_answer st grants (feeding []) ≡ engine_answer st grants opening
unfolding engine_answer call_answer
none_fed st grants = rw (fed_none (terms_of grants))

-- ---- where opening answers 0: what the words give

-- any call, where both tests are true
pub call_is : (st grants : List ℕ) → T (well_formed st) → T (grants_fine grants) → (c : Call)
    → engine_answer st grants c ≡ call_answer (terms_of grants) st c
unfolding engine_answer
call_is st grants s l c = rw (true_of (well_formed st) s, true_of (grants_fine grants) l)

fine_by : (st grants : List ℕ) {a : Answer} → Opens st grants a → a.reason ≡ 0 → T (well_formed st) × T (grants_fine grants)
fine_by st grants (by_bad_state e) z = absurd (omega arith)
fine_by st grants (by_bad_grants e f) z = absurd (omega arith)
fine_by st grants (opens e f) z = (holds_of e, holds_of f)

module _ (st grants : List ℕ) (z : (engine_answer st grants opening).reason ≡ 0) (ws : List ℕ) where
  -- both tests are true
  fine : T (well_formed st) × T (grants_fine grants)
  fine = fine_by st grants (opens_as st grants) z

  -- feeding the last of the words
  pub feed_is : engine_answer st grants (feeding ws) ≡ fed_answer (terms_of grants) ws
  unfolding call_answer
  feed_is = call_is st grants fine.0 fine.1 (feeding ws)

  -- closing after them
  pub close_is : engine_answer st grants (closing ws) ≡ closed_answer (terms_of grants) st ws
  unfolding call_answer
  close_is = call_is st grants fine.0 fine.1 (closing ws)

  -- the state that is handed back
  pub leaves_is : engine_leaves st grants ws ≡ settle (closed_answer (terms_of grants) st ws) (apply_all st (writes_of ws)) st
  unfolding engine_leaves
  leaves_is = rw (true_of (well_formed st) fine.0, true_of (grants_fine grants) fine.1)

  -- the reader's answer
  read_is : read_answer ws grants st ≡ paired_answer (terms_of grants) st ws
  read_is = read_batch ws grants st fine.0 fine.1

-- ---- closing

-- M7 "Closing gives the reader's answer on the words fed, and hands back the state as it was at opening, changed as the batch says only if
-- that answer is success."
pub closes_as_the_reader : (st grants ws : List ℕ) → (engine_answer st grants opening).reason ≡ 0 → length ws ≤ most_fed
    → (engine_answer st grants (closing ws) ≡ read_answer ws grants st) × (engine_leaves st grants ws ≡ read_leaves ws grants st)
unfolding read_leaves
closes_as_the_reader st grants ws z l =
    let same : closed_answer (terms_of grants) st ws ≡ read_answer ws grants st = closed_few (terms_of grants) st ws l ∙ sym (read_is st grants z ws) in
    (close_is st grants z ws ∙ same, leaves_is st grants z ws ∙ rw same)

-- ---- the next word

-- M3 "A word is refused exactly if the reader gives one of 3 to 9 on the words fed up to and with it, and is then given that answer."
-- M4 "A word that is taken is answered 0 at the number of words fed.", also where the reader gives 10 or 14
pub record NextWord (st grants ws : List ℕ) (w : ℕ) : Type 0 where
  pub exactly : ((engine_answer st grants (feeding (ws ++ (w ∷ [])))).reason ≢ 0) ↔ T (word_refused (read_answer (ws ++ (w ∷ [])) grants st))
  pub refusal : (engine_answer st grants (feeding (ws ++ (w ∷ [])))).reason ≢ 0
      → engine_answer st grants (feeding (ws ++ (w ∷ []))) ≡ read_answer (ws ++ (w ∷ [])) grants st
  pub taken : (engine_answer st grants (feeding (ws ++ (w ∷ [])))).reason ≡ 0
      → engine_answer st grants (feeding (ws ++ (w ∷ []))) ≡ answer success (suc (length ws))

module _ (st grants ws : List ℕ) (w : ℕ) (z : (engine_answer st grants opening).reason ≡ 0) (l : length ws < most_fed) where
  -- the words with it
  abbrev all : List ℕ
  all = ws ++ (w ∷ [])

  -- the reader refuses a word of them exactly if the words alone say so, without the pair
  read_iff : {a : Answer} → Refused a → (read_answer all grants st ≡ a) ↔ (batch_answer (terms_of grants) all ≡ a)
  read_iff f = rw (read_is st grants z all) (words_first (terms_of grants) st all f)

  next_by : {a : Answer} → Fed (terms_of grants) all a → engine_answer st grants (feeding all) ≡ a → NextWord st grants ws w
  unfolding batch_answer
  next_by (all_taken t) e =
      let none : (engine_answer st grants (feeding all)).reason ≡ 0 = ap (λ (x : Answer). x.reason) e in
      let never : ¬ T (word_refused (read_answer all grants st)) =
      λ f. let y = (refused_iff _).0 f in not_refused (terms_of grants) Setting 0 all t.passes (rw ((read_iff y).0 refl) y) in
      record {
        exactly = (λ n. absurd (n none), λ f. absurd (never f));
        refusal = λ n. absurd (n none);
        taken = λ _. e ∙ ap (answer success) (next_length ws w);
      }
  next_by (stopped d f) e =
      let read : read_answer all grants st ≡ _ = (read_iff f).1 (rw (take_all most_fed all (omega (arith, next_length ws w))) at d) in
      let some : (engine_answer st grants (feeding all)).reason ≢ 0 = λ y. omega (arith, ap (λ (x : Answer). x.reason) e) in
      record { exactly = (λ n. (refused_iff _).1 (rw read f), λ y. some); refusal = λ n. e ∙ sym read; taken = λ y. absurd (some y) }
  next_by (past_full m p) e = absurd (omega (arith, next_length ws w))

-- of every word for which there is room; the words before it may have been refused
pub refuses_exactly : (st grants ws : List ℕ) (w : ℕ) → (engine_answer st grants opening).reason ≡ 0 → length ws < most_fed → NextWord st grants ws w
refuses_exactly st grants ws w z l = next_by st grants ws w z l (fed_told (terms_of grants) (ws ++ (w ∷ []))) (feed_is st grants z (ws ++ (w ∷ [])))

-- ---- the number of words

-- what an answer of 0 tells of the words
taken_so_far : (st grants ws : List ℕ) → (engine_answer st grants opening).reason ≡ 0 → (engine_answer st grants (feeding ws)).reason ≡ 0
    → Taken (terms_of grants) ws
taken_so_far st grants ws z y = taken_of (terms_of grants) ws (rw (feed_is st grants z ws) at y)

-- M4 "0 at the number of words fed"
pub number_fed : (st grants ws : List ℕ) → (engine_answer st grants opening).reason ≡ 0 → (engine_answer st grants (feeding ws)).reason ≡ 0
    → (length ws ≤ most_fed) × (engine_answer st grants (feeding ws) ≡ answer success (length ws))
number_fed st grants ws z y =
    let t = taken_so_far st grants ws z y in
    (t.few, feed_is st grants z ws ∙ fed_is (terms_of grants) ws (all_taken t))

-- M5 "A word that is fed after 2^32 − 1 words that were all taken is given 23 at 2^32 − 1, whatever it is."
pub holds_so_many : (st grants ws : List ℕ) (w : ℕ) → (engine_answer st grants opening).reason ≡ 0
    → (engine_answer st grants (feeding ws)).reason ≡ 0 → length ws ≡ most_fed
    → engine_answer st grants (feeding (ws ++ (w ∷ []))) ≡ answer engine_full most_fed
holds_so_many st grants ws w z y e =
    feed_is st grants z (ws ++ (w ∷ [])) ∙ next_full (terms_of grants) ws (taken_so_far st grants ws z y) w (omega arith)

-- ---- a refusal stays

-- M6 "Once a word is refused, by 3 to 9 or by 23, words fed after it change nothing. They and closing are given the same answer."
pub record Stays (st grants ws more : List ℕ) : Type 0 where
  pub feed : engine_answer st grants (feeding (ws ++ more)) ≡ engine_answer st grants (feeding ws)
  pub close : engine_answer st grants (closing (ws ++ more)) ≡ engine_answer st grants (feeding ws)
  pub state : engine_leaves st grants (ws ++ more) ≡ st

-- where a word of ws is refused, whatever follows
pub stays_refused : (st grants ws more : List ℕ) → (engine_answer st grants opening).reason ≡ 0
    → (engine_answer st grants (feeding ws)).reason ≢ 0 → Stays st grants ws more
stays_refused st grants ws more z n =
    let g = terms_of grants in
    let here = feed_is st grants z ws in
    let m : (fed_answer g ws).reason ≢ 0 = rw here at n in
    let on = fed_stays g ws more m in
    let closed : closed_answer g st (ws ++ more) ≡ fed_answer g ws = closed_refused g st (ws ++ more) (rw on m) ∙ on in
    record {
      feed = feed_is st grants z (ws ++ more) ∙ on ∙ sym here;
      close = close_is st grants z (ws ++ more) ∙ closed ∙ sym here;
      state = leaves_is st grants z (ws ++ more) ∙ rw closed (settle_refused (fed_answer g ws) _ st m);
    }
