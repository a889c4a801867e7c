-- The answers to the last of the words fed and to closing, by what became of the words: all are taken, one is refused, or they are too many.
-- Assumes nothing.
use mathlib.Core.Path.{◌≡◌, refl, sym, ap, ◌∙◌, subst}
use mathlib.Core.Logic.{◌↔◌, ◌≢◌, inl, inr}
use mathlib.Core.Bool.{Bool, true, false}
use mathlib.Core.List.{List, [], ◌∷◌, ◌++◌}
use Prim.Native.Nat.{ℕ, zero, suc, ◌-◌, ◌≤◌, ◌<◌}
use native.Mathlib.Omega.{arith}
use native.Mathlib.Decide.{dec_lt, ℕ_discrete}
use lib.Dec.{T}
use lib.ListN.{length, take, length-append}
use lib.Seq.{take-nil, take_all, take-append-le}
use borrow.Author.Tests.{le-leb, lt-leb, ne_eqb}
use Rattle.laws.proofs.Tests.{within_iff, true_of, false_of}
use Rattle.meaning.specs.declared.Kind.TheVariants.{Setting}
use Rattle.meaning.specs.Grants.{Terms}
use Rattle.meaning.specs.Pair.{pair_kept}
use Rattle.meaning.specs.Positions.{position_at, writes_of}
use Rattle.meaning.specs.Answers.{Answer, bad_offset, not_granted, bad_pair, engine_full, success, answer}
use Rattle.meaning.specs.Reader.{unless, judge, ended, batch_answer, paired, paired_answer}
use Rattle.meaning.specs.Engine.{most_fed, word_refused, counted, fed_answer, closed_answer}
use Rattle.feeding.proofs.Runs.{Passes, Refused, judge_refused, came, run_passed, not_refused, stuck, good_end, passes_on, stops_on}

-- ---- the tests

-- the test of a refused word, as a fact
pub refused_iff : (a : Answer) → T (word_refused a) ↔ Refused a
unfolding word_refused
refused_iff a = within_iff bad_offset not_granted a.reason

-- the number of words, up to the most
counted_few : (n : ℕ) → n ≤ most_fed → counted n ≡ answer success n
unfolding counted
counted_few n l = rw (le-leb n most_fed l)

-- and past it
counted_many : (n : ℕ) → most_fed < n → counted n ≡ answer engine_full most_fed
unfolding counted
counted_many n l = rw (lt-leb n most_fed l)

-- the first n elements of two lists, one after the other
take_append : (n : ℕ) (xs ys : List ℕ) → take n (xs ++ ys) ≡ take n xs ++ take (n - length xs) ys
take_append n [] ys = let e : n - 0 ≡ n = omega arith in rw (e, take-nil n)
take_append zero (x ∷ xs) ys = let e : 0 - length (x ∷ xs) ≡ 0 = omega arith in rw e
take_append (suc n) (x ∷ xs) ys =
    let e : suc n - length (x ∷ xs) ≡ n - length xs = omega arith in
    rw e (ap (λ (l : List ℕ). x ∷ l) (take_append n xs ys))

-- ---- what became of the words

-- words that are all taken
pub record Taken (g : Terms) (ws : List ℕ) : Type 0 where
  pub few : length ws ≤ most_fed
  pub passes : Passes g Setting 0 ws

-- what is answered to the last of the words
pub data Fed (g : Terms) (ws : List ℕ) : Answer → Type 0 where
  -- 0 at their number
  all_taken : Taken g ws → Fed g ws (answer success (length ws))
  -- the reader's answer, where it refuses one of the words that may be taken
  stopped : {a : Answer} → batch_answer g (take most_fed ws) ≡ a → Refused a → Fed g ws a
  -- 23, where those are all taken and there are more
  past_full : most_fed < length ws → Passes g Setting 0 (take most_fed ws) → Fed g ws (answer engine_full most_fed)

module _ (g : Terms) (ws : List ℕ) where
  -- the answer by the test
  fed_refused : Refused (batch_answer g (take most_fed ws)) → fed_answer g ws ≡ batch_answer g (take most_fed ws)
  unfolding fed_answer
  fed_refused f = rw (true_of (word_refused (batch_answer g (take most_fed ws))) ((refused_iff _).1 f))

  fed_counted : Passes g Setting 0 (take most_fed ws) → fed_answer g ws ≡ counted (length ws)
  unfolding fed_answer batch_answer
  fed_counted p =
      rw (false_of (word_refused (batch_answer g (take most_fed ws))) (λ t. not_refused g Setting 0 (take most_fed ws) p ((refused_iff _).0 t)))

  -- each case gives its answer
  pub fed_is : {a : Answer} → Fed g ws a → fed_answer g ws ≡ a
  fed_is (all_taken t) = fed_counted (rw (take_all most_fed ws t.few) t.passes) ∙ counted_few (length ws) t.few
  fed_is (stopped e f) = fed_refused (rw e f) ∙ e
  fed_is (past_full l p) = fed_counted p ∙ counted_many (length ws) l

  fed_as : {a : Answer} → Fed g ws a → Fed g ws (fed_answer g ws)
  fed_as f = rw (fed_is f) f

  -- and one of them is the case
  pub fed_told : Fed g ws (fed_answer g ws)
  unfolding batch_answer
  fed_told =
      elim (came g Setting 0 (take most_fed ws) tt) [
        | inr f ↦ fed_as (stopped refl f)
        | inl p ↦ elim (dec_lt most_fed (length ws)) [
          | yes l ↦ fed_as (past_full l p)
          | no l ↦ let few : length ws ≤ most_fed = omega arith in fed_as (all_taken (record { few = few; passes = rw (take_all most_fed ws few) at p }))
        ]
      ]

  -- 0 is answered only where all are taken
  taken_by_lem : {a : Answer} → Fed g ws a → a.reason ≡ 0 → Taken g ws
  taken_by_lem (all_taken t) z = t
  taken_by_lem (stopped e f) z = absurd (omega arith)
  taken_by_lem (past_full l p) z = absurd (omega arith)

  pub taken_of : (fed_answer g ws).reason ≡ 0 → Taken g ws
  taken_of z = taken_by_lem fed_told z

  -- a refusal stays, whatever words follow
  stays_by : {a : Answer} (more : List ℕ) → Fed g ws a → a.reason ≢ 0 → Fed g (ws ++ more) a
  unfolding batch_answer
  stays_by more (all_taken t) n = absurd (n refl)
  stays_by more (stopped e f) n =
      stopped (rw (take_append most_fed ws more) (stuck g Setting 0 (take most_fed ws) (take (most_fed - length ws) more) (rw e f)) ∙ e) f
  stays_by more (past_full l p) n =
      past_full (omega (arith, length-append ws more)) (rw (take-append-le most_fed ws more (omega arith)) p)

-- M6 "Once a word is refused, by 3 to 9 or by 23, words fed after it change nothing."
pub fed_stays : (g : Terms) (ws more : List ℕ) → (fed_answer g ws).reason ≢ 0 → fed_answer g (ws ++ more) ≡ fed_answer g ws
fed_stays g ws more n = fed_is g (ws ++ more) (stays_by g ws more (fed_told g ws) n)

-- before any word
pub fed_none : (g : Terms) → fed_answer g [] ≡ answer success 0
unfolding Passes
fed_none g = fed_is g [] (all_taken (record { few = omega arith; passes = tt }))

-- ---- one word more

pub next_length : (ws : List ℕ) (w : ℕ) → length (ws ++ (w ∷ [])) ≡ suc (length ws)
next_length ws w = length-append ws (w ∷ []) ∙ omega arith

-- its reason, at its position
abbrev pub judge_next : Terms → List ℕ → ℕ → ℕ
judge_next g ws w = judge g (position_at ws (length ws)).kind (position_at ws (length ws)).left w

-- where the words before it are all taken
module _ (g : Terms) (ws : List ℕ) (t : Taken g ws) (w : ℕ) where
  -- it is one too many
  pub next_full : most_fed ≤ length ws → fed_answer g (ws ++ (w ∷ [])) ≡ answer engine_full most_fed
  next_full l =
      fed_is g (ws ++ (w ∷ []))
      (past_full (omega (arith, next_length ws w)) (rw (take-append-le most_fed ws (w ∷ []) l, take_all most_fed ws t.few) t.passes))

  module _ (l : length ws < most_fed) where
    -- it is taken
    pub next_taken : judge_next g ws w ≡ 0 → fed_answer g (ws ++ (w ∷ [])) ≡ answer success (suc (length ws))
    unfolding position_at
    next_taken e =
        fed_is g (ws ++ (w ∷ []))
        (all_taken (record { few = omega (arith, next_length ws w); passes = passes_on g Setting 0 ws w t.passes e })) ∙ ap (answer success) (next_length ws w)

    -- it is refused
    pub next_stopped : (r : ℕ) → judge_next g ws w ≡ suc r → fed_answer g (ws ++ (w ∷ [])) ≡ answer (suc r) (length ws)
    unfolding position_at batch_answer
    next_stopped r e =
        fed_is g (ws ++ (w ∷ []))
        (stopped
        (rw (take_all most_fed (ws ++ (w ∷ [])) (omega (arith, next_length ws w))) (stops_on g Setting 0 ws w r t.passes e))
        (judge_refused g _ _ w r (length ws) (good_end g Setting 0 ws tt t.passes) e))

-- ---- the pair

-- neither 0 nor 14 is a word's refusal
pair_answered : (b : Bool) (p : ℕ) → ¬ Refused (answer (unless b bad_pair success) p)
unfolding unless
pair_answered true p f = omega arith
pair_answered false p f = omega arith

-- a word's refusal is given with the pair exactly if it is given without: A3 "14 is last"
first_by : (b : Bool) (a c : Answer) → Refused c → (paired b a ≡ c) ↔ (a ≡ c)
first_by b a c f = (
  λ e. elim (ℕ_discrete a.reason 0) [
    | yes z ↦ let d : answer (unless b bad_pair success) a.place ≡ c = rw z at e in absurd (pair_answered b a.place (subst Refused (sym d) f))
    | no n ↦ rw (ne_eqb a.reason 0 n) at e
  ],
  λ e. rw (e, ne_eqb c.reason 0 (λ z. omega arith)),
)

-- ---- closing, by the state at opening

module _ (g : Terms) (st ws : List ℕ) where
  -- and so of words, from a state
  pub words_first : {a : Answer} → Refused a → (paired_answer g st ws ≡ a) ↔ (batch_answer g ws ≡ a)
  unfolding paired_answer
  words_first {a} f = first_by (pair_kept g st (writes_of ws)) (batch_answer g ws) a f

  -- the answer by the number of words
  pub closed_few : length ws ≤ most_fed → closed_answer g st ws ≡ paired_answer g st ws
  unfolding closed_answer
  closed_few l = rw (le-leb (length ws) most_fed l)

  closed_many : most_fed < length ws → closed_answer g st ws ≡ fed_answer g ws
  unfolding closed_answer
  closed_many l = rw (lt-leb (length ws) most_fed l)

  -- where all are taken: 10 inside a packet, and else 0 or 14, by the pair
  pub closed_taken : Taken g ws
      → closed_answer g st ws ≡ paired (pair_kept g st (writes_of ws)) (answer (ended (position_at ws (length ws)).left).reason (length ws))
  unfolding batch_answer paired_answer position_at
  closed_taken t = closed_few t.few ∙ ap (paired (pair_kept g st (writes_of ws))) (run_passed g Setting 0 ws t.passes)

  -- M6 "They and closing are given the same answer."
  pub closed_by : {a : Answer} → Fed g ws a → a.reason ≢ 0 → closed_answer g st ws ≡ a
  closed_by (all_taken t) n = absurd (n refl)
  closed_by (stopped e f) n =
      elim (dec_lt most_fed (length ws)) [
        | yes l ↦ closed_many l ∙ fed_is g ws (stopped e f)
        | no l ↦ let few : length ws ≤ most_fed = omega arith in closed_few few ∙ (words_first f).1 (rw (take_all most_fed ws few) at e)
      ]
  closed_by (past_full l p) n = closed_many l ∙ fed_is g ws (past_full l p)

  pub closed_refused : (fed_answer g ws).reason ≢ 0 → closed_answer g st ws ≡ fed_answer g ws
  closed_refused n = closed_by (fed_told g ws) n
