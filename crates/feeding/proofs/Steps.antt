-- The steps, word by word, come to what the engine answers to the words fed, and to what closing answers and hands back.
-- Assumes nothing.
use mathlib.Core.Path.{◌≡◌, refl, sym, ap, ◌∙◌}
use mathlib.Core.Logic.{◌≢◌}
use mathlib.Core.Bool.{Bool}
use mathlib.Core.List.{List, [], ◌∷◌, ◌++◌}
use Prim.Native.Nat.{ℕ, zero, suc, ◌≤◌, ◌<◌}
use native.Mathlib.Omega.{arith}
use native.Mathlib.Decide.{dec_lt, ℕ_discrete}
use borrow.Author.Tests.{le-leb, lt-leb, ne_eqb}
use lib.ListN.{length}
use Rattle.meaning.specs.declared.Kind.TheVariants.{Setting}
use Rattle.meaning.specs.declared.Position.{Position}
use Rattle.meaning.specs.Grants.{Terms}
use Rattle.meaning.specs.State.{apply_all}
use Rattle.meaning.specs.Pair.{pair_kept}
use Rattle.meaning.specs.Positions.{position_from, position_at, writes_from, writes_of}
use Rattle.meaning.specs.Answers.{Answer, engine_full, answer, settle}
use Rattle.meaning.specs.Reader.{judge, ended, paired, batch_answer}
use Rattle.meaning.specs.Engine.{most_fed, fed_answer, closed_answer}
use Rattle.meaning.proofs.States.{applied_append}
use Rattle.meaning.proofs.Bytes.{settle_refused}
use Rattle.feeding.specs.Steps.{Standing, begun, refused, taken, judged, unless_refused, step, closes, leaves}
use Rattle.feeding.proofs.Runs.{end_snoc, writes_snoc, run_passed}
use Rattle.feeding.proofs.Answers.{Taken, all_taken, fed_is, taken_of, fed_stays, fed_none, next_full, next_taken, next_stopped, closed_taken, closed_refused}

-- what is kept while no word is refused; start is the state that was begun with
pub record Kept (start ws : List ℕ) (s : Standing) : Type 0 where
  pub kind : s.kind ≡ (position_at ws (length ws)).kind
  pub left : s.left ≡ (position_at ws (length ws)).left
  pub pending : s.pending ≡ apply_all start (writes_of ws)

-- s is what stands after the words ws, fed to what was begun with start
pub record Stands (g : Terms) (start ws : List ℕ) (s : Standing) : Type 0 where
  pub answer : s.answer ≡ fed_answer g ws
  pub kept : s.answer.reason ≡ 0 → Kept start ws s

-- before a word is fed
pub begun_stands : (g : Terms) (start : List ℕ) → Stands g start [] (begun start)
unfolding position_at position_from writes_of writes_from apply_all
begun_stands g start = record { answer = sym (fed_none g); kept = λ z. record { kind = refl; left = refl; pending = refl } }

-- ---- a step by its tests

-- nothing changes where a reason stands
stays : (r : ℕ) (s next : Standing) → r ≢ 0 → unless_refused r s next ≡ s
stays zero s next n = absurd (n refl)
stays (suc r) s next n = refl

module _ (g : Terms) (s : Standing) (w : ℕ) where
  -- a word that is judged
  pub step_on : s.answer.reason ≡ 0 → s.answer.place < most_fed → step g s w ≡ judged (judge g s.kind s.left w) w s
  unfolding step
  step_on z l = rw (z, lt-leb most_fed s.answer.place l)

  -- a word that is one too many
  pub step_full : s.answer.reason ≡ 0 → most_fed ≤ s.answer.place → step g s w ≡ refused engine_full s
  unfolding step
  step_full z l = rw (z, le-leb most_fed s.answer.place l)

  -- a word after a refusal
  pub step_stays : s.answer.reason ≢ 0 → step g s w ≡ s
  unfolding step
  step_stays n = stays s.answer.reason s _ n

-- ---- what stands after some words

-- the reason that stands is the one answered
same_reason : {g : Terms} {start ws : List ℕ} {s : Standing} → Stands g start ws s → s.answer.reason ≡ (fed_answer g ws).reason
same_reason h = ap (λ (a : Answer). a.reason) h.answer

-- where it is a refusal
still_refused : {g : Terms} {start ws : List ℕ} {s : Standing} → Stands g start ws s → s.answer.reason ≢ 0 → (fed_answer g ws).reason ≢ 0
still_refused h n z = n (same_reason h ∙ z)

-- where it is 0, all words are taken
taken_so_far : {g : Terms} {start ws : List ℕ} {s : Standing} → Stands g start ws s → s.answer.reason ≡ 0 → Taken g ws
taken_so_far {g} {start} {ws} h z = taken_of g ws (sym (same_reason h) ∙ z)

-- and the place is their number
at_number : {g : Terms} {start ws : List ℕ} {s : Standing} → Stands g start ws s → s.answer.reason ≡ 0 → s.answer.place ≡ length ws
at_number {g} {start} {ws} h z = ap (λ (a : Answer). a.place) (h.answer ∙ fed_is g ws (all_taken (taken_so_far h z)))

-- ---- one word more

module _ (g : Terms) (start ws : List ℕ) (w : ℕ) (s : Standing) (h : Stands g start ws s) where
  module _ (z : s.answer.reason ≡ 0) where
    -- position and state after a word that is taken
    kept_next : Kept start (ws ++ (w ∷ [])) (taken w s)
    unfolding position_at writes_of
    kept_next =
        let k = h.kept z in
        let e = end_snoc Setting 0 ws w in
        record {
          kind = rw (k.kind, k.left) (sym (ap (λ (p : Position). p.kind) e));
          left = rw k.left (sym (ap (λ (p : Position). p.left) e));
          pending = rw (k.kind, k.left, k.pending, writes_snoc Setting 0 ws w) (sym (applied_append start (writes_from Setting 0 ws) _));
        }

    -- by the word's reason
    judged_stands : length ws < most_fed → (r : ℕ) → judge g s.kind s.left w ≡ r → Stands g start (ws ++ (w ∷ [])) (judged r w s)
    judged_stands l zero e =
        let f = rw ((h.kept z).kind, (h.kept z).left) at e in
        record { answer = rw (at_number h z) (sym (next_taken g ws (taken_so_far h z) w l f)); kept = λ _. kept_next }
    judged_stands l (suc r) e =
        let f = rw ((h.kept z).kind, (h.kept z).left) at e in
        record { answer = rw (at_number h z) (sym (next_stopped g ws (taken_so_far h z) w l r f)); kept = λ y. absurd (omega arith) }

    -- one too many
    full_stands : most_fed ≤ length ws → Stands g start (ws ++ (w ∷ [])) (refused engine_full s)
    full_stands l =
        let e : s.answer.place ≡ most_fed = omega (arith, at_number h z, (taken_so_far h z).few) in
        record { answer = rw e (sym (next_full g ws (taken_so_far h z) w l)); kept = λ y. absurd (omega arith) }

  -- after a refusal
  refused_stands : s.answer.reason ≢ 0 → Stands g start (ws ++ (w ∷ [])) s
  refused_stands n = record { answer = h.answer ∙ sym (fed_stays g ws (w ∷ []) (still_refused h n)); kept = λ z. absurd (n z) }

  -- the step leads to what stands after one word more
  pub step_stands : Stands g start (ws ++ (w ∷ [])) (step g s w)
  step_stands =
      elim (ℕ_discrete s.answer.reason 0) [
        | no n ↦ rw (step_stays g s w n) (refused_stands n)
        | yes z ↦ elim (dec_lt (length ws) most_fed) [
          | yes l ↦ rw (step_on g s w z (omega (arith, at_number h z))) (judged_stands z l (judge g s.kind s.left w) refl)
          | no l ↦ rw (step_full g s w z (omega (arith, at_number h z))) (full_stands z (omega arith))
        ]
      ]

-- where no packet is open either, the reader accepts them
pub taken_whole : {g : Terms} {start ws : List ℕ} {s : Standing} → Stands g start ws s → s.answer.reason ≡ 0 → s.left ≡ 0 → (batch_answer g ws).reason ≡ 0
unfolding batch_answer position_at
taken_whole {g} {start} {ws} {s} h z none =
    ap (λ (a : Answer). a.reason) (run_passed g Setting 0 ws (taken_so_far h z).passes) ∙ ap (λ (n : ℕ). (ended n).reason) (sym (h.kept z).left ∙ none)

-- ---- closing, where st is the state at opening

-- the pair is asked after only where no packet is open
paired_open : (b c : Bool) (n p : ℕ) → (n ≡ 0 → b ≡ c) → paired b (answer (ended n).reason p) ≡ paired c (answer (ended n).reason p)
paired_open b c zero p e = rw (e refl)
paired_open b c (suc n) p e = refl

-- and success wants that none is
none_open : (b : Bool) (n p : ℕ) → (paired b (answer (ended n).reason p)).reason ≡ 0 → n ≡ 0
none_open b zero p z = refl
none_open b (suc n) p z = absurd (omega arith)

-- by whether the pair is kept
module _ (kept : Bool) (s : Standing) where
  closes_on : s.answer.reason ≡ 0 → closes kept s ≡ paired kept (answer (ended s.left).reason s.answer.place)
  unfolding closes
  closes_on z = rw z

  pub closes_refused : s.answer.reason ≢ 0 → closes kept s ≡ s.answer
  unfolding closes
  closes_refused n = rw (ne_eqb s.answer.reason 0 n)

  pub leaves_refused : s.answer.reason ≢ 0 → (new st : List ℕ) → leaves kept s new st ≡ st
  unfolding leaves
  leaves_refused n new st = settle_refused (closes kept s) new st (rw (closes_refused n) n)

  -- what success tells
  closes_done : (closes kept s).reason ≡ 0 → (s.answer.reason ≡ 0) × (s.left ≡ 0)
  closes_done z =
      elim (ℕ_discrete s.answer.reason 0) [
        | yes y ↦ (y, none_open kept s.left s.answer.place (rw (closes_on y) at z))
        | no n ↦ absurd (n (rw (closes_refused n) at z))
      ]

-- the pair is judged from the state at opening, whatever state was begun with; how it is judged matters only where all words are taken and
-- no packet is open
module _ (g : Terms) (start st ws : List ℕ) (s : Standing) (h : Stands g start ws s) (kept : Bool)
    (told : s.answer.reason ≡ 0 → s.left ≡ 0 → kept ≡ pair_kept g st (writes_of ws)) where
  closes_taken : s.answer.reason ≡ 0 → closes kept s ≡ closed_answer g st ws
  closes_taken z =
      closes_on kept s z
      ∙ paired_open kept _ s.left s.answer.place (told z)
      ∙ rw (at_number h z, (h.kept z).left) (sym (closed_taken g st ws (taken_so_far h z)))

  -- what stands closes with the answer that closing gives
  pub closes_stands : closes kept s ≡ closed_answer g st ws
  closes_stands =
      elim (ℕ_discrete s.answer.reason 0) [
        | yes z ↦ closes_taken z
        | no n ↦ closes_refused kept s n ∙ h.answer ∙ sym (closed_refused g st ws (still_refused h n))
      ]

  -- and leaves the state that closing hands back
  pub leaves_stands : (new : List ℕ) → (s.answer.reason ≡ 0 → s.left ≡ 0 → new ≡ apply_all st (writes_of ws))
      → leaves kept s new st ≡ settle (closed_answer g st ws) (apply_all st (writes_of ws)) st
  unfolding leaves
  leaves_stands new made =
      rw (sym closes_stands) (elim (ℕ_discrete (closes kept s).reason 0) [
        | yes z ↦ let d = closes_done kept s z in rw (made d.0 d.1)
        | no n ↦ settle_refused (closes kept s) new st n ∙ sym (settle_refused (closes kept s) _ st n)
      ])
