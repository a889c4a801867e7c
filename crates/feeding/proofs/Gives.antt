-- Each reason of the engine is given exactly then: the table and the answer agree, for every call.
-- Assumes nothing.
use mathlib.Core.Path.{◌≡◌, refl, sym, ap, ◌∙◌}
use mathlib.Core.Logic.{◌↔◌, ◌≢◌, ◌⊎◌, inl, inr}
use mathlib.Core.Bool.{Bool, true, false}
use mathlib.Core.List.{List, [], ◌∷◌}
use Prim.Native.Nat.{ℕ, zero, suc, ◌≤◌, ◌<◌}
use native.Mathlib.Omega.{arith}
use native.Mathlib.Decide.{ℕ_discrete}
use lib.Dec.{T}
use lib.ListN.{length, take, length-take}
use lib.Seq.{get_or-take, length-take-le}
use Rattle.laws.proofs.Tests.{true_of, false_of, holds_of, fails_of}
use Rattle.meaning.specs.declared.Kind.{Kind}
use Rattle.meaning.specs.declared.Kind.TheVariants.{Setting}
use Rattle.meaning.specs.Grants.{Terms, terms_of, grants_fine}
use Rattle.meaning.specs.State.{well_formed}
use Rattle.meaning.specs.Pair.{pair_kept}
use Rattle.meaning.specs.Positions.{next_kind, next_left, position_from, position_at, writes_of}
use Rattle.meaning.specs.Answers.{Answer, answer}
use Rattle.meaning.specs.Reader.{unless, ended, batch_answer, paired, paired_answer}
use Rattle.meaning.specs.Reasons.{GivenAt, NoneBefore, ReaderGives, EngineGives}
use Rattle.meaning.specs.Engine.{most_fed, fed_answer, Call, opening, feeding, closing, fed_by, call_answer, engine_answer}
use Rattle.meaning.proofs.Exactly.{given_range, read_told, read_batch, read_answer_lem}
use Rattle.meaning.proofs.Bytes.{exactly}
use Rattle.feeding.proofs.Runs.{Passes, Refused, came, not_refused}
use Rattle.feeding.proofs.Answers.{Taken, Fed, all_taken, stopped, past_full, fed_is, fed_told, taken_of, fed_none, words_first, closed_few, closed_taken, closed_by, closed_refused}
use Rattle.feeding.proofs.Promises.{call_is}

-- ---- the first n words

-- each stands where it stands in all of them
position_take : (kind : Kind) (k n : ℕ) (ws : List ℕ) (i : ℕ) → i ≤ n → position_from kind k (take n ws) i ≡ position_from kind k ws i
unfolding position_from
position_take kind k n ws zero l = refl
position_take kind k zero ws (suc i) l = absurd (omega arith)
position_take kind k (suc n) [] (suc i) l = refl
position_take kind k (suc n) (w ∷ ws) (suc i) l = position_take (next_kind kind k w) (next_left k w) n ws i (omega arith)

module _ (g : Terms) (n : ℕ) (ws : List ℕ) where
  -- is given what it is given there
  given_take : (i r : ℕ) → i < n → GivenAt g (take n ws) i r ↔ GivenAt g ws i r
  unfolding position_at
  given_take i r l =
      let p = position_take Setting 0 n ws i (omega arith) in
      let w = get_or-take n ws i 0 l in
      (λ v. rw (p, w) at v, λ v. rw (p, w) v)

  -- and is refused with it
  none_take : (m : ℕ) → m ≤ n → NoneBefore g (take n ws) m ↔ NoneBefore g ws m
  none_take m l = (
    λ b i h r v. b i h r ((given_take i r (omega arith)).1 v),
    λ b i h r v. b i h r ((given_take i r (omega arith)).0 v),
  )

-- word p is the first that is refused, and has reason r
record Stop (g : Terms) (ws : List ℕ) (r p : ℕ) : Type 0 where
  inside : p < length ws
  before : NoneBefore g ws p
  given : GivenAt g ws p r

-- the first that is refused of the first n words, or of all
stop_take : (g : Terms) (n : ℕ) (ws : List ℕ) (r p : ℕ) → Stop g (take n ws) r p ↔ ((p < n) × Stop g ws r p)
stop_take g n ws r p = (
  λ x.
      let l : p < n = omega (arith, length-take n ws, x.inside) in (
        l,
        record {
          inside = omega (arith, length-take n ws, x.inside);
          before = (none_take g n ws p (omega arith)).0 x.before;
          given = (given_take g n ws p r l).0 x.given;
        },
      ),
  λ y. record {
    inside = omega (arith, length-take n ws, y.1.inside);
    before = (none_take g n ws p (omega arith)).1 y.1.before;
    given = (given_take g n ws p r y.0).1 y.1.given;
  },
)

-- ---- where state and grants are fine

module _ (st grants : List ℕ) (s : T (well_formed st)) (l : T (grants_fine grants)) where
  abbrev g : Terms
  g = terms_of grants

  -- what the reader tells of words: the first that is refused, or that none is
  told_as : (ws : List ℕ) {r p : ℕ} → ReaderGives ws grants st r p → Stop g ws r p ⊎ (NoneBefore g ws (length ws) × (¬ Refused (answer r p)))
  told_as ws (ReaderGives.by_bad_state n) = absurd (n s)
  told_as ws (ReaderGives.by_bad_grants _ n) = absurd (n l)
  told_as ws (ReaderGives.at_word _ _ h b v) = inl (record { inside = h; before = b; given = v })
  told_as ws (ReaderGives.by_ends_inside _ _ b q) = inr (b, λ f. omega arith)
  told_as ws (ReaderGives.by_bad_pair _ _ b q _) = inr (b, λ f. omega arith)
  told_as ws (ReaderGives.accepted _ _ b q _) = inr (b, λ f. omega arith)

  paired_told : (ws : List ℕ)
      → Stop g ws (paired_answer g st ws).reason (paired_answer g st ws).place ⊎ (NoneBefore g ws (length ws) × (¬ Refused (paired_answer g st ws)))
  paired_told ws = told_as ws (rw (read_batch ws grants st s l) at (read_told ws grants st))

  -- a word is refused first, at its place, exactly if the reader gives one of 3 to 9 there
  stop_iff : (ws : List ℕ) (r p : ℕ) → Stop g ws r p ↔ ((batch_answer g ws ≡ answer r p) × Refused (answer r p))
  stop_iff ws r p = (
    λ x.
        let f = given_range g x.given in (
          (words_first g st ws f).0 (sym (read_batch ws grants st s l) ∙ read_answer_lem ws grants st (ReaderGives.at_word s l x.inside x.before x.given)),
          f,
        ),
    λ y.
        let e = (words_first g st ws y.1).1 y.0 in
        elim (paired_told ws) [ inl x ↦ rw e at x | inr b ↦ absurd (b.1 (rw e y.1)) ],
  )

  -- words pass exactly if none is refused
  passes_iff : (ws : List ℕ) → Passes g Setting 0 ws ↔ NoneBefore g ws (length ws)
  unfolding batch_answer
  passes_iff ws = (
    λ p. elim (paired_told ws) [
      | inl x ↦ let y = (stop_iff ws _ _).0 x in absurd (not_refused g Setting 0 ws p (rw y.0 y.1))
      | inr b ↦ b.0
    ],
    λ b. elim (came g Setting 0 ws tt) [
      | inl p ↦ p
      | inr f ↦ let x = (stop_iff ws _ _).1 (refl, f) in absurd (b _ x.inside _ x.given)
    ],
  )

  -- and so for the first n of them
  front_iff : (n : ℕ) (ws : List ℕ) → n ≤ length ws → Passes g Setting 0 (take n ws) ↔ NoneBefore g ws n
  front_iff n ws h =
      let all = rw (length-take-le n ws h) at (passes_iff (take n ws)) in
      let same = none_take g n ws n (omega arith) in
      (λ p. same.0 (all.0 p), λ b. all.1 (same.1 b))

  -- ---- from the answer to the table

  -- a refusal, to whatever call
  refusal_told : (c : Call) {a : Answer} → Fed g (fed_by c) a → a.reason ≢ 0 → EngineGives st grants c a.reason a.place
  refusal_told c (all_taken t) n = absurd (n refl)
  refusal_told c (stopped e f) n =
      let x = (stop_take g most_fed (fed_by c) _ _).0 ((stop_iff (take most_fed (fed_by c)) _ _).1 (e, f)) in
      EngineGives.at_word s l x.1.inside x.0 x.1.before x.1.given
  refusal_told c (past_full h p) n = EngineGives.full s l h ((front_iff most_fed (fed_by c) (omega arith)).0 p)

  -- closing where all words are taken, by how many are wanted and by the pair
  ended_told : (ws : List ℕ) (k : ℕ) (b : Bool) → Taken g ws → (position_at ws (length ws)).left ≡ k → pair_kept g st (writes_of ws) ≡ b
      → let a = paired b (answer (ended k).reason (length ws)) in
      EngineGives st grants (closing ws) a.reason a.place
  unfolding unless
  ended_told ws zero true t e p = EngineGives.accepted s l t.few ((passes_iff ws).0 t.passes) e (holds_of p)
  ended_told ws zero false t e p = EngineGives.by_bad_pair s l t.few ((passes_iff ws).0 t.passes) e (fails_of p)
  ended_told ws (suc k) b t e p = EngineGives.by_ends_inside s l t.few ((passes_iff ws).0 t.passes) (omega arith)

  call_told : (c : Call) → EngineGives st grants c (call_answer g st c).reason (call_answer g st c).place
  unfolding call_answer
  call_told opening = EngineGives.opened s l
  call_told (feeding ws) =
      elim (ℕ_discrete (fed_answer g ws).reason 0) [
        | yes z ↦ let t = taken_of g ws z in rw (fed_is g ws (all_taken t)) (EngineGives.taken s l t.few ((passes_iff ws).0 t.passes))
        | no n ↦ refusal_told (feeding ws) (fed_told g ws) n
      ]
  call_told (closing ws) =
      elim (ℕ_discrete (fed_answer g ws).reason 0) [
        | yes z ↦ let t = taken_of g ws z in rw (closed_taken g st ws t) (ended_told ws _ _ t refl refl)
        | no n ↦ rw (closed_refused g st ws n) (refusal_told (closing ws) (fed_told g ws) n)
      ]

  -- ---- and back

  -- a refusal, to whatever call
  refusal_answer : (c : Call) {a : Answer} → Fed g (fed_by c) a → a.reason ≢ 0 → engine_answer st grants c ≡ a
  unfolding call_answer
  refusal_answer opening f n = absurd (n (ap (λ (x : Answer). x.reason) (sym (fed_is g [] f) ∙ fed_none g)))
  refusal_answer (feeding ws) f n = call_is st grants s l (feeding ws) ∙ fed_is g ws f
  refusal_answer (closing ws) f n = call_is st grants s l (closing ws) ∙ closed_by g st ws f n

  -- closing, after no more words than are taken
  close_answer : (ws : List ℕ) {r p : ℕ} → length ws ≤ most_fed → ReaderGives ws grants st r p → engine_answer st grants (closing ws) ≡ answer r p
  unfolding call_answer
  close_answer ws few x = call_is st grants s l (closing ws) ∙ closed_few g st ws few ∙ sym (read_batch ws grants st s l) ∙ read_answer_lem ws grants st x

-- ---- any call

-- what is answered stands in the table
told_by_lem : (st grants : List ℕ) (c : Call) (a b : Bool) → well_formed st ≡ a → grants_fine grants ≡ b
    → EngineGives st grants c (engine_answer st grants c).reason (engine_answer st grants c).place
unfolding engine_answer
told_by_lem st grants c false b e f = rw e (EngineGives.by_bad_state (fails_of e))
told_by_lem st grants c true false e f = rw (e, f) (EngineGives.by_bad_grants (holds_of e) (fails_of f))
told_by_lem st grants c true true e f = rw (e, f) (call_told st grants (holds_of e) (holds_of f) c)

-- and what stands there is answered
engine_answer_lem : (st grants : List ℕ) (c : Call) {r p : ℕ} → EngineGives st grants c r p → engine_answer st grants c ≡ answer r p
unfolding engine_answer call_answer
engine_answer_lem st grants c (EngineGives.by_bad_state n) = rw (false_of (well_formed st) n)
engine_answer_lem st grants c (EngineGives.by_bad_grants s n) = rw (true_of (well_formed st) s, false_of (grants_fine grants) n)
engine_answer_lem st grants c (EngineGives.opened s l) = call_is st grants s l opening
engine_answer_lem st grants c (EngineGives.at_word {r} {p} s l h m b v) =
    let x = (stop_take (terms_of grants) most_fed (fed_by c) r p).1 (m, record { inside = h; before = b; given = v }) in
    let y = (stop_iff st grants s l (take most_fed (fed_by c)) r p).0 x in
    refusal_answer st grants s l c (stopped y.0 y.1) (λ z. omega arith)
engine_answer_lem st grants c (EngineGives.full s l h b) =
    refusal_answer st grants s l c (past_full h ((front_iff st grants s l most_fed (fed_by c) (omega arith)).1 b)) (λ z. omega arith)
engine_answer_lem st grants c (EngineGives.taken {ws} s l few b) =
    call_is st grants s l (feeding ws) ∙ fed_is (terms_of grants) ws (all_taken (record { few = few; passes = (passes_iff st grants s l ws).1 b }))
engine_answer_lem st grants c (EngineGives.by_ends_inside {ws} s l few b q) = close_answer st grants s l ws few (ReaderGives.by_ends_inside s l b q)
engine_answer_lem st grants c (EngineGives.by_bad_pair {ws} s l few b q n) = close_answer st grants s l ws few (ReaderGives.by_bad_pair s l b q n)
engine_answer_lem st grants c (EngineGives.accepted {ws} s l few b q t) = close_answer st grants s l ws few (ReaderGives.accepted s l b q t)

-- A5 "A reason is given exactly if its row fits and nothing fits that goes before it in this order.": the table of reasons and the answer agree
pub gives_exactly : (st grants : List ℕ) (c : Call) (r p : ℕ) → (engine_answer st grants c ≡ answer r p) ↔ EngineGives st grants c r p
gives_exactly st grants c =
    exactly (engine_answer st grants c) (EngineGives st grants c) (told_by_lem st grants c (well_formed st) (grants_fine grants) refl refl)
    (λ r p. engine_answer_lem st grants c)
