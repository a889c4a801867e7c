-- Each reason of the reader is given exactly then: the word's reason, and the first word that has one.
-- Assumes nothing.
use Rattle.std.specs.Prelude.{Option, Some, None}
use mathlib.Core.Path.{◌≡◌, refl, sym, ap, ◌∙◌, subst}
use mathlib.Core.Logic.{◌↔◌, ◌≢◌, ◌⊎◌, inl, inr}
use mathlib.Core.Bool.{Bool, true, false, ◌&&◌, cond}
use mathlib.Core.List.{List, [], ◌∷◌}
use Prim.Native.Nat.{ℕ, zero, suc, ◌≤◌, ◌<◌}
use native.Mathlib.Omega.{arith}
use native.Mathlib.Decide.{ℕ_discrete}
use borrow.Author.Tests.{eqb-true, eqb-false, ne_eqb}
use lib.Dec.{T, leb, eqb, lit<}
use lib.ListN.{length, get_or}
use lib.Bits.{bit_and}
use mir.Facts.{not_T, and_yes, yes_and, leb_yes, leb_no, eqb_yes, yes_eqb}
use Rattle.laws.specs.Tests.{within}
use Rattle.laws.proofs.Tests.{within_iff, true_of, false_of, holds_of, fails_of}
use Rattle.meaning.specs.declared.Cell.{Cell}
use Rattle.meaning.specs.declared.VideoOffset.{VideoOffset}
use Rattle.meaning.specs.declared.Kind.{Kind}
use Rattle.meaning.specs.declared.Kind.TheVariants.{Setting, Parameter, Video}
use Rattle.meaning.specs.Words.{count, offset, video_offset, following}
use Rattle.meaning.specs.Registers.{is_found, find_video, register_at}
use Rattle.meaning.specs.Grants.{Terms, terms_of, grants_fine}
use Rattle.meaning.specs.Batch.{reaches, offset_3d, most_3d, allowed, named, Cut}
use Rattle.meaning.specs.State.{well_formed}
use Rattle.meaning.specs.Pair.{pair_kept, Permitted}
use Rattle.meaning.specs.Positions.{next_kind, next_left, position_from, position_at, goes, carries, writes_of}
use Rattle.meaning.specs.Answers.{Answer, answer, provided}
use Rattle.meaning.specs.Reader.{unless, run_in, reason_3d, reason_video, header_reason, value_reason, found_reason, word_reason, judge, onward, follow, ended, run, batch_answer, paired, paired_answer, read_answer}
use Rattle.meaning.specs.Reasons.{VideoRun, Given, by_bad_offset, by_bad_count, by_bad_run, by_bad_setting, by_no_register, by_bit_set, by_bad_value, by_not_granted, NoneBefore, ReaderGives}
use Rattle.meaning.specs.Reasons.ReaderGives.{by_bad_state, by_bad_grants, at_word, by_ends_inside, by_bad_pair, accepted}
use Rattle.meaning.proofs.Verdicts.{unless_fine}
use Rattle.meaning.proofs.Packets.{never_both}
use Rattle.meaning.proofs.Reading.{batch_permitted, batch_length}
use Rattle.meaning.proofs.Places.{Good, good_next}
use Rattle.meaning.proofs.Bytes.{exactly}
use Rattle.meaning.proofs.Writes.{writes_of_cut}

-- ---- tests

-- what a test of a word comes to: what is after it, or its reason
unless_cases : (b : Bool) {r v x : ℕ} → unless b r v ≡ x → (T b × (v ≡ x)) ⊎ ((¬ T b) × (r ≡ x))
unfolding unless
unless_cases true e = inl (tt, e)
unless_cases false e = inr (λ t. t, e)

run_iff : (o : VideoOffset) (n : ℕ) → T (run_in o n) ↔ VideoRun o n
unfolding run_in
run_iff o zero = (λ t. t, λ t. t)
run_iff o (suc n) =
    let more = run_iff (following o) n in (
      λ t. let p = and_yes (is_found (find_video o)) _ t in (p.0, more.0 p.1),
      λ p. yes_and (is_found (find_video o)) _ p.0 (more.1 p.1),
    )

-- a number that is no successor
zero_unless : (x : ℕ) → ((r : ℕ) → x ≡ suc r → ⊥) → x ≡ 0
zero_unless zero h = refl
zero_unless (suc x) h = absurd (h x refl)

-- one of two tests fails
not_both : (a b : Bool) → ¬ T (a && b) → (¬ T a) ⊎ (¬ T b)
not_both true b n = inr n
not_both false b n = inl (λ t. t)

not_leb : {a b : ℕ} → ¬ T (leb a b) → b < a
not_leb {a} {b} n = leb_no (not_T (leb a b) n)

-- ---- one word: from its reason to what the table says

module _ (g : Terms) where
  given_3d : {kind : Kind} (h r : ℕ) → offset h ≡ offset_3d → reason_3d h ≡ suc r → Given g kind 0 h (suc r)
  given_3d {kind} h r o e =
      elim (unless_cases (within 2 most_3d (count h)) e) [
        | inl p ↦ absurd (omega (arith, p.1))
        | inr p ↦ subst (Given g kind 0 h) p.1
            (by_bad_count o (elim (not_both (leb 2 (count h)) (leb (count h) most_3d) p.0) [ inl n ↦ inl (not_leb n) | inr n ↦ inr (not_leb n) ]))
      ]

  given_video : {kind : Kind} (h r : ℕ) → offset h ≢ offset_3d → reason_video h ≡ suc r → Given g kind 0 h (suc r)
  given_video {kind} h r o e =
      elim (unless_cases (is_found (find_video (video_offset h))) e) [
        | inr p ↦ subst (Given g kind 0 h) p.1 (by_bad_offset o p.0)
        | inl p ↦ elim (unless_cases (leb 1 (count h) && run_in (video_offset h) (count h)) p.1) [
          | inl q ↦ absurd (omega (arith, q.1))
          | inr q ↦ subst (Given g kind 0 h) q.1
              (by_bad_run p.0 (elim (not_both (leb 1 (count h)) (run_in (video_offset h) (count h)) q.0) [
                | inl n ↦ inl (not_leb n)
                | inr n ↦ inr (λ v. n ((run_iff (video_offset h) (count h)).1 v))
              ]))
        ]
      ]

  given_header : {kind : Kind} (h r : ℕ) (b : Bool) → eqb (offset h) offset_3d ≡ b → cond b (reason_3d h) (reason_video h) ≡ suc r → Given g kind 0 h (suc r)
  given_header h r true o e = given_3d h r (eqb-true (offset h) offset_3d o) e
  given_header h r false o e = given_video h r (eqb-false (offset h) offset_3d o) e

  given_value : {kind : Kind} {k w : ℕ} (c : Cell) (r : ℕ) → goes kind w ≡ Some c → value_reason g (register_at c) (carries kind w) ≡ suc r → Given g kind (suc k) w (suc r)
  unfolding value_reason
  given_value {kind} {k} {w} c r at e =
      let v = carries kind w in
      elim (unless_cases (eqb (bit_and v (register_at c).clear) 0) e) [
        | inr p ↦ subst (Given g kind (suc k) w) p.1 (by_bit_set c at (λ z. p.0 (yes_eqb z)))
        | inl p ↦ elim (unless_cases ((register_at c).values v) p.1) [
          | inr q ↦ subst (Given g kind (suc k) w) q.1 (by_bad_value c at (eqb_yes p.0) q.0)
          | inl q ↦ elim (unless_cases (reaches g ((register_at c).holds v)) q.1) [
            | inr s ↦ subst (Given g kind (suc k) w) s.1 (by_not_granted c at (eqb_yes p.0) q.0 s.0)
            | inl s ↦ absurd (omega (arith, s.1))
          ]
        ]
      ]

  -- by the register that the word goes to
  given_found : {kind : Kind} {k w : ℕ} (none r : ℕ) (f : Option Cell) → goes kind w ≡ f → found_reason g none f (carries kind w) ≡ suc r
      → (f ≡ None → none ≡ suc r → Given g kind (suc k) w (suc r)) → Given g kind (suc k) w (suc r)
  given_found none r (Some c) at e missing = given_value c r at e
  given_found none r None at e missing = missing refl e

  given_word : (kind : Kind) (k w r : ℕ) → Good kind (suc k) → word_reason g kind w ≡ suc r → Given g kind (suc k) w (suc r)
  unfolding word_reason goes carries run_in
  given_word Setting k w r h e =
      elim (unless_cases (allowed w) e) [ inl p ↦ absurd (omega (arith, p.1)) | inr p ↦ subst (Given g Setting (suc k) w) p.1 (by_bad_setting p.0) ]
  given_word (Parameter s) k w r h e = given_found 6 r (named s w) refl e (λ m n. subst (Given g (Parameter s) (suc k) w) n (by_no_register m))
  given_word (Video o) k w r h e = given_found 4 r (find_video o) refl e (λ m n. absurd (rw m at (and_yes (is_found (find_video o)) _ h).0))

  pub judge_given : (kind : Kind) (k w r : ℕ) → Good kind k → judge g kind k w ≡ suc r → Given g kind k w (suc r)
  unfolding judge header_reason
  judge_given kind zero w r h e = given_header w r (eqb (offset w) offset_3d) refl e
  judge_given kind (suc k) w r h e = given_word kind k w r h e

  -- ---- and back

  word_value : (kind : Kind) (w : ℕ) (c : Cell) → goes kind w ≡ Some c → word_reason g kind w ≡ value_reason g (register_at c) (carries kind w)
  unfolding word_reason goes carries
  word_value Setting w c e = absurd (let z : ◌≡◌ {A = ℕ} 0 1 = cc in omega arith)
  word_value (Parameter s) w c e = rw e
  word_value (Video o) w c e = rw e

  pub given_judge : {kind : Kind} {k w r : ℕ} → Given g kind k w r → judge g kind k w ≡ r
  unfolding judge header_reason value_reason unless word_reason
  given_judge (by_bad_offset {kind} {h} o v) = rw (ne_eqb (offset h) offset_3d o, false_of (is_found (find_video (video_offset h))) v)
  given_judge (by_bad_count {kind} {h} o c) =
      let no : within 2 most_3d (count h) ≡ false =
      false_of (within 2 most_3d (count h))
      (λ t. let p = (within_iff 2 most_3d (count h)).0 t in elim c [ inl l ↦ omega (arith, p) | inr l ↦ omega (arith, p) ]) in
      rw (o, no)
  given_judge (by_bad_run {kind} {h} v c) =
      let no : (leb 1 (count h) && run_in (video_offset h) (count h)) ≡ false =
      false_of (leb 1 (count h) && run_in (video_offset h) (count h))
      (λ t.
      let p = and_yes (leb 1 (count h)) _ t in
      let q : 1 ≤ count h = leb_yes p.0 in
      elim c [ inl l ↦ omega arith | inr n ↦ n ((run_iff (video_offset h) (count h)).0 p.1) ]) in
      rw (never_both (offset h) v, true_of (is_found (find_video (video_offset h))) v, no)
  given_judge (by_bad_setting {k} {s} n) = rw (false_of (allowed s) n)
  given_judge (by_no_register {k} {s} {w} e) = rw e
  given_judge (by_bit_set {kind} {k} {w} c at n) = word_value kind w c at ∙ rw (ne_eqb (bit_and (carries kind w) (register_at c).clear) 0 n)
  given_judge (by_bad_value {kind} {k} {w} c at z n) =
      word_value kind w c at ∙ rw (z, false_of ((register_at c).values (carries kind w)) n)
  given_judge (by_not_granted {kind} {k} {w} c at z v n) =
      word_value kind w c at ∙ rw (z, true_of ((register_at c).values (carries kind w)) v, false_of (reaches g ((register_at c).holds (carries kind w))) n)

  pub given_range : {kind : Kind} {k w r : ℕ} → Given g kind k w r → (3 ≤ r) × (r ≤ 9)
  given_range (by_bad_offset o v) = omega arith
  given_range (by_bad_count o c) = omega arith
  given_range (by_bad_run v c) = omega arith
  given_range (by_bad_setting n) = omega arith
  given_range (by_no_register e) = omega arith
  given_range (by_bit_set c at n) = omega arith
  given_range (by_bad_value c at z n) = omega arith
  given_range (by_not_granted c at z v n) = omega arith

-- ---- the first word that has a reason

-- the reason of word i, read from a position on
abbrev judge_at : Terms → Kind → ℕ → List ℕ → ℕ → ℕ
judge_at g kind k ws i = judge g (position_from kind k ws i).kind (position_from kind k ws i).left (get_or ws i 0)

abbrev Clean : Terms → Kind → ℕ → List ℕ → ℕ → Type 0
Clean g kind k ws n = (i : ℕ) → i < n → judge_at g kind k ws i ≡ 0

data Outcome (g : Terms) (kind : Kind) (k : ℕ) (ws : List ℕ) : Answer → Type 0 where
  stops : {r p : ℕ} → p < length ws → Clean g kind k ws p → judge_at g kind k ws p ≡ suc r → Outcome g kind k ws (answer (suc r) p)
  ends : (n : ℕ) → Clean g kind k ws (length ws) → (position_from kind k ws (length ws)).left ≡ n → Outcome g kind k ws (answer (ended n).reason (length ws))

module _ (g : Terms) where
  clean_cons : (kind : Kind) (k w : ℕ) (ws : List ℕ) (n : ℕ) → judge g kind k w ≡ 0 → Clean g (next_kind kind k w) (next_left k w) ws n
      → Clean g kind k (w ∷ ws) (suc n)
  unfolding position_from
  clean_cons kind k w ws n e c zero l = e
  clean_cons kind k w ws n e c (suc i) l = c i (omega arith)

  outcome_cons : (kind : Kind) (k w : ℕ) (ws : List ℕ) {a : Answer} → judge g kind k w ≡ 0 → Outcome g (next_kind kind k w) (next_left k w) ws a
      → Outcome g kind k (w ∷ ws) (onward a)
  unfolding position_from
  outcome_cons kind k w ws e (stops {r} {p} l c j) = stops {r = r} {p = suc p} (omega arith) (clean_cons kind k w ws p e c) j
  outcome_cons kind k w ws e (ends n c q) = ends n (clean_cons kind k w ws (length ws) e c) q

  outcome_here : (kind : Kind) (k w : ℕ) (ws : List ℕ) (r : ℕ) (a : Answer) → judge g kind k w ≡ r
      → Outcome g (next_kind kind k w) (next_left k w) ws a → Outcome g kind k (w ∷ ws) (follow r a)
  unfolding position_from
  outcome_here kind k w ws zero a e o = outcome_cons kind k w ws e o
  outcome_here kind k w ws (suc r) a e o = stops {r = r} {p = 0} (omega arith) (λ i l. absurd (omega arith)) e

  outcome : (kind : Kind) (k : ℕ) (ws : List ℕ) → Outcome g kind k ws (run g kind k ws)
  unfolding run position_from
  outcome kind zero [] = ends 0 (λ i l. absurd (omega arith)) refl
  outcome kind (suc k) [] = ends (suc k) (λ i l. absurd (omega arith)) refl
  outcome kind k (w ∷ ws) = outcome_here kind k w ws (judge g kind k w) _ refl (outcome (next_kind kind k w) (next_left k w) ws)

  -- ---- and back

  run_stops : (kind : Kind) (k : ℕ) (ws : List ℕ) (r p : ℕ) → p < length ws → Clean g kind k ws p → judge_at g kind k ws p ≡ suc r
      → run g kind k ws ≡ answer (suc r) p
  unfolding run position_from
  run_stops kind k [] r p l c j = absurd (omega arith)
  run_stops kind k (w ∷ ws) r zero l c j = rw j
  run_stops kind k (w ∷ ws) r (suc p) l c j =
      rw (c 0 (omega arith)) (ap onward (run_stops (next_kind kind k w) (next_left k w) ws r p (omega arith) (λ i h. c (suc i) (omega arith)) j))

  run_ends : (kind : Kind) (k : ℕ) (ws : List ℕ) → Clean g kind k ws (length ws)
      → run g kind k ws ≡ answer (ended (position_from kind k ws (length ws)).left).reason (length ws)
  unfolding run position_from
  run_ends kind zero [] c = refl
  run_ends kind (suc k) [] c = refl
  run_ends kind k (w ∷ ws) c =
      rw (c 0 (omega arith)) (ap onward (run_ends (next_kind kind k w) (next_left k w) ws (λ i h. c (suc i) (omega arith))))

  -- every position that is come to is good
  good_at : (kind : Kind) (k : ℕ) (ws : List ℕ) (p : ℕ) → Good kind k → p ≤ length ws → Clean g kind k ws p
      → Good (position_from kind k ws p).kind (position_from kind k ws p).left
  unfolding position_from
  good_at kind k ws zero h l c = h
  good_at kind k [] (suc p) h l c = h
  good_at kind k (w ∷ ws) (suc p) h l c =
      good_at (next_kind kind k w) (next_left k w) ws p (good_next g kind k w h (c 0 (omega arith))) (omega arith) (λ i m. c (suc i) (omega arith))

  -- ---- the whole batch

  none_clean : (ws : List ℕ) (n : ℕ) → n ≤ length ws → NoneBefore g ws n → Clean g Setting 0 ws n
  unfolding position_at
  none_clean ws zero l b = λ i h. absurd (omega arith)
  none_clean ws (suc n) l b =
      let c = none_clean ws n (omega arith) (λ i h. b i (omega arith)) in
      let last = zero_unless (judge_at g Setting 0 ws n)
      (λ r e. b n (omega arith) (suc r) (judge_given g _ _ _ r (good_at Setting 0 ws n tt (omega arith) c) e)) in
      λ i h. elim (ℕ_discrete i n) [ yes z ↦ rw z last | no z ↦ c i (omega arith) ]

  clean_none : (ws : List ℕ) (n : ℕ) → Clean g Setting 0 ws n → NoneBefore g ws n
  unfolding position_at
  clean_none ws n c i h r v = omega (arith, given_judge g v, c i h, (given_range g v).0)

-- ---- the call

-- accepted: by its words and by the pair
paired_accepted : (b : Bool) (a : Answer) → ((paired b a).reason ≡ 0) ↔ (T b × (a.reason ≡ 0))
paired_accepted b a = by (eqb a.reason 0) refl b
  where
    by : (c : Bool) → eqb a.reason 0 ≡ c → (d : Bool) → ((cond c (answer (unless d 14 0) a.place) a).reason ≡ 0) ↔ (T d × (a.reason ≡ 0))
    by true e true = (λ z. (tt, eqb-true a.reason 0 e), λ p. (unless_fine true 14 {v = 0} (lit< tt)).1 (tt, refl))
    by true e false = (λ z. absurd ((unless_fine false 14 {v = 0} (lit< tt)).0 z).0, λ p. absurd p.0)
    by false e d = (λ z. absurd (eqb-false a.reason 0 e z), λ p. absurd (eqb-false a.reason 0 e p.1))

module _ (batch grants st : List ℕ) where
  abbrev g : Terms
  g = terms_of grants

  abbrev kept : Bool
  kept = pair_kept g st (writes_of batch)

  told_batch : T (well_formed st) → T (grants_fine grants) → {a : Answer} → Outcome g Setting 0 batch a → (b : Bool) → kept ≡ b
      → ReaderGives batch grants st (paired b a).reason (paired b a).place
  unfolding position_at unless
  told_batch s l (stops {r} {p} h c j) b k =
      rw (ne_eqb (suc r) 0 (λ e. omega arith))
      (at_word s l h (clean_none g batch p c) (judge_given g _ _ _ r (good_at g Setting 0 batch p tt (omega arith) c) j))
  told_batch s l (ends zero c q) true k = accepted s l (clean_none g batch (length batch) c) q (holds_of k)
  told_batch s l (ends zero c q) false k = by_bad_pair s l (clean_none g batch (length batch) c) q (fails_of k)
  told_batch s l (ends (suc n) c q) b k = by_ends_inside s l (clean_none g batch (length batch) c) (omega arith)

  told_as : (b c : Bool) → well_formed st ≡ b → grants_fine grants ≡ c
      → ReaderGives batch grants st (provided b 1 (provided c 2 (paired_answer g st batch))).reason (provided b 1 (provided c 2 (paired_answer g st batch))).place
  unfolding paired_answer batch_answer
  told_as false c e f = by_bad_state (fails_of e)
  told_as true false e f = by_bad_grants (holds_of e) (fails_of f)
  told_as true true e f = told_batch (holds_of e) (holds_of f) (outcome g Setting 0 batch) kept refl

  pub read_told : ReaderGives batch grants st (read_answer batch grants st).reason (read_answer batch grants st).place
  unfolding read_answer
  read_told = told_as (well_formed st) (grants_fine grants) refl refl

  pub read_batch : T (well_formed st) → T (grants_fine grants) → read_answer batch grants st ≡ paired_answer g st batch
  unfolding read_answer
  read_batch s l = rw (true_of (well_formed st) s, true_of (grants_fine grants) l)

  ended_whole : NoneBefore g batch (length batch) → (position_at batch (length batch)).left ≡ 0 → batch_answer g batch ≡ answer 0 (length batch)
  unfolding batch_answer position_at
  ended_whole b q =
      run_ends g Setting 0 batch (none_clean g batch (length batch) (omega arith) b) ∙ ap (λ (n : ℕ). answer (ended n).reason (length batch)) q

  -- a word's refusal stands, and where there is none the pair decides
  refused_as : {a : Answer} → batch_answer g batch ≡ a → a.reason ≢ 0 → paired_answer g st batch ≡ a
  unfolding paired_answer
  refused_as {a} e n = rw (e, ne_eqb a.reason 0 n)

  done_as : {b : Bool} → batch_answer g batch ≡ answer 0 (length batch) → kept ≡ b → paired_answer g st batch ≡ answer (unless b 14 0) (length batch)
  unfolding paired_answer
  done_as e k = rw (e, k)

  pub read_answer_lem : {r p : ℕ} → ReaderGives batch grants st r p → read_answer batch grants st ≡ answer r p
  unfolding read_answer batch_answer position_at unless
  read_answer_lem (by_bad_state n) = rw (false_of (well_formed st) n)
  read_answer_lem (by_bad_grants s n) = rw (true_of (well_formed st) s, false_of (grants_fine grants) n)
  read_answer_lem (at_word {r} {p} s l h b v) =
      read_batch s l ∙ refused_as (stops_as r (given_range g v).0 (given_judge g v)) (λ e. omega (arith, (given_range g v).0))
    where
      stops_as : (x : ℕ) → 3 ≤ x → judge_at g Setting 0 batch p ≡ x → run g Setting 0 batch ≡ answer x p
      stops_as zero q e = absurd (omega arith)
      stops_as (suc x) q e = run_stops g Setting 0 batch x p h (none_clean g batch p (omega arith) b) e
  read_answer_lem (by_ends_inside s l b q) =
      read_batch s l ∙ refused_as (run_ends g Setting 0 batch (none_clean g batch (length batch) (omega arith) b) ∙ ended_inside _ q) (λ e. omega arith)
    where
      ended_inside : (n : ℕ) → 0 < n → answer (ended n).reason (length batch) ≡ answer 10 (length batch)
      ended_inside zero z = absurd (omega arith)
      ended_inside (suc n) z = refl
  read_answer_lem (by_bad_pair s l b q n) = read_batch s l ∙ done_as (ended_whole b q) (false_of kept n)
  read_answer_lem (accepted s l b q t) = read_batch s l ∙ done_as (ended_whole b q) (true_of kept t)

  -- what an accepted batch was judged by
  pub accepted_parts : {r p : ℕ} → ReaderGives batch grants st r p → r ≡ 0 → T (well_formed st) × T (grants_fine grants)
  accepted_parts (by_bad_state n) e = absurd (omega arith)
  accepted_parts (by_bad_grants s n) e = absurd (omega arith)
  accepted_parts (at_word s l h b v) e = (s, l)
  accepted_parts (by_ends_inside s l b q) e = (s, l)
  accepted_parts (by_bad_pair s l b q n) e = (s, l)
  accepted_parts (accepted s l b q t) e = (s, l)

  pub read_range : {r p : ℕ} → ReaderGives batch grants st r p → (r ≢ 13) × (r ≤ 14)
  read_range (by_bad_state n) = (λ e. omega arith, omega arith)
  read_range (by_bad_grants s n) = (λ e. omega arith, omega arith)
  read_range (at_word s l h b v) = let k = (given_range g v).1 in (λ e. omega arith, omega arith)
  read_range (by_ends_inside s l b q) = (λ e. omega arith, omega arith)
  read_range (by_bad_pair s l b q n) = (λ e. omega arith, omega arith)
  read_range (accepted s l b q t) = (λ e. omega arith, omega arith)

  -- "Permitted batches gain this condition"
  pub paired_permitted : ((paired_answer g st batch).reason ≡ 0) ↔ Permitted g st batch
  unfolding paired_answer
  paired_permitted = (
    λ e.
        let p = (paired_accepted kept (batch_answer g batch)).0 e in
        let c = (batch_permitted g batch).0 p.1 in
        record { cut = c; pair = rw (writes_of_cut g batch c) at p.0 },
    λ p. (paired_accepted kept (batch_answer g batch)).1 (rw (writes_of_cut g batch p.cut) p.pair, (batch_permitted g batch).1 p.cut),
  )

  pub accepted_permitted : (read_answer batch grants st).reason ≡ 0 → Permitted g st batch
  accepted_permitted e =
      let w = accepted_parts read_told e in
      paired_permitted.0 (rw (read_batch w.0 w.1) at e)

  pub accepted_cut : (read_answer batch grants st).reason ≡ 0 → Cut g batch
  accepted_cut e = (accepted_permitted e).cut

  -- what is accepted has its length for a place
  pub accepted_at : (read_answer batch grants st).reason ≡ 0 → read_answer batch grants st ≡ answer 0 (length batch)
  unfolding paired_answer unless
  accepted_at e =
      let w = accepted_parts read_told e in
      let same = read_batch w.0 w.1 in
      let p = (paired_accepted kept (batch_answer g batch)).0 (rw same at e) in
      same ∙ rw (p.1, batch_length g batch p.1, true_of kept p.0)

  -- it is accepted, with its length for a place, exactly if it is permitted
  pub accepted_iff : T (well_formed st) → T (grants_fine grants) → (read_answer batch grants st ≡ answer 0 (length batch)) ↔ Permitted g st batch
  accepted_iff s l =
      let e = read_batch s l in (
        λ a. paired_permitted.0 (ap (λ (x : Answer). x.reason) (sym e ∙ a)),
        λ p. accepted_at (ap (λ (x : Answer). x.reason) e ∙ paired_permitted.1 p),
      )

  -- the table of reasons and the answer agree
  pub read_exactly : (r p : ℕ) → (read_answer batch grants st ≡ answer r p) ↔ ReaderGives batch grants st r p
  read_exactly = exactly (read_answer batch grants st) (ReaderGives batch grants st) read_told (λ r p. read_answer_lem)
