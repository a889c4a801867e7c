-- A state laid out of values and marks; and what closing answers and hands back.
-- Assumes nothing.
use mathlib.Core.Path.{◌≡◌, refl, sym, ap, ◌∙◌}
use mathlib.Core.Logic.{◌≢◌}
use mathlib.Core.Bool.{Bool, true, false}
use mathlib.Core.List.{List, ◌++◌}
use Prim.Native.Nat.{ℕ, zero, suc, ◌+◌, ◌-◌, ◌<◌}
use native.Mathlib.Omega.{arith}
use native.Mathlib.Decide.{ℕ_discrete, dec_lt}
use borrow.Author.Tests.{ne_eqb}
use lib.Dec.{eqb}
use lib.ListN.{length, get_or, set, length-append, length-set, get_or-append}
use lib.Seq.{ext_get_or, get_or-set_same, get_or-set_other, get_or-append-add}
use Rattle.laws.proofs.Arms.{told_true, told_false}
use Rattle.meaning.specs.Registers.{cells}
use Rattle.meaning.specs.State.{state_words}
use Rattle.meaning.specs.Answers.{ends_inside, bad_pair, success, answer}
use Rattle.meaning.specs.Reader.{unless, ended, paired}
use Rattle.grants.specs.declared.Part.{Part}
use Rattle.pair.specs.Marks.{restored}
use Rattle.pair.specs.Judged.{kept_in}
use Rattle.asking.specs.Asked.{part_in}
use Rattle.feeding.specs.Steps.{Standing, closes, leaves}
use Rattle.engine.specs.declared.Engine.{Engine}
use Rattle.engine.specs.Bits.{bit_of, marks_of}
use Rattle.engine.specs.Kept.{closing_reason, reason_behind, handed, pair_judged}
use Rattle.engine.proofs.Bits.{marks_length, mark_at_lem}

-- ---- the loop over the cells

-- the cells below c are laid
pub record Laid (values marks state : List ℕ) (c : ℕ) : Type 0 where
  pub size : length state ≡ state_words
  pub value : (i : ℕ) → i < c → get_or state i 0 ≡ get_or values i 0
  pub mark : (i : ℕ) → i < c → get_or state (cells + i) 0 ≡ bit_of marks i

pub none_laid : (values marks state : List ℕ) → length state ≡ state_words → Laid values marks state 0
none_laid values marks state e = record { size = e; value = λ i l. absurd (omega arith); mark = λ i l. absurd (omega arith) }

module _ (values marks state : List ℕ) (c : ℕ) (laid : Laid values marks state c) (inside : c < cells) where
  pub one_laid : {v m : ℕ} → v ≡ get_or values c 0 → m ≡ bit_of marks c → Laid values marks (set (set state c v) (cells + c) m) (c + 1)
  one_laid {v} {m} e f =
      let n = laid.size in
      let long = length-set state c v in
      record {
        size = length-set (set state c v) (cells + c) m ∙ long ∙ n;
        value = λ i l.
            get_or-set_other (set state c v) (cells + c) i m 0 (λ z. omega arith)
            ∙ elim (ℕ_discrete i c) [
              | yes z ↦ rw z (get_or-set_same state c v 0 (omega arith) ∙ e)
              | no z ↦ get_or-set_other state c i v 0 z ∙ laid.value i (omega arith)
            ];
        mark = λ i l. elim (ℕ_discrete i c) [
          | yes z ↦ rw z (get_or-set_same (set state c v) (cells + c) m 0 (omega arith) ∙ f)
          | no z ↦
              get_or-set_other (set state c v) (cells + c) (cells + i) m 0 (λ y. z (omega arith))
              ∙ get_or-set_other state c (cells + i) v 0 (λ y. omega arith) ∙ laid.mark i (omega arith)
        ];
      }

pub all_laid : (values marks state : List ℕ) (c : ℕ) → cells ≡ c → length values ≡ cells → Laid values marks state c → state ≡ values ++ marks_of marks
all_laid values marks state c full n laid =
    ext_get_or 0 state (values ++ marks_of marks)
    (laid.size ∙ sym (length-append values (marks_of marks) ∙ omega (arith, n, marks_length marks)))
    (λ i h.
    elim (dec_lt i cells) [
      | yes l ↦ laid.value i (omega arith) ∙ sym (get_or-append values (marks_of marks) 0 i (omega arith))
      | no l ↦
          let k = i - cells in
          let e : i ≡ cells + k = omega arith in
          let f : i ≡ length values + k = omega arith in
          let m : k < cells = omega (arith, laid.size) in
          ap (λ (j : ℕ). get_or state j 0) e ∙ laid.mark k (omega arith) ∙ sym (mark_at_lem marks k m)
          ∙ sym (ap (λ (j : ℕ). get_or (values ++ marks_of marks) j 0) f ∙ get_or-append-add values (marks_of marks) k 0)
    ])

-- ---- closing

-- the reason of an engine, from what it is told by
pub told_of : (e : Engine) {starts lasts numbers : List ℕ} {p : Part} {r : ℕ} → starts ≡ e.starts → lasts ≡ e.lasts → numbers ≡ e.numbers → p ≡ part_in e.bounds 1
    → r ≡ reason_behind (closing_reason e.reason e.left) (kept_in starts lasts numbers p (bit_of e.marked 1) (bit_of e.marked 2) (e.values ++ marks_of e.marks))
    → r ≡ reason_behind (closing_reason e.reason e.left) (pair_judged e)
told_of e s l n its told = told ∙ rw (s, l, n, its)

module _ (kept : Bool) (s : Standing) (new st : List ℕ) {r : ℕ} (told : r ≡ reason_behind (closing_reason s.answer.reason s.left) kept) where
  -- 10 or none, and then the pair, at a place
  pair_reason : (e p : ℕ) (b : Bool) → eqb e success ≡ b → answer (reason_behind e kept) p ≡ paired kept (answer e p)
  pair_reason e p true z = rw z
  pair_reason e p false z = rw z

  -- the answer is that reason at the place that stands
  by_reason : (b : Bool) → eqb s.answer.reason success ≡ b → answer (reason_behind (closing_reason s.answer.reason s.left) kept) s.answer.place ≡ closes kept s
  unfolding closes
  by_reason true z = rw z (pair_reason (ended s.left).reason s.answer.place (eqb (ended s.left).reason success) refl)
  by_reason false z = let stays : closing_reason s.answer.reason s.left ≡ s.answer.reason = rw z in rw (stays, z)

  closes_by : answer r s.answer.place ≡ closes kept s
  closes_by = rw told (by_reason (eqb s.answer.reason success) refl)

  -- and the state is what that reason hands back
  pub close_by : {state : List ℕ} → state ≡ handed r new st → (answer r s.answer.place ≡ closes kept s) × (state ≡ leaves kept s new st)
  unfolding leaves
  close_by e = (closes_by, rw (sym closes_by) e)

-- the reason that stands
pub stood : (r k : ℕ) → r ≢ 0 → r ≡ closing_reason r k
stood r k n = rw (ne_eqb r 0 n)

-- 10, or none
pub ends : (r k : ℕ) → r ≡ 0 → k ≢ 0 → ends_inside ≡ closing_reason r k
ends r zero z n = absurd (n refl)
ends r (suc k) z n = rw z

pub none : (r k : ℕ) → r ≡ 0 → k ≡ 0 → success ≡ closing_reason r k
none r k z e = rw (z, e)

-- ---- the pair, judged of the state that is laid out

-- by the reason c that the words ended with
module _ (starts lasts numbers values before marks marked : List ℕ) (part : Part) {c r : ℕ} (stands : c ≡ r) where
  abbrev pair_kept_lem : Bool
  pair_kept_lem = kept_in starts lasts numbers part (bit_of marked 1) (bit_of marked 2) (values ++ marks_of marks)

  -- the state with what the words write, and as it was
  abbrev new : List ℕ
  new = restored (bit_of marked 1) (bit_of marked 2) (values ++ marks_of marks)

  abbrev old : List ℕ
  old = before ++ marks_of marked

  -- that reason goes first
  pub before_pair : c ≢ 0 → {state : List ℕ} → state ≡ old → (c ≡ reason_behind r pair_kept_lem) × (state ≡ handed c new old)
  before_pair n e = (rw (← stands, ne_eqb c 0 n), rw (ne_eqb c 0 n) e)

  module _ (z : c ≡ 0) {t l : ℕ} (first : t ≡ bit_of marked 1) (second : l ≡ bit_of marked 2) {laid : List ℕ} (is : laid ≡ values ++ marks_of marks)
      {k : Bool} (judged : k ≡ kept_in starts lasts numbers part t l laid) where
    same : k ≡ pair_kept_lem
    same = judged ∙ rw (first, second, is)

    -- 14,
    pub pair_bad : k ≡ false → {state : List ℕ} → state ≡ old → (bad_pair ≡ reason_behind r pair_kept_lem) × (state ≡ handed bad_pair new old)
    unfolding unless
    pair_bad n e = (rw (← stands, z, told_false same n), e)

    -- or none, and the marks of the pair are given back
    pub pair_good : k ≡ true → {back : List ℕ} → back ≡ restored t l laid → (success ≡ reason_behind r pair_kept_lem) × (back ≡ handed success new old)
    unfolding unless
    pair_good n given = (rw (← stands, z, told_true same n), given ∙ rw (first, second, is))
