-- Words gathered by `|` under a test of each, and the two tests that make a state well-formed.
-- Assumes nothing.
use Rattle.std.proofs.Common.{◌≡◌, ℕ, zero, suc, ◌+◌, ◌-◌, ◌%◌, ◌^◌, ◌<◌, ◌≤◌, Bool, true, false, ◌&&◌, T, eqb, leb, ◌≢◌, List, [], ◌∷◌, length, sym, refl, ap, ◌∙◌, ap₂, add-zero, zero-add, add-one, arith, leb→le, ne_eqb, le-leb}
use mathlib.Core.Bool.{and-true, and-false, and_assoc}
use borrow.Author.Tests.{lt-leb}
use lib.Bits.{bit_and, bit_or, and_zero_r, and_mask}
use Rattle.laws.specs.Lists.{every, from}
use Rattle.laws.specs.Tests.{implies}
use Rattle.meaning.specs.Registers.{cells, cell}
use Rattle.meaning.specs.State.{state_words, value_at, mark_at, cell_formed, well_formed}
use Rattle.laws.proofs.Lists.{every_from}
use Rattle.states.specs.Marks.{marks_to, clear_to}

-- a test of numbers in a row, and of one more at their end
pub every_more : (f : ℕ → Bool) (i n : ℕ) → every f (from i (suc n)) ≡ (every f (from i n) && f (i + n))
unfolding every from
every_more f i zero = rw (add-zero i) (and-true (f i))
every_more f i (suc n) =
    let e : i + suc n ≡ suc i + n = omega arith in
    rw e (ap (λ (b : Bool). f i && b) (every_more f (suc i) n) ∙ sym (and_assoc (f i) (every f (from (suc i) n)) (f (suc i + n))))

-- four truths, the inner two exchanged
across : (a b c d : Bool) → (a && b && (c && d)) ≡ (a && c && (b && d))
across false b c d = refl
across true false c d = sym (and-false c)
across true true c d = refl

-- two tests of each are one test and the other
every_both {ℓ} : {A : Type ℓ} (f g : A → Bool) (l : List A) → every (λ x. f x && g x) l ≡ (every f l && every g l)
unfolding every
every_both f g [] = refl
every_both f g (x ∷ xs) = ap (λ (b : Bool). f x && g x && b) (every_both f g xs) ∙ across (f x) (g x) (every f xs) (every g xs)

-- ---- the loops over the cells

-- a turn of a gathering: the words so far, and one more, under a test that `|` passes exactly if both sides do
pub one_more : (p : ℕ → Bool) → ((a b : ℕ) → p (bit_or a b) ≡ (p a && p b)) → (f : ℕ → Bool) (gathered word n : ℕ) → p word ≡ f n → p gathered ≡ every f (from 0 n)
    → p (bit_or gathered word) ≡ every f (from 0 (n + 1))
one_more p both f gathered word n e inv =
    let more : every f (from 0 (suc n)) ≡ (every f (from 0 n) && f n) = every_more f 0 n ∙ rw (zero-add n) in
    rw (add-one n) (both gathered word ∙ ap₂ (λ (a b : Bool). a && b) inv e ∙ sym more)

-- a value under one less than its mark tells whether it is unmarked
pub excess_tells : (v m less : ℕ) → m ≤ 1 → v < 2 ^ 32 → less < 2 ^ 32 → (less + 1) % 2 ^ 32 ≡ m → eqb (bit_and v less) 0 ≡ implies (eqb m 0) (eqb v 0)
excess_tells v zero less s h k e =
    let ones : less ≡ 2 ^ 32 - 1 = omega arith in
    let all : bit_and v less ≡ v = ap (bit_and v) ones ∙ and_mask v 32 ∙ omega arith in
    rw all
excess_tells v (suc zero) less s h k e =
    let none : less ≡ 0 = omega arith in
    rw (none, and_zero_r v)
excess_tells v (suc (suc m)) less s h k e = absurd (omega arith)

-- a mark that was tested is at most 1
pub mark_small : (st : List ℕ) (n : ℕ) → T (marks_to st cells) → n < cells → mark_at st (cell n) ≤ 1
mark_small st n t l = leb→le _ _ (every_from (λ k. leb (mark_at st (cell k)) 1) 0 cells t n (omega arith) (omega arith))

-- ---- the answers

-- a state is well-formed exactly if both tests pass
formed_parts : (st : List ℕ) → length st ≡ state_words → well_formed st ≡ (marks_to st cells && clear_to st cells)
unfolding well_formed cell_formed
formed_parts st l =
    rw l (every_both (λ k. leb (mark_at st (cell k)) 1) (λ k. implies (eqb (mark_at st (cell k)) 0) (eqb (value_at st (cell k)) 0)) (from 0 cells))

-- a mark is too great
pub mark_great : (st : List ℕ) (marks : ℕ) → length st ≡ state_words → leb marks 1 ≡ marks_to st cells → 1 < marks → false ≡ well_formed st
mark_great st marks l e g = sym (formed_parts st l ∙ ap (λ (b : Bool). b && clear_to st cells) (sym e ∙ lt-leb marks 1 g))

-- no mark is, so that the values decide
pub marks_small : (st : List ℕ) (marks : ℕ) → leb marks 1 ≡ marks_to st cells → marks ≤ 1 → marks_to st cells ≡ true
marks_small st marks e s = sym e ∙ le-leb marks 1 s

pub values_decide : (st : List ℕ) (b : Bool) → length st ≡ state_words → marks_to st cells ≡ true → b ≡ clear_to st cells → b ≡ well_formed st
values_decide st b l m e = e ∙ sym (formed_parts st l ∙ ap (λ (x : Bool). x && clear_to st cells) m)

-- another number of words is no state
pub no_state : (st : List ℕ) → length st ≢ state_words → false ≡ well_formed st
unfolding well_formed
no_state st n = rw (ne_eqb (length st) state_words n)
