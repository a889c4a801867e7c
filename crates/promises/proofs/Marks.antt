-- Marks as bits: setting one is setting that mark, and the bits of a state are its marks.
-- Assumes nothing.
use mathlib.Core.Path.{◌≡◌, refl, sym, ap, ◌∙◌}
use mathlib.Core.Logic.{◌≢◌}
use mathlib.Core.Bool.{Bool, true, false, cond}
use mathlib.Core.List.{List, ◌++◌, [], ◌∷◌}
use Prim.Native.Nat.{ℕ, zero, suc, ◌+◌, ◌*◌, ◌-◌, ◌/◌, ◌%◌, ◌^◌, ◌≤◌, ◌<◌}
use native.Mathlib.Omega.{arith}
use native.Mathlib.Decide.{ℕ_discrete, dec_lt}
use native.Mathlib.Nat.{div-eq_of_lt}
use lib.Bits.{bit_or, or_shr, or_mod, or_zero_r, shifted_even}
use lib.ListN.{length, get_or, set, take, drop, replicate, get_or-replicate, length-set, take-append-drop, length-drop}
use lib.Pow.{pow-lt, pow-add, pow_pos, shl-shr}
use lib.Seq.{ext_get_or, get_or-set_same, get_or-set_other, get_or-drop}
use Rattle.laws.specs.Tests.{within}
use Rattle.meaning.specs.Registers.{cells, cell}
use Rattle.meaning.specs.State.{one, is_mark, marked, mark_at, state_words}
use Rattle.meaning.proofs.States.{Formed}
use Rattle.pair.specs.Marks.{cleared}
use Rattle.pair.proofs.Marks.{cleared_length, cleared_mark}
use Rattle.engine.specs.Bits.{bit_of, marks_of, with_mark, packed}
use Rattle.engine.proofs.Bits.{marks_length, mark_at_lem}

-- ---- one bit

abbrev bit : ℕ → ℕ → ℕ
bit x j = x / 2 ^ j % 2

bit_or_lem : (x y j : ℕ) → bit (bit_or x y) j ≡ bit_or (bit x j) (bit y j)
bit_or_lem x y j = rw (or_shr x y j) (or_mod (x / 2 ^ j) (y / 2 ^ j) 1)

power_own : (k : ℕ) → bit (2 ^ k) k ≡ 1
power_own k =
    let e : 2 ^ k ≡ 1 * 2 ^ k = omega arith in
    ap (λ (x : ℕ). x / 2 ^ k % 2) e ∙ ap (λ (x : ℕ). x % 2) (shl-shr 1 k)

power_other : (k j : ℕ) → j ≢ k → bit (2 ^ k) j ≡ 0
power_other k j n =
    elim (dec_lt k j) [
      | yes h ↦ ap (λ (x : ℕ). x % 2) (div-eq_of_lt (pow-lt h))
      | no h ↦
          let d = k - j - 1 in
          let e : k ≡ suc d + j = omega arith in
          let one_more : 1 * 2 ^ suc d ≡ 2 ^ suc d = omega arith in
          ap (λ (x : ℕ). bit (2 ^ x) j) e ∙ ap (λ (x : ℕ). x / 2 ^ j % 2) (pow-add 2 (suc d) j)
          ∙ ap (λ (x : ℕ). x % 2) (shl-shr (2 ^ suc d) j ∙ sym one_more) ∙ shifted_even 1 d
    ]

-- a bit joined by `|` with one that is set, and with one that is not
with_set : (b : ℕ) → b < 2 → bit_or b 1 ≡ 1
with_set zero h = refl
with_set (suc zero) h = refl
with_set (suc (suc b)) h = absurd (omega arith)

-- the bits of a word in which one is set
or_own : (x k : ℕ) → bit (bit_or x (2 ^ k)) k ≡ 1
or_own x k = bit_or_lem x (2 ^ k) k ∙ ap (bit_or (bit x k)) (power_own k) ∙ with_set (bit x k) (omega arith)

or_other : (x k j : ℕ) → j ≢ k → bit (bit_or x (2 ^ k)) j ≡ bit x j
or_other x k j n = bit_or_lem x (2 ^ k) j ∙ ap (bit_or (bit x j)) (power_other k j n) ∙ or_zero_r (bit x j)

-- ---- a mark that is set

module _ (ms : List ℕ) (four : length ms ≡ 4) (c : ℕ) (inside : c < cells) where
  room : c / 32 < length ms
  room = omega arith

  bit_own : bit_of (with_mark ms c) c ≡ 1
  unfolding with_mark
  bit_own = ap (λ (x : ℕ). bit x (c % 32)) (get_or-set_same ms (c / 32) _ 0 room) ∙ or_own (get_or ms (c / 32) 0) (c % 32)

  bit_other : (i : ℕ) → i ≢ c → bit_of (with_mark ms c) i ≡ bit_of ms i
  unfolding with_mark
  bit_other i n =
      elim (ℕ_discrete (i / 32) (c / 32)) [
        | yes e ↦
            rw e (ap (λ (x : ℕ). bit x (i % 32)) (get_or-set_same ms (c / 32) _ 0 room)
            ∙ or_other (get_or ms (c / 32) 0) (c % 32) (i % 32) (λ z. n (omega arith)))
        | no e ↦ ap (λ (x : ℕ). bit x (i % 32)) (get_or-set_other ms (c / 32) (i / 32) _ 0 e)
      ]

  pub mark_set : marks_of (with_mark ms c) ≡ set (marks_of ms) c 1
  mark_set =
      ext_get_or 0 (marks_of (with_mark ms c)) (set (marks_of ms) c 1)
      (marks_length (with_mark ms c) ∙ sym (length-set (marks_of ms) c 1 ∙ marks_length ms))
      (λ i h.
      let l : i < cells = omega (arith, marks_length (with_mark ms c)) in
      mark_at_lem (with_mark ms c) i l
      ∙ elim (ℕ_discrete i c) [
        | yes e ↦ rw e (bit_own ∙ sym (get_or-set_same (marks_of ms) c 1 0 (omega (arith, marks_length ms))))
        | no e ↦ bit_other i e ∙ sym (get_or-set_other (marks_of ms) c i 1 0 e ∙ mark_at_lem ms i l)
      ])

pub with_length : (ms : List ℕ) (c : ℕ) → length (with_mark ms c) ≡ length ms
unfolding with_mark
with_length ms c = length-set ms (c / 32) _

-- ---- the marks of a state

with_or_not : (b : Bool) (ms : List ℕ) (c n : ℕ) → length ms ≡ n → length (cond b (with_mark ms c) ms) ≡ n
with_or_not true ms c n e = with_length ms c ∙ e
with_or_not false ms c n e = e

pub packed_length : (st : List ℕ) (n : ℕ) (ms : List ℕ) → length (packed st n ms) ≡ length ms
unfolding packed
packed_length st zero ms = refl
packed_length st (suc n) ms = with_or_not (marked st (cell n)) (packed st n ms) n (length ms) (packed_length st n ms)

-- the bits of a state's first n cells are set where they are marked, and no others
record Packs (st : List ℕ) (n : ℕ) (ms : List ℕ) : Type 0 where
  looked : (i : ℕ) → i < n → i < cells → bit_of ms i ≡ one (marked st (cell i))
  left : (i : ℕ) → n ≤ i → i < cells → bit_of ms i ≡ 0

module _ (st : List ℕ) where
  packs_next : (n : ℕ) (ms : List ℕ) (b : Bool) → marked st (cell n) ≡ b → length ms ≡ 4 → n < cells → Packs st n ms → Packs st (suc n) (cond b (with_mark ms n) ms)
  packs_next n ms true e four h p =
      record {
        looked = λ i l k. elim (ℕ_discrete i n) [
          | yes z ↦ rw z (bit_own ms four n h ∙ sym (ap one e))
          | no z ↦ bit_other ms four n h i z ∙ p.looked i (omega arith) k
        ];
        left = λ i l k. bit_other ms four n h i (λ z. omega arith) ∙ p.left i (omega arith) k;
      }
  packs_next n ms false e four h p =
      record {
        looked = λ i l k. elim (ℕ_discrete i n) [
          | yes z ↦ rw z (p.left n (omega arith) h ∙ sym (ap one e))
          | no z ↦ p.looked i (omega arith) k
        ];
        left = λ i l k. p.left i (omega arith) k;
      }

  packs : (n : ℕ) → n ≤ cells → Packs st n (packed st n (replicate 4 0))
  unfolding packed
  packs zero h = record { looked = λ i l k. absurd (omega arith); left = λ i l k. no_bit i k }
    where
      no_bit : (i : ℕ) → i < cells → bit_of (replicate 4 0) i ≡ 0
      no_bit i k = ap (λ (x : ℕ). bit x (i % 32)) (get_or-replicate 4 (i / 32) 0 0 (omega arith)) ∙ ap (λ (x : ℕ). x % 2) (div-eq_of_lt (pow_pos (i % 32)))
  packs (suc n) h =
      packs_next n (packed st n (replicate 4 0)) (marked st (cell n)) refl (packed_length st n (replicate 4 0)) (omega arith) (packs n (omega arith))

  mark_number : (m : ℕ) → m ≤ 1 → one (is_mark m) ≡ m
  mark_number zero h = refl
  mark_number (suc zero) h = refl
  mark_number (suc (suc m)) h = absurd (omega arith)

  -- they are its marks, where these are 0 or 1
  pub marks_packed : length st ≡ state_words → ((c : ℕ) → c < cells → mark_at st (cell c) ≤ 1) → marks_of (packed st cells (replicate 4 0)) ≡ drop cells st
  marks_packed size small =
      let ms = packed st cells (replicate 4 0) in
      ext_get_or 0 (marks_of ms) (drop cells st)
      (marks_length ms ∙ sym (length-drop cells st ∙ omega (arith, size)))
      (λ i h.
      let l : i < cells = omega (arith, marks_length ms) in
      mark_at_lem ms i l ∙ (packs cells (omega arith)).looked i l l ∙ mark_number (mark_at st (cell i)) (small i l) ∙ sym (get_or-drop cells st i 0))

  pub state_packed : Formed st → take cells st ++ marks_of (packed st cells (replicate 4 0)) ≡ st
  state_packed f = ap (λ (l : List ℕ). take cells st ++ l) (marks_packed f.size f.mark) ∙ take-append-drop cells st

-- ---- the same without the marks of the pair

take_set : (n i v : ℕ) (xs : List ℕ) → n ≤ i → take n (set xs i v) ≡ take n xs
take_set n i v [] h = refl
take_set zero i v (x ∷ xs) h = refl
take_set (suc n) zero v (x ∷ xs) h = absurd (omega arith)
take_set (suc n) (suc i) v (x ∷ xs) h = ap (λ (l : List ℕ). x ∷ l) (take_set n i v xs (omega arith))

same_values : (st : List ℕ) → take cells (cleared st) ≡ take cells st
unfolding cleared
same_values st = take_set cells 103 0 (set st 102 0) (omega arith) ∙ take_set cells 102 0 st (omega arith)

pub cleared_packed : (st : List ℕ) → Formed st → take cells st ++ marks_of (packed (cleared st) cells (replicate 4 0)) ≡ cleared st
cleared_packed st f =
    let small : (c : ℕ) → c < cells → mark_at (cleared st) (cell c) ≤ 1 =
    λ c l. rw (cleared_mark st f.size c l) (outside_small (within 1 2 c) (mark_at st (cell c)) (f.mark c l)) in
    ap (λ (l : List ℕ). l ++ marks_of (packed (cleared st) cells (replicate 4 0))) (sym (same_values st))
    ∙ ap (λ (l : List ℕ). take cells (cleared st) ++ l) (marks_packed (cleared st) (cleared_length st ∙ f.size) small)
    ∙ take-append-drop cells (cleared st)
  where
    outside_small : (b : Bool) (m : ℕ) → m ≤ 1 → cond b 0 m ≤ 1
    outside_small true m l = omega arith
    outside_small false m l = l
