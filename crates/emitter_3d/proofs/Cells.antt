-- What is emitted for one cell, by its mark, and for rows that follow one another.
-- Assumes nothing.
use mathlib.Core.Path.{◌≡◌, refl, sym}
use mathlib.Core.List.{List, [], ◌∷◌}
use Prim.Native.Nat.{ℕ, zero, suc, ◌+◌, ◌*◌, ◌≤◌, ◌^◌}
use native.Mathlib.Omega.{arith}
use lib.ListN.{length, length-append}
use Rattle.meaning.specs.declared.Cell.{Cell}
use Rattle.meaning.specs.declared.SubAddress.{SubAddress}
use Rattle.meaning.specs.Registers.{cell}
use Rattle.meaning.specs.State.{value_at, mark_at, is_mark, marked}
use Rattle.meaning.specs.Writer.{if_so}
use Rattle.meaning.proofs.Writing.{so_length, one_few}
use Rattle.words.specs.Stores.{put_words}
use Rattle.words.proofs.Stores.{put_none, put_append}
use Rattle.emitter_3d.specs.Emitted.{parameter_of, parameters_from}

-- a marked cell has what it has
pub so_marked {ℓ} : {A : Type ℓ} (m : ℕ) (x : A) → (m ≡ 0 → ⊥) → if_so (is_mark m) x [] ≡ x ∷ []
so_marked zero x n = absurd (n refl)
so_marked (suc m) x n = refl

-- nothing is emitted: the place and the output stay
pub emits_none : {ws : List ℕ} (out : List ℕ) (at : ℕ) → ws ≡ [] → (at ≡ at + length ws) × (out ≡ put_words out at ws)
emits_none out at e = rw e (omega arith, sym (put_none out at))

-- two words, one after the other
pub two_stored : {mid end : List ℕ} (out : List ℕ) (at x y : ℕ) → mid ≡ put_words out at (x ∷ []) → end ≡ put_words mid (at + 1) (y ∷ []) → end ≡ put_words out at (x ∷ y ∷ [])
two_stored out at x y first second = rw (second, first) (put_append out at (x ∷ []) (y ∷ []))

module _ (st : List ℕ) (c : Cell) (a : SubAddress) where
  pub parameter_none : mark_at st c ≡ 0 → parameter_of st c a ≡ []
  unfolding parameter_of
  parameter_none e = rw e

  pub parameter_one : (mark_at st c ≡ 0 → ⊥) → parameter_of st c a ≡ (a.0 * 2 ^ 24 + value_at st c) ∷ []
  unfolding parameter_of
  parameter_one n = so_marked (mark_at st c) _ n

  pub parameter_few : length (parameter_of st c a) ≤ 1
  unfolding parameter_of
  parameter_few = omega (arith, so_length (marked st c) (a.0 * 2 ^ 24 + value_at st c) [], one_few (marked st c))

-- at most a parameter for each row
pub parameters_few : (st : List ℕ) (c a n : ℕ) → length (parameters_from st c a n) ≤ n
unfolding parameters_from
parameters_few st c a zero = omega arith
parameters_few st c a (suc n) =
    omega (
      arith,
      length-append (parameter_of st (cell c) (record { 0 = a })) (parameters_from st (suc c) (suc a) n),
      parameter_few st (cell c) (record { 0 = a }),
      parameters_few st (suc c) (suc a) n,
    )
