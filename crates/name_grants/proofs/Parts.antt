-- Where the input is cut: what the first word says, and how much there is.
-- Assumes nothing.
use mathlib.Core.Path.{◌≡◌, refl, sym, ◌∙◌}
use mathlib.Core.List.{List, []}
use Prim.Native.Nat.{ℕ, ◌+◌, ◌-◌, ◌≤◌, ◌<◌}
use native.Mathlib.Omega.{arith}
use lib.ListN.{length, get_or, take, drop, length-drop, drop_of_length-le}
use lib.Seq.{take_all, take-nil, drop-nil, drop-drop}
use Rattle.meaning.specs.Words.{words_of}
use Rattle.name_grants.specs.Named.{grant_length, grants_in, batch_in}

-- behind the first word so many bytes are the grant list, and the rest is the batch
abbrev pub CutAt : List ℕ → ℕ → Type 0
CutAt input n = (4 + n ≤ length input) × ((take n (drop 4 input) ≡ grants_in input) × (drop n (drop 4 input) ≡ batch_in input))

module _ (input : List ℕ) (n : ℕ) (whole : 4 ≤ length input) (said : n ≡ get_or (words_of input) 0 0) where
  -- as many as the word says,
  pub all_there : n ≤ length input - 4 → CutAt input n
  unfolding grant_length grants_in batch_in
  all_there h = rw said (omega arith, (refl, refl))

  -- or all there are
  pub too_few : length input - 4 < n → CutAt input (length input - 4)
  unfolding grant_length grants_in batch_in
  too_few h =
      let most = length input - 4 in
      let few : length (drop 4 input) ≤ most = omega (arith, length-drop 4 input) in
      let fewer : length (drop 4 input) ≤ n = omega arith in
      rw (← said) (
        omega arith,
        (
          take_all most (drop 4 input) few ∙ sym (take_all n (drop 4 input) fewer),
          drop_of_length-le (drop 4 input) few ∙ sym (drop_of_length-le (drop 4 input) fewer),
        ),
      )

-- without a first word there is neither
pub neither : (input : List ℕ) → length input < 4 → (grants_in input ≡ []) × (batch_in input ≡ [])
unfolding grant_length grants_in batch_in
neither input h =
    let few : length input ≤ 4 = omega arith in
    rw (drop_of_length-le input few) (take-nil (grant_length input), drop-nil (grant_length input))

-- ---- the two parts

module _ (input : List ℕ) (n : ℕ) (cut : CutAt input n) where
  pub grants_part : take (4 + n - 4) (drop 4 input) ≡ grants_in input
  grants_part = let same : 4 + n - 4 ≡ n = omega arith in rw same cut.1.0

  pub batch_part : take (length input - (4 + n)) (drop (4 + n) input) ≡ batch_in input
  batch_part =
      let few : length (drop (4 + n) input) ≤ length input - (4 + n) = omega (arith, length-drop (4 + n) input) in
      take_all (length input - (4 + n)) (drop (4 + n) input) few ∙ sym (drop-drop n 4 input) ∙ cut.1.1
