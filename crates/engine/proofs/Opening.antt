-- What opening makes of a state and grants, by what its tests came to.
-- Assumes nothing.
use mathlib.Core.Path.{◌≡◌, refl, sym, ◌∙◌}
use mathlib.Core.Logic.{◌≢◌}
use mathlib.Core.Bool.{Bool, true, false}
use mathlib.Core.List.{List}
use Prim.Native.Nat.{ℕ, zero, suc}
use native.Mathlib.Omega.{arith}
use lib.Dec.{T}
use lib.ListN.{length, take}
use Rattle.laws.proofs.Tests.{holds_of}
use Rattle.meaning.specs.Registers.{cells}
use Rattle.meaning.specs.Grants.{most_grants, grants_of, grants_fine}
use Rattle.meaning.specs.State.{state_words, well_formed}
use Rattle.meaning.specs.Answers.{success}
use Rattle.meaning.proofs.States.{formed_iff}
use Rattle.keeping.specs.Keeping.{beginnings, begun_by}
use Rattle.keeping.proofs.Keeping.{KeptFrom, begun_by_lem}
use Rattle.pair.specs.Marks.{cleared}
use Rattle.engine.specs.declared.Engine.{Engine}
use Rattle.engine.specs.Bits.{packed}
use Rattle.engine.specs.Kept.{zeros, byte_bounds, blank, opening_reason, unless_blank, opened_with}

-- no reason at opening: both tests are true
both_true : (a b : Bool) → opening_reason a b ≡ 0 → (a ≡ true) × (b ≡ true)
both_true true true z = (refl, refl)
both_true true false z = absurd (omega arith)
both_true false b z = absurd (omega arith)

refused_by_lem : (r : ℕ) (e : Engine) → r ≢ 0 → blank r ≡ unless_blank r e
refused_by_lem zero e n = absurd (n refl)
refused_by_lem (suc r) e n = refl

module _ (st grants : List ℕ) {formed fine : Bool} (f : formed ≡ well_formed st) (l : fine ≡ grants_fine grants) {r : ℕ} (told : r ≡ opening_reason formed fine) where
  as_told : r ≡ opening_reason (well_formed st) (grants_fine grants)
  as_told = told ∙ rw (f, l)

  -- 1 or 2
  pub refused : r ≢ 0 → {e : Engine} → e ≡ blank r → e ≡ opened_with st grants
  unfolding opened_with
  refused n e = rw (sym as_told) (e ∙ refused_by_lem r _ n)

  module _ (z : r ≡ 0) where
    both : (well_formed st ≡ true) × (grants_fine grants ≡ true)
    both = both_true (well_formed st) (grants_fine grants) (sym as_told ∙ z)

    -- the state is whole
    pub is_whole : length st ≡ state_words
    is_whole = ((formed_iff st).0 (holds_of both.0)).size

    -- and the grants may be placed, where their bounds were begun
    pub may_place : {bounds : List ℕ} → bounds ≡ begun_by grants → T (grants_fine grants) × (bounds ≡ beginnings (grants_of grants))
    may_place e = (holds_of both.1, e ∙ begun_by_lem grants both.1)

    -- neither: the state and the grants are kept
    pub opened : {starts lasts numbers bounds values marked marks bytes : List ℕ} → KeptFrom grants (zeros most_grants) (zeros most_grants) (zeros most_grants) starts lasts numbers bounds
        → values ≡ take cells st → marked ≡ packed st cells (zeros 4) → marks ≡ packed (cleared st) cells (zeros 4) → bytes ≡ byte_bounds bounds
        → ◌≡◌ {A = Engine} (record {
          reason = success;
          place = 0;
          left = 0;
          under = 0;
          marks = marks;
          marked = marked;
          values = values;
          before = values;
          starts = starts;
          lasts = lasts;
          numbers = numbers;
          bounds = bytes;
        }) (opened_with st grants)
    unfolding opened_with
    opened k v o m b = rw (sym as_told, z, k.0, k.1.0, k.1.1.0, v, o, m, b, k.1.1.1)
