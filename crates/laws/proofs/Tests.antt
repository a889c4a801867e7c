-- Facts on tests.
-- Assumes nothing.
use mathlib.Core.Path.{◌≡◌, refl}
use mathlib.Core.Logic.{◌↔◌}
use mathlib.Core.Bool.{Bool, true, false, ◌||◌, beq}
use Prim.Native.Nat.{ℕ, ◌≤◌}
use lib.Dec.{T, leb}
use mir.Facts.{and_yes, yes_and, leb_yes, yes_leb}
use Rattle.laws.specs.Tests.{within, implies}

pub within_iff : (lo hi x : ℕ) → T (within lo hi x) ↔ ((lo ≤ x) × (x ≤ hi))
within_iff lo hi x = (
  λ t. let p = and_yes (leb lo x) _ t in (leb_yes p.0, leb_yes p.1),
  λ p. yes_and (leb lo x) _ (yes_leb p.0) (yes_leb p.1),
)

pub implies_iff : (a b : Bool) → T (implies a b) ↔ (T a → T b)
implies_iff true b = (λ x t. x, λ f. f tt)
implies_iff false b = (λ x t. absurd t, λ f. tt)

pub beq_iff : (a b : Bool) → T (beq a b) → T a ↔ T b
beq_iff true true t = (λ x. x, λ x. x)
beq_iff true false t = absurd t
beq_iff false true t = absurd t
beq_iff false false t = (λ x. x, λ x. x)

-- what a test comes to, from what it tells
pub true_of : (b : Bool) → T b → b ≡ true
true_of true t = refl
true_of false t = absurd t

pub false_of : (b : Bool) → ¬ T b → b ≡ false
false_of true n = absurd (n tt)
false_of false n = refl

pub holds_of : {b : Bool} → b ≡ true → T b
holds_of e = rw e tt

pub fails_of : {b : Bool} → b ≡ false → ¬ T b
fails_of e t = rw e at t

pub or_left : (a b : Bool) → T a → T (a || b)
or_left true b t = tt
or_left false b t = absurd t

pub or_right : (a b : Bool) → T b → T (a || b)
or_right true b t = tt
or_right false b t = t
