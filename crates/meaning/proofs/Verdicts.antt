-- A reason that is 0 is what is permitted: of a value, of a word that a register is found for.
-- Assumes nothing.
use Rattle.meaning.specs.declared.Cell.{Cell}
use Rattle.std.specs.Prelude.{Option, Some, None}
use mathlib.Core.Path.{◌≡◌, refl}
use mathlib.Core.Logic.{◌↔◌}
use mathlib.Core.Bool.{Bool, true, false}
use Prim.Native.Nat.{ℕ, ◌<◌}
use native.Mathlib.Omega.{arith}
use lib.Dec.{T, eqb, lit<}
use lib.Bits.{bit_and}
use mir.Facts.{eqb_yes, yes_eqb}
use Rattle.meaning.specs.Registers.{Register, is_found, register_at}
use Rattle.meaning.specs.Grants.{Terms}
use Rattle.meaning.specs.Batch.{reaches, Fits, Stands}
use Rattle.meaning.specs.Reader.{unless, value_reason, found_reason}

-- each test of a reader's word: 0 exactly if the test is true and what comes after it is 0
pub unless_fine : (b : Bool) (r : ℕ) {v : ℕ} → 0 < r → (unless b r v ≡ 0) ↔ (T b × (v ≡ 0))
unfolding unless
unless_fine true r l = (λ e. (tt, e), λ p. p.1)
unless_fine false r l = (λ e. absurd (omega arith), λ p. absurd p.0)

pub fits_fine : (g : Terms) (r : Register) (v : ℕ) → Fits g r v ↔ (value_reason g r v ≡ 0)
unfolding value_reason
fits_fine g r v =
    let clear = unless_fine (eqb (bit_and v r.clear) 0) 7 (lit< tt) in
    let value = unless_fine (r.values v) 8 (lit< tt) in
    let grant = unless_fine (reaches g (r.holds v)) 9 (lit< tt) in (
      λ f. clear.1 (yes_eqb f.clear, value.1 (f.value, grant.1 (f.granted, refl))),
      λ e. let p = clear.0 e in let q = value.0 p.1 in
          record { clear = eqb_yes p.0; value = q.0; granted = (grant.0 q.1).0 },
    )

pub stands_fine : (g : Terms) (none : ℕ) (f : Option Cell) (v : ℕ) → 0 < none → Stands g f v ↔ (found_reason g none f v ≡ 0)
stands_fine g none (Some c) v l = fits_fine g (register_at c) v
stands_fine g none None v l = (λ x. absurd x, λ e. absurd (omega arith))

-- what stands somewhere has a register
pub stands_found : (g : Terms) (f : Option Cell) (v : ℕ) → Stands g f v → T (is_found f)
stands_found g (Some c) v x = tt
stands_found g None v x = absurd x
