-- The first cell of a sample; and the cell that is told of a judged value.
-- Assumes nothing.
use mathlib.Core.Path.{◌≡◌, refl, sym, ◌∙◌}
use Prim.Native.Nat.{ℕ, ◌+◌, ◌*◌, ◌<◌}
use native.Mathlib.Omega.{arith}
use Rattle.std.specs.Prelude.{Option, Some, None}
use Rattle.meaning.specs.declared.Cell.{Cell}
use Rattle.meaning.specs.Grants.{Terms}
use Rattle.headers.specs.declared.Group.{Group}
use Rattle.headers.specs.declared.Group.TheVariants.{Sample}
use Rattle.headers.specs.Told.{IsGroup, target, stage, sample}
use Rattle.judging.specs.Judged.{reason_for, cell_for}

-- of 16 samples, three cells each
Based : Group → Type 0
Based (Sample c) = (n : ℕ) × (n < 16) × (c.0 ≡ 36 + 3 * n)
Based G = Unit {0}

pub sample_base : {c : Cell} → IsGroup (Sample c) → (n : ℕ) × (n < 16) × (c.0 ≡ 36 + 3 * n)
unfolding Based
sample_base {c} i = based (Sample c) i
  where
    based : (G : Group) → IsGroup G → Based G
    based _ target = tt
    based _ (stage n h) = tt
    based _ (sample n h) = (n, h, refl)

-- where nothing speaks against a value, the cell is the one that was found
pub cell_judged : (g : Terms) (v : ℕ) (f : Option Cell) {r : ℕ} {c : Cell} → r ≡ reason_for g f v → c ≡ cell_for f → r ≡ 0 → f ≡ Some c
cell_judged g v (Some c) e at z = rw at
cell_judged g v None e at z = absurd (omega (arith, sym e ∙ z))
