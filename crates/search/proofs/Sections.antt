-- The rows of the cells of a section.
-- Assumes nothing.
use mathlib.Core.Path.{◌≡◌, refl, subst}
use Prim.Native.Nat.{ℕ, ◌+◌, ◌*◌}
use native.Mathlib.Omega.{arith}
use Rattle.meaning.specs.Grants.{Terms}
use Rattle.grants.specs.declared.Kept.{Kept}
use Rattle.grants.specs.declared.RoleGrants.{RoleGrants}
use Rattle.grants.specs.Kept.{Granting, part_of}
use Rattle.grants.specs.Held.{IsRole, OfRole}
use Rattle.cells.specs.declared.Row.TheVariants as rows
use Rattle.cells.specs.Rows.{RowOf, levels, filters, mapping, stage}
use Rattle.search.specs.Search.{IsStage, IsSample}

pub stage_rows : (c : ℕ) → IsStage c → RowOf rows.Stage c 0 × RowOf rows.Stage (c + 1) 0
stage_rows c s = let low = s.1 in let e = s.2 in (stage c (omega arith) (omega arith), stage (c + 1) (omega arith) (omega arith))

pub sample_rows : (c : ℕ) → IsSample c → RowOf rows.Levels c 0 × RowOf rows.Filters (c + 1) 0 × RowOf rows.Mapping (c + 2) 0
sample_rows c s =
    let n = s.0 in
    let e = s.2 in
    let e1 : 37 + 3 * n ≡ c + 1 = omega arith in
    let e2 : 38 + 3 * n ≡ c + 2 = omega arith in
    (rw e (levels n s.1), subst (λ k. RowOf rows.Filters k 0) e1 (filters n s.1), subst (λ k. RowOf rows.Mapping k 0) e2 (mapping n s.1))

-- those of a role, of grants that are kept
pub of_role_lem : (g : Terms) {role : ℕ} {k : Kept} {r : RoleGrants} → OfRole k role r → Granting g role k.starts.now k.lasts.now (part_of k.bounds.now role) → IsRole g role r
of_role_lem g its granting = rw (its.starts, its.lasts, its.part) granting

-- a cell without an address is granted whatever is
pub no_address_lem : {A : Type 0} → (◌≡◌ {A = ℕ} 0 0 → ⊥) → A
no_address_lem n = absurd (n refl)
