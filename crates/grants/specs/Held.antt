-- Kept grants as code holds them, in one value: of all roles, and of one.
-- Assumes nothing.
use Rattle.std.specs.Prelude.{◌≡◌, Option, ℕ}
use Rattle.meaning.specs.declared.Memory.{Memory}
use Rattle.meaning.specs.Grants.{Terms}
use Rattle.grants.specs.declared.Kept.{Kept}
use Rattle.grants.specs.declared.RoleGrants.{RoleGrants}
use Rattle.grants.specs.Kept.{Granting, Keeps, Names, which_in, part_of}

-- they cover what a role is granted
abbrev pub IsRole : Terms → ℕ → RoleGrants → Type 0
IsRole g role r = Granting g role r.starts.now r.lasts.now r.part

-- they keep what a grant list grants
abbrev pub IsKept : Terms → Kept → Type 0
IsKept g k = Keeps g k.starts.now k.lasts.now k.bounds.now

-- so that the test names the grant that admits an address
abbrev pub IsNamed : Terms → Kept → Type 0
IsNamed g k = Names g k.starts.now k.lasts.now k.numbers.now k.bounds.now

-- the grant that the test names
abbrev pub which_of : RoleGrants → Memory → ℕ → Option ℕ
which_of r m a = which_in r.starts.now r.lasts.now r.numbers.now r.part m a

-- those of a role
pub record OfRole (k : Kept) (role : ℕ) (r : RoleGrants) : Type 0 where
  pub starts : r.starts ≡ k.starts
  pub lasts : r.lasts ≡ k.lasts
  pub numbers : r.numbers ≡ k.numbers
  pub part : r.part ≡ part_of k.bounds.now role
