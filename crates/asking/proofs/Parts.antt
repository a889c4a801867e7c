-- A role's part of the grants, by bounds that may be any bytes.
-- Assumes nothing.
use Rattle.meaning.specs.Grants.{Terms}
use Rattle.grants.specs.declared.RoleGrants.{RoleGrants}
use Rattle.grants.specs.Kept.{Keeps}
use Rattle.grants.specs.Held.{IsRole}
use Rattle.rows_video.specs.Scalers.{Scaler, first, second}
use Rattle.asking.specs.declared.Stored.{Stored}
use Rattle.asking.specs.Asked.{capped}
use Rattle.asking.specs.Told.{OfRole}
use Prim.Native.Nat.{ℕ}

module _ (g : Terms) (s : Stored) (k : Keeps g s.starts.now s.lasts.now (capped s.bounds.now)) {r : RoleGrants} where
  -- the target's grants are kept in that role's part,
  pub target_part : OfRole s 1 r → IsRole g 1 r
  unfolding capped
  target_part own = rw (own.starts, own.lasts, own.part) k.targets

  -- and so are a scaler's
  pub scaler_part : {c role : ℕ} → Scaler c role → OfRole s role r → IsRole g role r
  unfolding capped
  scaler_part first own = rw (own.starts, own.lasts, own.part) k.firsts
  scaler_part second own = rw (own.starts, own.lasts, own.part) k.seconds
