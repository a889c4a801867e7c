-- The two scalers: their cells, their roles and their grants.
-- Assumes nothing.
use mathlib.Core.Path.{◌≡◌, refl}
use mathlib.Core.List.{List}
use Prim.Native.Nat.{ℕ, zero, suc, ◌+◌, ◌*◌, ◌≤◌, ◌<◌}
use native.Mathlib.Omega.{arith}
use Rattle.meaning.specs.Registers.{cells, first_video}
use Rattle.meaning.specs.Grants.{Terms}
use Rattle.grants.specs.Kept.{Granting, Keeps, part_of}
use Rattle.rows_video.specs.Scalers.{Scaler, first, second, IsScaler}

-- they stand one behind the other, in the order of their roles
pub scaler_at_lem : (n : ℕ) {c role : ℕ} → n < 2 → c ≡ 87 + 7 * n → role ≡ 2 + n → Scaler c role
scaler_at_lem n h e f = rw (e, f) (number n h)
  where
    number : (n : ℕ) → n < 2 → Scaler (87 + 7 * n) (2 + n)
    number zero h = first
    number (suc zero) h = second
    number (suc (suc n)) h = absurd (omega arith)

pub the_scaler : {c : ℕ} (s : IsScaler c) → Scaler c (2 + s.0)
the_scaler s = scaler_at_lem s.0 s.1 s.2 refl

pub is_scaler : {c role : ℕ} → Scaler c role → IsScaler c
is_scaler first = (0, omega arith, refl)
is_scaler second = (1, omega arith, refl)

-- their registers are video registers of the table
pub scaler_cells : {c role : ℕ} → Scaler c role → (first_video ≤ c) × (c + 7 ≤ cells)
scaler_cells first = (omega arith, omega arith)
scaler_cells second = (omega arith, omega arith)

pub scaler_role : {c role : ℕ} → Scaler c role → role < 4
scaler_role first = omega arith
scaler_role second = omega arith

-- the grants of a scaler's role are kept in that role's part
pub scaler_granted : (g : Terms) (starts lasts bounds : List ℕ) {c role : ℕ} → Scaler c role → Keeps g starts lasts bounds → Granting g role starts lasts (part_of bounds role)
scaler_granted g starts lasts bounds first k = k.firsts
scaler_granted g starts lasts bounds second k = k.seconds
