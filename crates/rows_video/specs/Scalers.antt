-- What the contracts say beside the table: the two scalers, and their registers that hold an address.
-- Assumes nothing.
use Rattle.std.specs.Prelude.{◌≡◌, ℕ, ◌+◌, ◌*◌, ◌<◌}
use Rattle.meaning.specs.Registers.{Register, memory_location, scaled}

-- a scaler: the cell of its first register, and the role of its addresses
pub data Scaler : ℕ → ℕ → Type 0 where
  first : Scaler 87 2
  second : Scaler 94 3

-- some scaler has its first register there: they stand one behind the other
abbrev pub IsScaler : ℕ → Type 0
IsScaler c = (n : ℕ) × (n < 2) × (c ≡ 87 + 7 * n)

-- a register with a mask that holds an address of the role
abbrev pub address_register : ℕ → ℕ → Register
address_register role m = record { width = 32; clear = m; values = memory_location; holds = scaled role }
