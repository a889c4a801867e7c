-- The cells that sections without an address begin with.
-- Assumes nothing.
use Rattle.std.specs.Prelude.{◌≡◌, ℕ, ◌+◌, ◌*◌, ◌<◌}

-- the first cell of a stage
abbrev pub IsStage : ℕ → Type 0
IsStage c = (n : ℕ) × (n < 16) × (c ≡ 4 + 2 * n)

-- and of a sample
abbrev pub IsSample : ℕ → Type 0
IsSample c = (n : ℕ) × (n < 16) × (c ≡ 36 + 3 * n)
