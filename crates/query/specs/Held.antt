-- What a register other than the target's holds, by the role of its addresses.
-- Assumes nothing.
use Rattle.std.specs.Prelude.{Option, Some, None, ℕ}
use Rattle.meaning.specs.Registers.{Content, nothing, scaled}

-- nothing, where there is no such role
abbrev pub held_as : Option ℕ → ℕ → Content
held_as None v = nothing
held_as (Some role) v = scaled role v
