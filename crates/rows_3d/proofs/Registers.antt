-- The registers at the cells that the functions are for: each row of the table has its own (meaning/proofs/Table).
-- Assumes nothing.
use mathlib.Core.Path.{◌≡◌, subst}
use mathlib.Core.Bool.{Bool}
use mathlib.Core.List.{map}
use Prim.Native.Nat.{ℕ, zero, suc, ◌+◌, ◌*◌, ◌-◌, ◌/◌, ◌≤◌, ◌<◌}
use native.Mathlib.Omega.{arith}
use native.Mathlib.Decide.{ℕ_discrete}
use Rattle.laws.specs.Lists.{All, from}
use Rattle.laws.proofs.Lists.{all_split, one_of_two}
use Rattle.meaning.specs.Registers.{cell, no_address, any, alpha_constants, location, format_byte, levels, filters, mapping, Section, of_3d, target_group, stage, sample, stage_section, sample_section, sections_3d, sections_video, sections, register_at}
use Rattle.meaning.specs.Grants.{Terms}
use Rattle.meaning.specs.Reader.{value_reason}
use Rattle.meaning.proofs.Columns.{Has, columns}
use Rattle.meaning.proofs.Table.{OwnIn, own_registers}

-- the table has for each cell of a section the row's own register
abbrev Owned : Section → Type 0
Owned = OwnIn register_at

-- what holds of each of sections that are numbered holds of the one with a number
by_number : (f : ℕ → Section) (i n : ℕ) → All Owned (map f (from i n)) → (j : ℕ) → i ≤ j → j < i + n → Owned (f j)
unfolding from
by_number f i zero a j l h = absurd (omega arith)
by_number f i (suc n) a j l h =
    elim (ℕ_discrete i j) [
      | yes e ↦ subst (λ (k : ℕ). Owned (f k)) e a.0
      | no e ↦ by_number f (suc i) n a.1 j (omega arith) (omega arith)
    ]

owned : All Owned sections_3d
unfolding sections
owned = (all_split Owned sections_3d sections_video own_registers).0

series : All Owned (map stage_section (from 0 16)) × All Owned (map sample_section (from 0 16))
series = all_split Owned (map stage_section (from 0 16)) (map sample_section (from 0 16)) owned.1

pub own_target : Owned (of_3d target_group)
own_target = owned.0

-- both registers of every stage are alike
pub at_stage : (c : ℕ) → 4 ≤ c → c < 36 → Has (record { width = 24; clear = 0xFF0000; values = any; holds = no_address }) c
unfolding stage
at_stage c low high =
    let n : ℕ = (c - 4) / 2 in
    let rows : Owned (stage_section n) = by_number stage_section 0 16 series.0 n (omega arith) (omega arith) in
    one_of_two (Has _) (4 + 2 * n) (5 + 2 * n) c rows.0 rows.1.0 (omega arith) (omega arith) (omega arith)

pub own_sample : (n : ℕ) → n < 16 → Owned (sample_section n)
own_sample n h = by_number sample_section 0 16 series.1 n (omega arith) (omega arith)

-- ---- what the rows without an address ask of a value

-- a cell's register asks for a mask and a rule
abbrev Asks : Terms → ℕ → ℕ → ℕ → (ℕ → Bool) → Type 0
Asks g v c mask rule = value_reason g (register_at (cell c)) v ≡ columns g (record { width = 24; clear = mask; values = rule; holds = no_address }) v

module _ (g : Terms) (v : ℕ) where
  pub alpha_constants_row : Asks g v 0 0x800800 alpha_constants
  unfolding value_reason target_group
  alpha_constants_row = rw own_target.0

  pub location_row : Asks g v 2 0x0FFFFF location
  unfolding value_reason target_group
  location_row = rw own_target.1.1.0

  pub format_row : Asks g v 3 0x006FFF format_byte
  unfolding value_reason target_group
  format_row = rw own_target.1.1.1.0

  pub stage_row : (c : ℕ) → 4 ≤ c → c < 36 → Asks g v c 0xFF0000 any
  unfolding value_reason
  stage_row c low high = rw (at_stage c low high)

  module _ (n : ℕ) (h : n < 16) where
    pub levels_row : Asks g v (36 + 3 * n) 0xC00000 levels
    unfolding value_reason sample
    levels_row = rw (own_sample n h).0

    pub filters_row : Asks g v (37 + 3 * n) 0xE00000 filters
    unfolding value_reason sample
    filters_row = rw (own_sample n h).1.0

    pub mapping_row : Asks g v (38 + 3 * n) 0xC0FE00 mapping
    unfolding value_reason sample
    mapping_row = rw (own_sample n h).1.1.0

pub ruleset rows = (alpha_constants_row, location_row, format_row, stage_row, levels_row, filters_row, mapping_row)
