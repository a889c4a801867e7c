-- The registers at the cells that the functions are for: each row of the table has its own (meaning/proofs/Table).
-- Assumes nothing.
use mathlib.Core.Path.{◌≡◌}
use mathlib.Core.Bool.{Bool}
use Prim.Native.Nat.{ℕ, ◌+◌, ◌≤◌, ◌<◌}
use native.Mathlib.Omega.{arith}
use Rattle.laws.specs.Lists.{All}
use Rattle.laws.proofs.Lists.{all_split, one_of_two}
use Rattle.meaning.specs.Registers.{cell, any, no_address, alpha_select, Row, overlay, scaler, sections_3d, sections_video, sections, register_at}
use Rattle.meaning.specs.Grants.{Terms}
use Rattle.meaning.specs.Reader.{value_reason}
use Rattle.meaning.proofs.Columns.{Has, columns}
use Rattle.meaning.proofs.Table.{OwnIn, own_registers}
use Rattle.rows_video.specs.Scalers.{Scaler, first, second}

-- the table has for a row's cell the row's own register
abbrev pub Own : {Name : Type 0} → Row Name → Type 0
Own r = register_at r.cell ≡ r.register

owned : All (OwnIn register_at) sections_video
unfolding sections
owned = (all_split (OwnIn register_at) sections_3d sections_video own_registers).1

-- 84 and 85 are alike
pub at_overlay : (c : ℕ) → 84 ≤ c → c < 86 → Has (record { width = 32; clear = 0xF800F800; values = any; holds = no_address }) c
unfolding overlay
at_overlay c low high = one_of_two (Has _) 84 85 c owned.0.0 owned.0.1.0 (omega arith) low high

pub at_alpha_select : Has (record { width = 32; clear = 0xFFE000FC; values = alpha_select; holds = no_address }) 86
unfolding overlay
at_alpha_select = owned.0.1.1.0

-- of either scaler; its offsets play no part here
pub own_scaler : (c role : ℕ) → Scaler c role → All Own (scaler c 0 role)
unfolding scaler
own_scaler _ _ first = owned.1.0
own_scaler _ _ second = owned.1.1.0

-- ---- what the rows without an address ask of a value

-- a cell's register asks for a mask and a rule
abbrev Asks : Terms → ℕ → ℕ → ℕ → (ℕ → Bool) → Type 0
Asks g v c mask rule = value_reason g (register_at (cell c)) v ≡ columns g (record { width = 32; clear = mask; values = rule; holds = no_address }) v

module _ (g : Terms) (v : ℕ) where
  pub overlay_row : (c : ℕ) → 84 ≤ c → c < 86 → Asks g v c 0xF800F800 any
  unfolding value_reason
  overlay_row c low high = rw (at_overlay c low high)

  pub alpha_select_row : Asks g v 86 0xFFE000FC alpha_select
  unfolding value_reason
  alpha_select_row = rw at_alpha_select

  module _ (c role : ℕ) (s : Scaler c role) where
    pub deinterlace_row : Asks g v c 0x76FFE0FE any
    unfolding value_reason scaler
    deinterlace_row = rw (own_scaler c role s).0

    pub sub_picture_row : Asks g v (c + 1) 0x6FFE0000 any
    unfolding value_reason scaler
    sub_picture_row = rw (own_scaler c role s).1.0

    pub destination_stride_row : Asks g v (c + 4) 0xFFFFC00F any
    unfolding value_reason scaler
    destination_stride_row = rw (own_scaler c role s).1.1.1.1.0

    pub source_stride_row : Asks g v (c + 5) 0x0DECC00F any
    unfolding value_reason scaler
    source_stride_row = rw (own_scaler c role s).1.1.1.1.1.0

pub ruleset rows = (overlay_row, alpha_select_row, deinterlace_row, sub_picture_row, destination_stride_row, source_stride_row)
