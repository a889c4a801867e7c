-- The rows that the code tells apart, and the cells of each.
-- Assumes nothing.
use Rattle.std.specs.Prelude.{Bool, true, false, ◌&&◌, ◌||◌, ℕ, ◌+◌, ◌*◌, ◌≤◌, ◌<◌, eqb}
use Rattle.rows_video.specs.Scalers.{Scaler}
use Rattle.cells.specs.declared.Row.{Row}
use Rattle.cells.specs.declared.Row.TheVariants as rows

-- a cell of a row, and the role of the address that its register holds, 0 where it holds none
pub data RowOf : Row → ℕ → ℕ → Type 0 where
  alpha_constants_row : RowOf rows.AlphaConstants 0 0
  target_address : RowOf rows.TargetAddress 1 1
  location : RowOf rows.Location 2 0
  format : RowOf rows.Format 3 0
  stage : (c : ℕ) → 4 ≤ c → c < 36 → RowOf rows.Stage c 0
  levels : (n : ℕ) → n < 16 → RowOf rows.Levels (36 + 3 * n) 0
  filters : (n : ℕ) → n < 16 → RowOf rows.Filters (37 + 3 * n) 0
  mapping : (n : ℕ) → n < 16 → RowOf rows.Mapping (38 + 3 * n) 0
  overlay : (c : ℕ) → 84 ≤ c → c < 86 → RowOf rows.Overlay c 0
  alpha_select_row : RowOf rows.AlphaSelect 86 0
  deinterlace : (c role : ℕ) → Scaler c role → RowOf rows.Deinterlace c 0
  sub_picture : (c role : ℕ) → Scaler c role → RowOf rows.SubPicture (c + 1) 0
  first_address : (c role : ℕ) → Scaler c role → RowOf rows.FirstAddress (c + 2) role
  second_address : (c role : ℕ) → Scaler c role → RowOf rows.Address (c + 3) role
  destination_stride : (c role : ℕ) → Scaler c role → RowOf rows.DestinationStride (c + 4) 0
  source_stride : (c role : ℕ) → Scaler c role → RowOf rows.SourceStride (c + 5) 0
  third_address : (c role : ℕ) → Scaler c role → RowOf rows.Address (c + 6) role

-- the cell is one of the row
abbrev pub IsRow : Row → ℕ → Type 0
IsRow row c = (role : ℕ) × RowOf row c role

-- nothing speaks against 0 there, whatever is granted
unfoldable pub takes_zero : Row → Bool
takes_zero rows.AlphaConstants = true
takes_zero rows.TargetAddress = false
takes_zero rows.Location = true
takes_zero rows.Format = false
takes_zero rows.Stage = true
takes_zero rows.Levels = true
takes_zero rows.Filters = true
takes_zero rows.Mapping = true
takes_zero rows.Overlay = true
takes_zero rows.AlphaSelect = true
takes_zero rows.Deinterlace = true
takes_zero rows.SubPicture = true
takes_zero rows.FirstAddress = false
takes_zero rows.Address = false
takes_zero rows.DestinationStride = true
takes_zero rows.SourceStride = true

-- how many bits its registers have
unfoldable pub width_of : Row → ℕ
width_of rows.AlphaConstants = 24
width_of rows.TargetAddress = 24
width_of rows.Location = 24
width_of rows.Format = 24
width_of rows.Stage = 24
width_of rows.Levels = 24
width_of rows.Filters = 24
width_of rows.Mapping = 24
width_of rows.Overlay = 32
width_of rows.AlphaSelect = 32
width_of rows.Deinterlace = 32
width_of rows.SubPicture = 32
width_of rows.FirstAddress = 32
width_of rows.Address = 32
width_of rows.DestinationStride = 32
width_of rows.SourceStride = 32

-- a value that needs no further look, in a cell with a mark
abbrev pub vacant_in : Row → ℕ → ℕ → Bool
vacant_in row v mark = eqb v 0 && (takes_zero row || eqb mark 0)
