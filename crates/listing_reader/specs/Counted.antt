-- The count in the first line, as the code reads it.
-- Assumes nothing.
use Rattle.std.specs.Prelude.{◌≡◌, cond, List, ℕ, ◌-◌, ◌≤◌, length, drop, Option, Some, None}
use Rattle.laws.specs.Tests.{within}
use Rattle.meaning.specs.Registers.{cells}
use Rattle.meaning.specs.ListingReader.{table_lines, further, read_lines, read_first}

-- what a byte counts as a decimal digit, if it is one
unfoldable pub decimal_digit : ℕ → Option ℕ
decimal_digit x = cond (within 48 57 x) (Some (x - 48)) None

-- the count from `start` on, and where the lines behind it begin
pub record Counted (text : List ℕ) (start at count : ℕ) : Type 0 where
  pub inside : at ≤ length text
  pub few : count ≤ cells
  pub goes : further start (read_first (drop start text)) ≡ further at (read_lines table_lines count (drop at text))
