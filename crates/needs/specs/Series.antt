-- The words of groups of equal size that follow one another.
-- Assumes nothing.
use Rattle.std.specs.Prelude.{Bool, ℕ, zero, suc, ◌+◌, ◌*◌}
use Rattle.meaning.specs.declared.Cell.{Cell}
use Rattle.meaning.specs.State.{count_in}
use Rattle.meaning.specs.Writer.{packet_need}

-- of n of them from number i on: the first group of all begins at cell `first`, and each has so many rows
unfoldable pub series_need : (Cell → Bool) → ℕ → ℕ → ℕ → ℕ → ℕ
series_need chosen first rows i zero = 0
series_need chosen first rows i (suc n) = packet_need (count_in chosen (first + rows * i) rows) + series_need chosen first rows (suc i) n
