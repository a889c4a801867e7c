-- The listing in cell order, piece by piece as the lister stores it. proofs/Listing ties it to the listing.
-- Assumes nothing.
use Rattle.std.specs.Prelude.{List, [], ◌++◌, ℕ, zero, suc}
use Rattle.meaning.specs.declared.Cell.{Cell}
use Rattle.meaning.specs.Registers.{cell}
use Rattle.meaning.specs.State.{value_at, marked}
use Rattle.meaning.specs.Writer.{if_so}
use Rattle.meaning.specs.Text.{ascii}
use Rattle.meaning.specs.Lister.{decimal}

-- the lines of the marked cells among n from cell i on
unfoldable pub lines_from : (Cell → ℕ → List ℕ) → List ℕ → ℕ → ℕ → List (List ℕ)
lines_from line st i zero = []
lines_from line st i (suc n) = if_so (marked st (cell i)) (line (cell i) (value_at st (cell i))) (lines_from line st (suc i) n)

-- the first line, for so many cells
unfoldable pub head_line : ℕ → List ℕ
head_line n = ascii "cells=" ++ (decimal n ++ ascii "\n")
