-- What is told of a value for a register that was found, or for none.
-- Assumes nothing.
use Rattle.std.specs.Prelude.{Option, Some, None, ℕ}
use Rattle.meaning.specs.declared.Cell.{Cell}
use Rattle.meaning.specs.Registers.{cell}
use Rattle.meaning.specs.Grants.{Terms}
use Rattle.meaning.specs.Answers.{no_register}
use Rattle.meaning.specs.Reader.{found_reason}

-- 7, 8 and 9 of the register; 6 where there is none
abbrev pub reason_for : Terms → Option Cell → ℕ → ℕ
reason_for g f v = found_reason g no_register f v

-- and its cell
abbrev pub cell_for : Option Cell → Cell
cell_for (Some c) = c
cell_for None = cell 0
