-- Of the marks of a state: whether the cells below a number are marked as they may be.
-- Assumes nothing.
use Rattle.std.specs.Prelude.{ℕ, Bool, List, ◌==◌, nat_le}
use Rattle.laws.specs.Lists.{every, from}
use Rattle.laws.specs.Tests.{implies}
use Rattle.meaning.specs.Registers.{cell}
use Rattle.meaning.specs.State.{value_at, mark_at}

-- each mark of the cells below n is 0 or 1
abbrev pub marks_to : List ℕ → ℕ → Bool
marks_to st n = every (λ k. nat_le (mark_at st (cell k)) 1) (from 0 n)

-- each unmarked value of the cells below n is 0
abbrev pub clear_to : List ℕ → ℕ → Bool
clear_to st n = every (λ k. implies (mark_at st (cell k) == 0) (value_at st (cell k) == 0)) (from 0 n)
