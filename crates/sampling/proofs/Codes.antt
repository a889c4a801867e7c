-- The tests of the value rules: a row of them, `a && (b && ..)`, from early returns.
-- Assumes nothing.
use mathlib.Core.Path.{◌≡◌}
use mathlib.Core.Bool.{Bool, true, false, ◌&&◌}
use borrow.Author.Tests.{le-leb, lt-leb}
use Rattle.laws.proofs.Arms.{told_true, told_false}

-- past a test that holds, the rest decides
pub onward : {a s rest : Bool} → s ≡ true → a ≡ rest → a ≡ (s && rest)
onward h e = rw h e

-- a test that fails decides
pub ended : {s : Bool} (rest : Bool) → s ≡ false → false ≡ (s && rest)
ended rest h = rw h

-- for `search`: each return of such a function
pub ruleset row = (onward, ended, told_true, told_false, le-leb, lt-leb)
