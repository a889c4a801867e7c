-- The query: which grant admits the address in a cell.
-- P9 "The query takes a state, a grant list and a number, and tells which grant admits the address in the cell of that number."
-- Assumes nothing.
use Rattle.std.specs.Prelude.{◌&&◌, cond, List, ℕ, ltb, Option, Some, None}
use Rattle.meaning.specs.declared.Cell.{Cell}
use Rattle.meaning.specs.declared.Memory.{Memory}
use Rattle.meaning.specs.Registers.{cells, Content, nothing, address, register_at}
use Rattle.meaning.specs.Grants.{Terms, terms_of, most_grants, which, grants_fine}
use Rattle.meaning.specs.State.{value_at, marked, well_formed}
use Rattle.meaning.specs.Pair.{looked_at}
use Rattle.meaning.specs.Answers.{Answer, bad_state, bad_grants, success, answer, provided}

-- the grant that admits what a value holds: Q2 "the register holds no address"
abbrev pub which_held : Terms → Memory → Content → Option ℕ
which_held g m nothing = None
which_held g m (address role a) = which g.grants m role a

-- Q3 "The address alone is looked at": the grant that admits what a value holds in a cell's register. Q4 "A value of 2^24 or more in cell 1
-- holds an address that no grant admits", since it is not below 2^32, and by G4 every grant ends there
abbrev pub which_stored : Terms → Memory → Cell → ℕ → Option ℕ
which_stored g m c v = which_held g m ((register_at c).holds v)

-- Q2 "No grant is told if there is no such cell, the cell is not marked": of a state and any number
unfoldable pub which_at : Terms → List ℕ → Cell → Option ℕ
which_at g st c = cond (ltb c.0 cells && marked st c) (which_stored g (looked_at st c) c (value_at st c)) None

-- Q1 "the number of the grant, or 64 if no grant is told": no grant has that number
abbrev pub place_of : Option ℕ → ℕ
place_of (Some n) = n
place_of None = most_grants

-- Q1 "The query gives 1, then 2, as the reader does. Else it answers 0": of state and grants as they were handed in
unfoldable pub query_answer : List ℕ → List ℕ → Cell → Answer
query_answer st grants c =
    provided (well_formed st) bad_state (provided (grants_fine grants) bad_grants (answer success (place_of (which_at (terms_of grants) st c))))
