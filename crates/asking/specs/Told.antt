-- What code tells of a word, as definitions have it; and a role's part of what an engine keeps.
-- Assumes nothing.
use Rattle.std.specs.Prelude.{◌≡◌, ℕ, Result, Ok, Err}
use Rattle.meaning.specs.declared.Reason.{Reason}
use Rattle.meaning.specs.Answers.{number}
use Rattle.grants.specs.declared.RoleGrants.{RoleGrants}
use Rattle.asking.specs.declared.Taken.{Taken}
use Rattle.asking.specs.declared.Stored.{Stored}
use Rattle.asking.specs.Asked.{Asked, part_in, stopped, taken_as}

-- a word that is taken
abbrev pub taken_of : Taken → Asked
taken_of n = taken_as n.left n.under n.cell n.value

-- and any word
abbrev pub asked_as : Result Taken Reason → Asked
asked_as (Ok n) = taken_of n
asked_as (Err r) = stopped (number r)

-- those of a role
pub record OfRole (s : Stored) (role : ℕ) (r : RoleGrants) : Type 0 where
  pub starts : r.starts ≡ s.starts
  pub lasts : r.lasts ≡ s.lasts
  pub numbers : r.numbers ≡ s.numbers
  pub part : r.part ≡ part_in s.bounds.now role
