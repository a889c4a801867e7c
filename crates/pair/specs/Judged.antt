-- What the code judges a pair by: two values, two marks, and grants as they are kept.
-- Assumes nothing.
use Rattle.std.specs.Prelude.{Bool, cond, List, ℕ, ◌*◌, ◌<◌, ◌^◌, T, ltb, Option, None}
use Rattle.laws.specs.Tests.{implies}
use Rattle.meaning.specs.declared.Memory.TheVariants.{Only}
use Rattle.meaning.specs.Grants.{is_grant}
use Rattle.meaning.specs.State.{value_at, mark_at}
use Rattle.meaning.specs.Pair.{target_cell, location_cell, memory_named, target_of}
use Rattle.grants.specs.declared.Part.{Part}
use Rattle.grants.specs.declared.RoleGrants.{RoleGrants}
use Rattle.grants.specs.Kept.{which_in}
use Rattle.pair.specs.declared.Pair.{Pair}
use Rattle.pair.specs.Marks.{came_back, restored}

-- the pair of a state
abbrev pub pair_of : List ℕ → Pair
pair_of st =
    record {
      target = value_at st target_cell;
      marked = mark_at st target_cell;
      location = value_at st location_cell;
      located = mark_at st location_cell;
    }

-- the kept grant that admits the target's address in the memory that the location names; a value of more than 24 bits has none
unfoldable pub which_pair : List ℕ → List ℕ → List ℕ → Part → Pair → Option ℕ
which_pair starts lasts numbers part p =
    cond (ltb p.target (2 ^ 24))
    (which_in starts lasts numbers part (Only (memory_named p.located p.location)) (p.target * 256))
    None

-- the target is not marked, or there is one
unfoldable pub fine_in : List ℕ → List ℕ → List ℕ → Part → Pair → Bool
fine_in starts lasts numbers part p = implies (ltb 0 p.marked) (is_grant (which_pair starts lasts numbers part p))

-- behind a batch that was read on a state with the two marks cleared: it wrote neither cell, or the pair is fine
unfoldable pub kept_in : List ℕ → List ℕ → List ℕ → Part → ℕ → ℕ → List ℕ → Bool
kept_in starts lasts numbers part target location now =
    implies (came_back now) (fine_in starts lasts numbers part (pair_of (restored target location now)))

-- the target's address, where cell 1 is marked, is granted in memory 0: of a state, and of the copy behind a batch, where it is of an address
-- that came back
abbrev pub KnownLocal : List ℕ → List ℕ → List ℕ → Part → List ℕ → Type 0
KnownLocal starts lasts numbers part st =
    0 < mark_at st target_cell → (value_at st target_cell < 2 ^ 24) × T (is_grant (which_in starts lasts numbers part (Only 0) (target_of st)))

-- ---- the same of a role's grants as code holds them

abbrev pub which_by : RoleGrants → Pair → Option ℕ
which_by r p = which_pair r.starts.now r.lasts.now r.numbers.now r.part p

abbrev pub fine_by : RoleGrants → Pair → Bool
fine_by r p = fine_in r.starts.now r.lasts.now r.numbers.now r.part p

abbrev pub kept_by : RoleGrants → ℕ → ℕ → List ℕ → Bool
kept_by r target location now = kept_in r.starts.now r.lasts.now r.numbers.now r.part target location now

abbrev pub KnownBy : RoleGrants → List ℕ → Type 0
KnownBy r st = KnownLocal r.starts.now r.lasts.now r.numbers.now r.part st
