-- What kept grants grant: they stand by role, each as the first and the last address that it covers, with its number and its memory.
-- Assumes nothing.
use Rattle.std.specs.Prelude.{◌≡◌, Bool, true, false, ◌&&◌, ◌||◌, cond, List, ℕ, zero, suc, ◌+◌, ◌*◌, ◌-◌, ◌/◌, ◌%◌, ◌≤◌, ◌<◌, leb, eqb, get_or, Option, Some, None}
use Rattle.meaning.specs.declared.Memory.{Memory}
use Rattle.meaning.specs.declared.Memory.TheVariants.{Either, Only}
use Rattle.meaning.specs.Grants.{Terms, most_grants, granted, which}
use Rattle.grants.specs.declared.Part.{Part}

-- ---- the byte that bears a grant's number and its memory

-- both in one
abbrev pub bearing : ℕ → ℕ → ℕ
bearing number memory = number + 64 * memory

-- the number
abbrev pub number_in : ℕ → ℕ
number_in byte = byte % 64

-- it is in the memory that is asked about
abbrev pub lies_as : Memory → ℕ → Bool
lies_as Either byte = true
lies_as (Only m) byte = eqb (byte / 64) m

-- ---- kept grants

-- kept grant number i spans the address,
unfoldable pub spans_at : List ℕ → List ℕ → ℕ → ℕ → Bool
spans_at starts lasts i a = leb (get_or starts i 0) a && leb a (get_or lasts i 0)

-- one of the n kept grants from number i on does,
unfoldable pub covered_from : List ℕ → List ℕ → ℕ → ℕ → ℕ → Bool
covered_from starts lasts i zero a = false
covered_from starts lasts i (suc n) a = let more = covered_from starts lasts (suc i) n a in spans_at starts lasts i a || more

-- one of a part does
abbrev pub covered_in : List ℕ → List ℕ → Part → ℕ → Bool
covered_in starts lasts part a = covered_from starts lasts part.from (part.to - part.from) a

-- it spans the address, and is in the memory
unfoldable pub covers_at : List ℕ → List ℕ → List ℕ → ℕ → Memory → ℕ → Bool
covers_at starts lasts numbers i m a = spans_at starts lasts i a && lies_as m (get_or numbers i 0)

-- the number of the first of the n kept grants from number i on that does
unfoldable pub which_kept : List ℕ → List ℕ → List ℕ → ℕ → ℕ → Memory → ℕ → Option ℕ
which_kept starts lasts numbers i zero m a = None
which_kept starts lasts numbers i (suc n) m a =
    let more = which_kept starts lasts numbers (suc i) n m a in
    cond (covers_at starts lasts numbers i m a) (Some (number_in (get_or numbers i 0))) more

-- the first of a part
abbrev pub which_in : List ℕ → List ℕ → List ℕ → Part → Memory → ℕ → Option ℕ
which_in starts lasts numbers part m a = which_kept starts lasts numbers part.from (part.to - part.from) m a

-- the part of a role
abbrev pub part_of : List ℕ → ℕ → Part
part_of bounds role = record { from = get_or bounds role 0; to = get_or bounds (4 + role) 0 }

-- no part reaches past the room there is
abbrev pub Bounded : List ℕ → Type 0
Bounded bounds = (role : ℕ) → role < 4 → (part_of bounds role).to ≤ most_grants

-- a part covers what a role is granted
abbrev pub Granting : Terms → ℕ → List ℕ → List ℕ → Part → Type 0
Granting g role starts lasts part = (a : ℕ) → granted g.grants Either role a ≡ covered_in starts lasts part a

-- what is kept keeps what a grant list grants, each role in its part. For this the numbers do not matter
pub record Keeps (g : Terms) (starts lasts bounds : List ℕ) : Type 0 where
  pub targets : Granting g 1 starts lasts (part_of bounds 1)
  pub firsts : Granting g 2 starts lasts (part_of bounds 2)
  pub seconds : Granting g 3 starts lasts (part_of bounds 3)

-- THE RELATION: it keeps the list, so that the test names the grant that admits an address, in whichever memory and in each
abbrev pub Names : Terms → List ℕ → List ℕ → List ℕ → List ℕ → Type 0
Names g starts lasts numbers bounds =
    (m : Memory) (role : ℕ) → 1 ≤ role → role < 4 → (a : ℕ) → which g.grants m role a ≡ which_in starts lasts numbers (part_of bounds role) m a
