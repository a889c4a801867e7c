-- How the grants of a list come to be kept: each at the end of its role's part, in the order of the list, with its number there and its
-- memory.
-- Assumes nothing.
use Rattle.std.specs.Prelude.{◌≡◌, true, cond, List, [], ◌∷◌, ℕ, suc, ◌+◌, ◌-◌, ◌<◌, leb, eqb, get_or, set}
use Rattle.meaning.specs.Grants.{Grant, grants_of, grants_fine}
use Rattle.grants.specs.Kept.{bearing}
use Rattle.keeping.specs.declared.Grant.{Grant as Read}

-- the whole of it
pub record Kept : Type 0 where
  pub starts : List ℕ
  pub lasts : List ℕ
  pub numbers : List ℕ
  pub bounds : List ℕ

-- a kept grant in memory 1 is noted of the list, where role 0 would have its end
unfoldable pub noted : ℕ → List ℕ → List ℕ
noted memory bounds = cond (eqb memory 0) bounds (set bounds 4 1)

-- grant number n at the end of its role's part; one whose reach is more than its length covers no address, and is left out
unfoldable pub place : ℕ → Grant → Kept → Kept
place n g k =
    let at = get_or k.bounds (4 + g.role) 0 in
    cond (leb g.reach g.length)
    (record {
      starts = set k.starts at g.start;
      lasts = set k.lasts at (g.start + (g.length - g.reach));
      numbers = set k.numbers at (bearing n g.memory);
      bounds = noted g.memory (set k.bounds (4 + g.role) (at + 1));
    })
    k

-- one grant after another, from number n on
unfoldable pub place_all : ℕ → List Grant → Kept → Kept
place_all n [] k = k
place_all n (g ∷ gs) k = place_all (suc n) gs (place n g k)

-- ---- the list, as code reads and counts it

-- a grant of it
abbrev pub read_as : Read → Grant
read_as g = record { role = g.role; start = g.start; length = g.length; reach = g.reach; memory = g.memory }

-- the grant of a number
abbrev pub number_of : List Grant → ℕ → Grant
number_of gs n = get_or gs n (record { role = 0; start = 0; length = 0; reach = 0; memory = 0 })

-- how many grants have the role
unfoldable pub with_role : ℕ → List Grant → ℕ
with_role role [] = 0
with_role role (g ∷ gs) = let more = with_role role gs in cond (eqb g.role role) (suc more) more

-- the counts of a list that keeps its rules
pub record Counts (ws counts : List ℕ) : Type 0 where
  pub fine : grants_fine ws ≡ true
  pub counted : (role : ℕ) → role < 4 → get_or counts role 0 ≡ with_role role (grants_of ws)

-- ---- and what is begun by the counts

-- nothing is kept
abbrev pub no_bounds : List ℕ
no_bounds = 0 ∷ 0 ∷ 0 ∷ 0 ∷ 0 ∷ 0 ∷ 0 ∷ 0 ∷ []

-- each role's part begins behind those before it, and is empty; nothing is noted
unfoldable pub beginnings : List Grant → List ℕ
beginnings gs =
    let second = with_role 1 gs in
    let third = with_role 1 gs + with_role 2 gs in
    0 ∷ 0 ∷ second ∷ third ∷ 0 ∷ 0 ∷ second ∷ third ∷ []

-- the beginnings of a list that keeps its rules; else nothing is begun
unfoldable pub begun_by : List ℕ → List ℕ
begun_by ws = cond (grants_fine ws) (beginnings (grants_of ws)) no_bounds

-- the grants of a list kept, over what stood in the room for them
unfoldable pub kept_of : List Grant → List ℕ → List ℕ → List ℕ → Kept
kept_of gs starts lasts numbers = place_all 0 gs (record { starts = starts; lasts = lasts; numbers = numbers; bounds = beginnings gs })
