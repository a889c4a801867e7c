-- Grants: read from words, the rules of the list, and when an address is granted.
-- G6 "These sums are of whole numbers, and do not wrap."
-- Assumes nothing.
use Rattle.std.specs.Prelude.{Bool, true, false, ◌&&◌, ◌||◌, cond, List, [], ◌∷◌, ℕ, suc, ◌+◌, ◌/◌, ◌%◌, ◌^◌, leb, eqb, length, Option, Some, None}
use Rattle.laws.specs.Lists.{every, some}
use Rattle.laws.specs.Tests.{within}
use Rattle.meaning.specs.declared.Memory.{Memory}
use Rattle.meaning.specs.declared.Memory.TheVariants.{Either, Only}

-- G1 "A grant is five words, in this order: role, start, length, reach, memory."
pub record Grant : Type 0 where
  pub role : ℕ
  pub start : ℕ
  pub length : ℕ
  pub reach : ℕ
  pub memory : ℕ

-- G1 "five words"
abbrev pub grant_words : ℕ
grant_words = 5

-- the whole grants of a list of words
abbrev pub grants_of : List ℕ → List Grant
grants_of [] = []
grants_of (r ∷ []) = []
grants_of (r ∷ s ∷ []) = []
grants_of (r ∷ s ∷ l ∷ []) = []
grants_of (r ∷ s ∷ l ∷ h ∷ []) = []
grants_of (r ∷ s ∷ l ∷ h ∷ m ∷ rest) = record { role = r; start = s; length = l; reach = h; memory = m } ∷ grants_of rest

-- G9 "Memory is 0 or 1, and for roles 2 and 3 it is 0."
unfoldable pub memory_fine : Grant → Bool
memory_fine g = leb g.memory 1 && (eqb g.role 1 || eqb g.memory 0)

-- G2 "Role 1 is the target, role 2 the first scaler, role 3 the second scaler; there is no other."
-- G4 "Start + length is not above 2^32, and reach is not 0."
unfoldable pub grant_fine : Grant → Bool
grant_fine g = within 1 3 g.role && (leb (g.start + g.length) (2 ^ 32) && (leb 1 g.reach && memory_fine g))

-- G3 "0 to 64 grants"
abbrev pub most_grants : ℕ
most_grants = 64

-- the rules of the list: G3 "A grant list is 0 to 64 grants and nothing besides. They may overlap", and each is fine
unfoldable pub grants_fine : List ℕ → Bool
grants_fine gs = eqb (length gs % grant_words) 0 && (leb (length gs / grant_words) most_grants && every grant_fine (grants_of gs))

-- G10 "in that memory": of one grant, and of an address that is asked about in whichever memory, or in one
abbrev pub lies_in : Memory → Grant → Bool
lies_in Either g = true
lies_in (Only m) g = eqb g.memory m

-- G5 "grant of that role has start ≤ a and a + reach ≤ start + length", and it is in the memory
unfoldable pub covers : Memory → ℕ → ℕ → Grant → Bool
covers m role a g = lies_in m g && (eqb g.role role && (leb g.start a && leb (a + g.reach) (g.start + g.length)))

-- G5 "A role is granted an address a if some grant of that role has .. and only then.", and G10 "It is granted a in a memory if such a
-- grant is in that memory"
unfoldable pub granted : List Grant → Memory → ℕ → ℕ → Bool
granted gs m role a = some (covers m role a) gs

-- the first of these grants that admits the address, where the list goes on from number n: G7 "Grants are numbered from 0, as the list has
-- them"
unfoldable pub which_from : ℕ → List Grant → Memory → ℕ → ℕ → Option ℕ
which_from n [] m role a = None
which_from n (g ∷ gs) m role a = let more = which_from (suc n) gs m role a in cond (covers m role a g) (Some n) more

-- G8 "The grant that admits an address of a role is the lowest-numbered one by which the role is granted it; nobody admits it exactly if
-- there is none.", and in a memory likewise
abbrev pub which : List Grant → Memory → ℕ → ℕ → Option ℕ
which gs m role a = which_from 0 gs m role a

-- some grant does
abbrev pub is_grant : Option ℕ → Bool
is_grant (Some n) = true
is_grant None = false

-- what a batch is judged by
pub record Terms : Type 0 where
  pub grants : List Grant

-- as a list of words gives it
abbrev pub terms_of : List ℕ → Terms
terms_of gs = record { grants = grants_of gs }
