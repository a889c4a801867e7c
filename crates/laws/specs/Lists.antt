-- Lists: a property or a test of each element, a test of some element, lists joined, numbers in a row.
-- Assumes nothing.
use Rattle.std.specs.Prelude.{Bool, true, false, ◌&&◌, ◌||◌, List, [], ◌∷◌, ◌++◌, ℕ, zero, suc, length, drop}

-- P holds of each element
abbrev pub All {ℓ} : {A : Type ℓ} → (A → Type 0) → List A → Type 0
All P [] = Unit {0}
All P (x ∷ xs) = P x × All P xs

-- the test is true of each element
unfoldable pub every {ℓ} : {A : Type ℓ} → (A → Bool) → List A → Bool
every f [] = true
every f (x ∷ xs) = f x && every f xs

-- the test is true of some element
unfoldable pub some {ℓ} : {A : Type ℓ} → (A → Bool) → List A → Bool
some f [] = false
some f (x ∷ xs) = f x || some f xs

-- one list after another
abbrev pub join {ℓ} : {A : Type ℓ} → List (List A) → List A
join [] = []
join (l ∷ ls) = l ++ join ls

-- n numbers from i on: i, i + 1 and so on
unfoldable pub from : ℕ → ℕ → List ℕ
from i zero = []
from i (suc n) = i ∷ from (suc i) n

-- the elements over the front of a list; what is past them stays
abbrev pub over {ℓ} : {A : Type ℓ} → List A → List A → List A
over new old = new ++ drop (length new) old
