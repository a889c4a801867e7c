-- The grants of a list of words: from a place on, how many there are, and what their rules tell of them.
-- Assumes nothing.
use mathlib.Core.Path.{◌≡◌, refl, ap, ◌∙◌}
use mathlib.Core.List.{List, [], ◌∷◌}
use Prim.Native.Nat.{ℕ, suc, ◌+◌, ◌/◌, ◌%◌, ◌≤◌, ◌<◌}
use native.Mathlib.Omega.{arith}
use lib.Dec.{T, leb, eqb, leb→le, eqb→eq}
use lib.ListN.{length, get_or, drop, length-drop}
use mir.Facts.{and_yes}
use Rattle.laws.specs.Lists.{every}
use Rattle.laws.proofs.Rest.{rest5}
use Rattle.meaning.specs.Grants.{Grant, grants_of, most_grants, grant_fine, grants_fine}

-- the grant that the five words at a place are
abbrev pub grant_at : List ℕ → ℕ → Grant
grant_at ws i =
    record { role = get_or ws i 0; start = get_or ws (i + 1) 0; length = get_or ws (i + 2) 0; reach = get_or ws (i + 3) 0; memory = get_or ws (i + 4) 0 }

-- it, by the words as they were read
pub grant_read : (ws : List ℕ) (i role start long reach memory : ℕ) → role ≡ get_or ws i 0 → start ≡ get_or ws (i + 1) 0 → long ≡ get_or ws (i + 2) 0
    → reach ≡ get_or ws (i + 3) 0 → memory ≡ get_or ws (i + 4) 0
    → record { role = role; start = start; length = long; reach = reach; memory = memory } ≡ grant_at ws i
grant_read ws i role start long reach memory r s l h m = rw (r, s, l, h, m)

pub grants_on : (ws : List ℕ) (i : ℕ) → i + 5 ≤ length ws → grants_of (drop i ws) ≡ grant_at ws i ∷ grants_of (drop (i + 5) ws)
grants_on ws i h = ap grants_of (rest5 ws i h)

-- fewer than five words are no grant
short : (ws : List ℕ) → length ws < 5 → grants_of ws ≡ []
short [] h = refl
short (r ∷ []) h = refl
short (r ∷ s ∷ []) h = refl
short (r ∷ s ∷ l ∷ []) h = refl
short (r ∷ s ∷ l ∷ h' ∷ []) h = refl
short (r ∷ s ∷ l ∷ h' ∷ m ∷ ws) h = absurd (omega arith)

pub grants_end : (ws : List ℕ) (i : ℕ) → length ws < i + 5 → grants_of (drop i ws) ≡ []
grants_end ws i h = short (drop i ws) (simp length-drop (omega arith))

pub length_grants : (ws : List ℕ) → length (grants_of ws) ≡ length ws / 5
length_grants [] = refl
length_grants (r ∷ []) = refl
length_grants (r ∷ s ∷ []) = refl
length_grants (r ∷ s ∷ l ∷ []) = refl
length_grants (r ∷ s ∷ l ∷ h ∷ []) = refl
length_grants (r ∷ s ∷ l ∷ h ∷ m ∷ ws) = ap suc (length_grants ws) ∙ omega arith

-- what the rules of a list tell; those of a grant are grant_rules in meaning/proofs/Fitter
pub fine_list : (ws : List ℕ) → T (grants_fine ws) → (length ws % 5 ≡ 0) × (length ws / 5 ≤ most_grants) × T (every grant_fine (grants_of ws))
unfolding grants_fine
fine_list ws fine =
    let p = and_yes (eqb (length ws % 5) 0) _ fine in
    let q = and_yes (leb (length ws / 5) most_grants) (every grant_fine (grants_of ws)) p.1 in
    (eqb→eq (length ws % 5) 0 p.0, leb→le (length ws / 5) most_grants q.0, q.1)
