-- The pair, judged from a state: on what of the state it depends, and what it is after writes.
-- Assumes nothing.
use mathlib.Core.Path.{◌≡◌, refl, ap}
use mathlib.Core.Bool.{Bool, true, false}
use mathlib.Core.List.{List, [], ◌∷◌}
use Prim.Native.Nat.{ℕ, zero, suc, ◌+◌, ◌≤◌, ◌<◌}
use native.Mathlib.Omega.{arith}
use lib.Dec.{T, ltb}
use lib.ListN.{length, get_or, set, length-set}
use mir.Facts.{yes_ltb}
use Rattle.laws.specs.Tests.{implies}
use Rattle.laws.proofs.Tests.{true_of, false_of, fails_of}
use Rattle.meaning.specs.Words.{bits}
use Rattle.meaning.specs.Registers.{cells, cell}
use Rattle.meaning.specs.Grants.{Terms}
use Rattle.meaning.specs.State.{value_at, mark_at, Write, apply, apply_all}
use Rattle.meaning.specs.Pair.{target_cell, location_cell, memory_of, pair_fine, wrote_pair, pair_kept}
use Rattle.meaning.proofs.Pairs.{Low, kept_iff, pair_untouched}
use Rattle.pairing.specs.Same.{SamePair}

-- S10 "if it writes neither cell": whatever the state holds
pub unwritten_kept : (g : Terms) (st : List ℕ) (ws : List Write) → ¬ T (wrote_pair ws) → pair_kept g st ws ≡ true
unfolding pair_kept
unwritten_kept g st ws n = rw (false_of (wrote_pair ws) n)

-- S8 "The memory that cell 2 names is bits 21:20 of its value": where it is marked
pub memory_marked : (st : List ℕ) → 0 < mark_at st location_cell → memory_of st ≡ bits 21 20 (value_at st location_cell)
unfolding memory_of
memory_marked st l = rw (true_of (ltb 0 (mark_at st location_cell)) (yes_ltb l))

-- ---- two states under the same writes

set_agree : (a b : List ℕ) (i j v : ℕ) → length a ≡ length b → get_or a i 0 ≡ get_or b i 0 → get_or (set a j v) i 0 ≡ get_or (set b j v) i 0
set_agree [] [] i j v l e = refl
set_agree [] (y ∷ b) i j v l e = absurd (omega arith)
set_agree (x ∷ a) [] i j v l e = absurd (omega arith)
set_agree (x ∷ a) (y ∷ b) zero zero v l e = refl
set_agree (x ∷ a) (y ∷ b) zero (suc j) v l e = e
set_agree (x ∷ a) (y ∷ b) (suc i) zero v l e = e
set_agree (x ∷ a) (y ∷ b) (suc i) (suc j) v l e = set_agree a b i j v (omega arith) e

-- a word in which two states agree is alike after the same writes
pub applied_agree : (a b : List ℕ) (i : ℕ) (ws : List Write) → length a ≡ length b → get_or a i 0 ≡ get_or b i 0
    → get_or (apply_all a ws) i 0 ≡ get_or (apply_all b ws) i 0
unfolding apply_all apply
applied_agree a b i [] l e = e
applied_agree a b i (w ∷ ws) l e =
    let c = w.cell.0 in
    let v = w.value in
    let k : length (set a c v) ≡ length (set b c v) = omega (arith, length-set a c v, length-set b c v) in
    applied_agree (apply a w) (apply b w) i ws
    (omega (arith, length-set (set a c v) (cells + c) 1, length-set (set b c v) (cells + c) 1))
    (set_agree (set a c v) (set b c v) i (cells + c) 1 k (set_agree a b i c v l e))

-- ---- the pair alone

pub same_pair_of : (st other : List ℕ)
    → ((c : ℕ) → 1 ≤ c → c ≤ 2 → (value_at st (cell c) ≡ value_at other (cell c)) × (mark_at st (cell c) ≡ mark_at other (cell c))) → SamePair st other
same_pair_of st other h =
    let target = h 1 (omega arith) (omega arith) in
    let location = h 2 (omega arith) (omega arith) in
    record { target = target.0; target_mark = target.1; location = location.0; location_mark = location.1 }

pub same_pair_fine : (g : Terms) (st other : List ℕ) → SamePair st other → pair_fine g st ≡ pair_fine g other
unfolding pair_fine memory_of
same_pair_fine g st other s = rw (s.target, s.target_mark, s.location, s.location_mark)

pub same_pair_applied : (st other : List ℕ) (ws : List Write) → SamePair st other → length st ≡ length other → SamePair (apply_all st ws) (apply_all other ws)
same_pair_applied st other ws s l =
    record {
      target = applied_agree st other target_cell.0 ws l s.target;
      target_mark = applied_agree st other (cells + target_cell.0) ws l s.target_mark;
      location = applied_agree st other location_cell.0 ws l s.location;
      location_mark = applied_agree st other (cells + location_cell.0) ws l s.location_mark;
    }

-- whether a batch keeps the pair depends on cells 1 and 2 alone
pub same_pair_kept : (g : Terms) (st other : List ℕ) (ws : List Write) → length st ≡ length other → SamePair st other → pair_kept g st ws ≡ pair_kept g other ws
unfolding pair_kept
same_pair_kept g st other ws l s =
    ap (implies (wrote_pair ws)) (same_pair_fine g (apply_all st ws) (apply_all other ws) (same_pair_applied st other ws s l))

-- ---- a fine pair

fine_by : (g : Terms) (st : List ℕ) (ws : List Write) → Low ws → T (pair_fine g st) → (b : Bool) → wrote_pair ws ≡ b
    → (T b → T (pair_fine g (apply_all st ws))) → T (pair_fine g (apply_all st ws))
fine_by g st ws low fine true e h = h tt
fine_by g st ws low fine false e h =
    rw (same_pair_fine g (apply_all st ws) st (same_pair_of (apply_all st ws) st (pair_untouched st ws low (fails_of e)))) fine

-- from a state whose pair is fine, a batch that keeps the pair leaves a fine one
pub fine_stays : (g : Terms) (st : List ℕ) (ws : List Write) → Low ws → T (pair_fine g st) → T (pair_kept g st ws) → T (pair_fine g (apply_all st ws))
fine_stays g st ws low fine kept = fine_by g st ws low fine (wrote_pair ws) refl ((kept_iff g st ws).0 kept)
