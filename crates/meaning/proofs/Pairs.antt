-- The pair of cells 1 and 2: what its tests say, and what writes leave of it.
-- Assumes nothing.
use mathlib.Core.Path.{◌≡◌, refl}
use mathlib.Core.Logic.{◌↔◌, ◌≢◌}
use mathlib.Core.Bool.{Bool, true, false}
use mathlib.Core.List.{List, [], ◌∷◌}
use Prim.Native.Nat.{ℕ, ◌+◌, ◌≤◌, ◌<◌}
use native.Mathlib.Omega.{arith}
use lib.Dec.{T, ltb}
use mir.Facts.{ltb_yes, yes_ltb}
use Rattle.laws.specs.Lists.{All, some}
use Rattle.laws.specs.Tests.{within, implies}
use Rattle.laws.proofs.Lists.{all_both}
use Rattle.laws.proofs.Tests.{within_iff, implies_iff, or_left, or_right}
use Rattle.meaning.specs.declared.Memory.TheVariants.{Only}
use Rattle.meaning.specs.Registers.{cells, cell}
use Rattle.meaning.specs.Grants.{Terms, granted}
use Rattle.meaning.specs.State.{value_at, mark_at, empty, Write, apply_all}
use Rattle.meaning.specs.Pair.{target_cell, memory_of, target_of, pair_fine, wrote_pair, pair_kept}
use Rattle.meaning.proofs.States.{untouched}

-- ---- the tests

-- S9 "cell 1 is not marked, or if its address is granted to role 1 in the memory that cell 2 names"
pub pair_iff : (g : Terms) (st : List ℕ) → T (pair_fine g st) ↔ (0 < mark_at st target_cell → T (granted g.grants (Only (memory_of st)) 1 (target_of st)))
unfolding pair_fine
pair_iff g st =
    let imp = implies_iff (ltb 0 (mark_at st target_cell)) (granted g.grants (Only (memory_of st)) 1 (target_of st)) in
    (λ t m. imp.0 t (yes_ltb m), λ f. imp.1 (λ t. f (ltb_yes t)))

pub kept_iff : (g : Terms) (st : List ℕ) (ws : List Write) → T (pair_kept g st ws) ↔ (T (wrote_pair ws) → T (pair_fine g (apply_all st ws)))
unfolding pair_kept
kept_iff g st ws = implies_iff (wrote_pair ws) (pair_fine g (apply_all st ws))

pub fine_kept : (g : Terms) (st : List ℕ) (ws : List Write) → T (pair_fine g (apply_all st ws)) → T (pair_kept g st ws)
fine_kept g st ws t = (kept_iff g st ws).1 (λ w. t)

-- ---- writes of other cells

abbrev pub Low : List Write → Type 0
Low ws = All (λ w. w.cell.0 < cells) ws

not_pair : (ws : List Write) → ¬ T (wrote_pair ws) → All (λ w. ¬ T (within 1 2 w.cell.0)) ws
unfolding wrote_pair some
not_pair [] n = tt
not_pair (w ∷ ws) n =
    (λ t. n (or_left (within 1 2 w.cell.0) _ t), not_pair ws (λ t. n (or_right (within 1 2 w.cell.0) _ t)))

-- what a batch that wrote neither cell leaves of the pair
pub pair_untouched : (st : List ℕ) (ws : List Write) → Low ws → ¬ T (wrote_pair ws) → (c : ℕ) → 1 ≤ c → c ≤ 2
    → (value_at (apply_all st ws) (cell c) ≡ value_at st (cell c)) × (mark_at (apply_all st ws) (cell c) ≡ mark_at st (cell c))
pair_untouched st ws low n c l k =
    let other = not_pair ws n in
    let apart : (w : Write) → ¬ T (within 1 2 w.cell.0) → c ≢ w.cell.0 =
    λ w no e. no ((within_iff 1 2 w.cell.0).1 (omega arith, omega arith)) in (
      untouched c st ws
          (all_both (λ (w : Write). w.cell.0 < cells) (λ (w : Write). ¬ T (within 1 2 w.cell.0)) (λ (w : Write). (c ≢ w.cell.0) × (c ≢ cells + w.cell.0))
          (λ w h no. (apart w no, λ e. omega arith)) ws low other),
      untouched (cells + c) st ws
          (all_both (λ (w : Write). w.cell.0 < cells) (λ (w : Write). ¬ T (within 1 2 w.cell.0)) (λ (w : Write). (cells + c ≢ w.cell.0) × (cells + c ≢ cells + w.cell.0))
          (λ w h no. (λ e. omega arith, λ e. apart w no (omega arith))) ws low other),
    )

fine_by : (g : Terms) (st : List ℕ) (ws : List Write) → Low ws → mark_at st target_cell ≡ 0 → (b : Bool) → wrote_pair ws ≡ b
    → (T b → T (pair_fine g (apply_all st ws))) → T (pair_fine g (apply_all st ws))
fine_by g st ws low z true e h = h tt
fine_by g st ws low z false e h =
    (pair_iff g (apply_all st ws)).1
    (λ m. absurd (omega (arith, (pair_untouched st ws low (λ t. rw e at t) 1 (omega arith) (omega arith)).1)))

-- from a state whose target is unmarked, the condition leaves a fine pair
pub kept_fine : (g : Terms) (st : List ℕ) (ws : List Write) → Low ws → mark_at st target_cell ≡ 0 → T (pair_kept g st ws) → T (pair_fine g (apply_all st ws))
kept_fine g st ws low z t = fine_by g st ws low z (wrote_pair ws) refl ((kept_iff g st ws).0 t)

pub empty_unmarked : mark_at empty target_cell ≡ 0
unfolding empty
empty_unmarked = refl
