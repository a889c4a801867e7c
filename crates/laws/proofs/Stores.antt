-- Runs of stores: one after another, and over the front of a list.
-- Assumes nothing.
use mathlib.Core.Path.{◌≡◌, ap, ◌∙◌}
use mathlib.Core.List.{List, [], ◌∷◌, ◌++◌}
use Prim.Native.Nat.{ℕ, suc, ◌+◌, ◌≤◌}
use native.Mathlib.Omega.{arith}
use lib.ListN.{length, drop, set}
use lib.Seq.{sets, sets-eq}
use Rattle.laws.specs.Lists.{over}

-- a second run that starts where the first ends makes one run with it
pub sets_behind {ℓ} : {A : Type ℓ} (l : List A) (i j : ℕ) (u v : List A) → j ≡ i + length u → sets (sets l i u) j v ≡ sets l i (u ++ v)
sets_behind l i j [] v e = let same : j ≡ i = omega arith in rw same
sets_behind l i j (a ∷ u) v e = sets_behind (set l i a) (suc i) j u v (omega arith)

-- a run from the front on, where there is room, stands over the front
pub sets_over {ℓ} : {A : Type ℓ} (new old : List A) → length new ≤ length old → sets old 0 new ≡ over new old
sets_over new old room =
    let fits : 0 + length new ≤ length old = omega arith in
    let e : 0 + length new ≡ length new = omega arith in
    sets-eq new old 0 fits ∙ ap (λ (n : ℕ). new ++ drop n old) e
