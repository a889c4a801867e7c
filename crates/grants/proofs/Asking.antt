-- One kept grant after another: what the next one settles, and what is left to the rest.
-- Assumes nothing.
use Rattle.std.specs.Prelude.{Option, Some, None}
use mathlib.Core.Path.{◌≡◌, ap}
use mathlib.Core.Bool.{Bool, true, false, cond}
use mathlib.Core.List.{List}
use Prim.Native.Nat.{ℕ, suc, ◌+◌, ◌-◌, ◌≤◌, ◌<◌}
use native.Mathlib.Omega.{arith}
use lib.ListN.{get_or}
use Rattle.meaning.specs.declared.Memory.{Memory}
use Rattle.grants.specs.Kept.{number_in, covers_at, which_kept}

module _ (starts lasts numbers : List ℕ) (m : Memory) (a : ℕ) where
  -- the first of the kept grants from i on to the last
  abbrev up_to : ℕ → ℕ → Option ℕ
  up_to i last = which_kept starts lasts numbers i (suc last - i) m a

  -- no grant covers anything
  pub none : (i n : ℕ) → n ≡ 0 → None ≡ which_kept starts lasts numbers i n m a
  unfolding which_kept
  none i n e = rw e

  module _ {i last : ℕ} (l : i ≤ last) where
    next : up_to i last ≡ cond (covers_at starts lasts numbers i m a) (Some (number_in (get_or numbers i 0))) (up_to (i + 1) last)
    unfolding which_kept
    next =
        let one : i + 1 ≡ suc i = omega arith in
        let left : suc last - i ≡ suc (suc last - suc i) = omega arith in
        rw (one, left)

    -- the next one covers the address
    pub hit : {r : Bool} → r ≡ covers_at starts lasts numbers i m a → r ≡ true → Some (number_in (get_or numbers i 0)) ≡ up_to i last
    hit e t = rw (next, ← e, t)

    -- it does not, and the rest decides
    pub missed : {r : Bool} → r ≡ covers_at starts lasts numbers i m a → r ≡ false → up_to (i + 1) last ≡ up_to i last
    missed e f = rw (next, ← e, f)

  -- the last alone is left
  pub from_last : (i last : ℕ) → i ≡ last → up_to last last ≡ up_to i last
  from_last i last e = rw e

  -- behind the last there is none
  pub past_last : (last : ℕ) → None ≡ up_to (last + 1) last
  past_last last = none (last + 1) (suc last - (last + 1)) (omega arith)

  -- up to the last is up to the end
  pub whole : (from to : ℕ) → from < to → up_to from (to - 1) ≡ which_kept starts lasts numbers from (to - from) m a
  whole from to l = let e : suc (to - 1) - from ≡ to - from = omega arith in ap (λ (n : ℕ). which_kept starts lasts numbers from n m a) e
