-- The search for the lowest bad cell, part by part.
-- Assumes nothing.
use Rattle.meaning.specs.declared.Cell.{Cell}
use Rattle.std.specs.Prelude.{Option, Some, None, Result}
use Rattle.std.specs.Result.{IsErrAnd, result_err}
use Rattle.std.proofs.lemmas.Result.{err_from_is_err_and}
use mathlib.Core.Path.{◌≡◌, refl, ◌∙◌}
use mathlib.Core.Bool.{Bool, true, false, cond}
use mathlib.Core.List.{List}
use Prim.Native.Nat.{ℕ, zero, suc, ◌+◌, ◌-◌, ◌≤◌}
use native.Mathlib.Omega.{arith}
use native.Mathlib.Nat.{zero-add, suc-add, add-suc, add-zero, add_assoc}
use Rattle.meaning.specs.Registers.{cells, cell}
use Rattle.meaning.specs.Grants.{Terms}
use Rattle.grants.specs.declared.Kept.{Kept}
use Rattle.grants.specs.Held.{IsKept}
use Rattle.meaning.specs.Writer.{writable, lowest_bad}

-- what was found first, or else what is found behind it
abbrev or_else : Option Cell → Option Cell → Option Cell
or_else (Some c) rest = Some c
or_else None rest = rest

module _ (g : Terms) (st : List ℕ) where
  -- among n cells, then among m
  in_parts : (i n m : ℕ) → lowest_bad g st i (n + m) ≡ or_else (lowest_bad g st i n) (lowest_bad g st (i + n) m)
  unfolding lowest_bad
  in_parts i zero m = rw (zero-add m, add-zero i)
  in_parts i (suc n) m = rw (suc-add n m, add-suc i n, ← suc-add i n, in_parts (suc i) n m) (pick (writable g st (cell i)))
    where
      pick : (b : Bool) → cond b (or_else (lowest_bad g st (suc i) n) (lowest_bad g st (suc i + n) m)) (Some (cell i))
          ≡ or_else (cond b (lowest_bad g st (suc i) n) (Some (cell i))) (lowest_bad g st (suc i + n) m)
      pick true = refl
      pick false = refl

  -- none of n cells is bad: the search goes on behind them,
  pub behind : (i n m : ℕ) → None ≡ lowest_bad g st i n → {found : Option Cell} → found ≡ lowest_bad g st (i + n) m → found ≡ lowest_bad g st i (n + m)
  behind i n m none is = is ∙ rw (in_parts i n m, ← none)

  -- the same of one cell, by how far it is from a first one
  pub past : (i k m : ℕ) → None ≡ lowest_bad g st (i + k) 1 → {found : Option Cell} → found ≡ lowest_bad g st (i + (k + 1)) m → found ≡ lowest_bad g st (i + k) (1 + m)
  past i k m none is = behind (i + k) 1 m none (rw add_assoc is)

  -- or one of them is
  pub among : (i n m : ℕ) {c : Cell} → Some c ≡ lowest_bad g st i n → Some c ≡ lowest_bad g st i (n + m)
  among i n m is = rw (in_parts i n m, ← is)

-- by a section of m cells behind n: none of them is bad either,
pub on : (g : Terms) (st : List ℕ) (n m : ℕ) {k : ℕ} → n + m ≡ k → None ≡ lowest_bad g st 0 n → None ≡ lowest_bad g st n m → None ≡ lowest_bad g st 0 k
on g st n m all before none = rw (← all) (behind g st 0 n m before (rw zero-add none))

-- or one is, and so it is the lowest of all
pub stopped : (g : Terms) (st : List ℕ) (n m : ℕ) → n + m ≤ cells → None ≡ lowest_bad g st 0 n → {c : Cell} → Some c ≡ lowest_bad g st n m → Some c ≡ lowest_bad g st 0 cells
stopped g st n m fits before bad =
    let all : n + (m + (cells - (n + m))) ≡ cells = omega arith in
    rw (← all) (behind g st 0 n (m + (cells - (n + m))) before (rw zero-add (among g st n m (cells - (n + m)) bad)))

-- the cell that `?` hands on
pub told : {A : Type 0} (r : Result A Cell) {c : Cell} → IsErrAnd r (λ (x : Cell). x ≡ c) → result_err r ≡ Some c
told r is = let p = err_from_is_err_and r is in rw (p.1, p.2)

-- under the grants that are kept, none of the first n cells is bad
abbrev pub NoneBefore : Kept → List ℕ → ℕ → Type 0
NoneBefore k st n = (g : Terms) → IsKept g k → None ≡ lowest_bad g st 0 n
