-- What the query answers, step by step: of a cell, of a call.
-- Assumes nothing.
use Rattle.std.specs.Prelude.{Option, Some, None, unwrap_or}
use mathlib.Core.Path.{◌≡◌, refl, sym, ap, ◌∙◌}
use mathlib.Core.Logic.{◌≢◌}
use mathlib.Core.Bool.{true, false}
use mathlib.Core.List.{List}
use Prim.Native.Nat.{ℕ, zero, suc, ◌≤◌, ◌<◌}
use borrow.Author.Tests.{lt-ltb, le-ltb, ne_eqb}
use Rattle.meaning.specs.declared.Cell.{Cell}
use Rattle.meaning.specs.declared.Memory.{Memory}
use Rattle.meaning.specs.declared.Memory.TheVariants.{Either, Only}
use Rattle.meaning.specs.Registers.{cells, cell, target_group, sections, register_among, register_in, register_at}
use Rattle.meaning.specs.Grants.{Terms, most_grants, terms_of, grants_fine, which}
use Rattle.meaning.specs.State.{value_at, mark_at, is_mark, well_formed}
use Rattle.meaning.specs.Pair.{target_cell, memory_of, target_of, looked_at}
use Rattle.meaning.specs.Answers.{bad_state, bad_grants, success, answer}
use Rattle.meaning.specs.Query.{which_stored, which_at, place_of, query_answer}

-- ---- a cell

-- what the target's register holds is looked at in the memory that cell 2 names
target_stored : (g : Terms) (st : List ℕ) → which_stored g (looked_at st target_cell) target_cell (value_at st target_cell) ≡ which g.grants (Only (memory_of st)) 1 (target_of st)
unfolding register_at register_in register_among sections target_group
target_stored g st = refl

module _ (g : Terms) (st : List ℕ) (c : Cell) where
  pub at_no_cell : cells ≤ c.0 → None ≡ which_at g st c
  unfolding which_at
  at_no_cell h = rw (le-ltb c.0 cells h)

  module _ (h : c.0 < cells) {mark : ℕ} (e : mark ≡ mark_at st c) where
    pub at_unmarked : mark ≡ 0 → None ≡ which_at g st c
    unfolding which_at
    at_unmarked z = rw (lt-ltb c.0 cells h, sym e, z)

    marked_at : mark ≢ 0 → which_stored g (looked_at st c) c (value_at st c) ≡ which_at g st c
    unfolding which_at
    marked_at n = rw (lt-ltb c.0 cells h, sym e, is_mark_lem mark n)
      where
        is_mark_lem : (m : ℕ) → m ≢ 0 → is_mark m ≡ true
        is_mark_lem zero n = absurd (n refl)
        is_mark_lem (suc m) n = refl

    -- cell 1, in the memory that cell 2 names
    pub at_target : mark ≢ 0 → c.0 ≡ 1 → {w : Option ℕ} → w ≡ which g.grants (Only (memory_of st)) 1 (target_of st) → w ≡ which_at g st c
    at_target n is told =
        let same : c ≡ target_cell = ap cell is in
        told ∙ sym (rw same (target_stored g st)) ∙ marked_at n

    -- any other
    pub at_other : mark ≢ 0 → c.0 ≢ 1 → {v : ℕ} {w : Option ℕ} → v ≡ value_at st c → w ≡ which_stored g Either c v → w ≡ which_at g st c
    at_other n other {v} {w} same told =
        told ∙ ap (which_stored g Either c) same ∙ ap (λ (m : Memory). which_stored g m c (value_at st c)) (sym elsewhere) ∙ marked_at n
      where
        elsewhere : looked_at st c ≡ Either
        elsewhere = rw (ne_eqb c.0 1 other)

-- ---- a call

-- the number of no grant, where none is told
place_of_lem : (w : Option ℕ) → place_of w ≡ unwrap_or w most_grants
place_of_lem None = refl
place_of_lem (Some n) = refl

module _ (st grants : List ℕ) (c : Cell) where
  pub state_refused : well_formed st ≡ false → answer bad_state 0 ≡ query_answer st grants c
  unfolding query_answer
  state_refused e = rw e

  module _ (e : well_formed st ≡ true) where
    pub grants_refused : grants_fine grants ≡ false → answer bad_grants 0 ≡ query_answer st grants c
    unfolding query_answer
    grants_refused f = rw (e, f)

    pub told : grants_fine grants ≡ true → {w : Option ℕ} {p : ℕ} → w ≡ which_at (terms_of grants) st c → p ≡ unwrap_or w most_grants → answer success p ≡ query_answer st grants c
    unfolding query_answer
    told f {w} is p = rw (e, f, p, sym (place_of_lem w), is)
