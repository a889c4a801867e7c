-- Whether a cell of a row may be written, from its value. Of a well-formed state an unmarked value is 0; so where the row takes 0, the mark
-- plays no part.
-- Assumes nothing.
use mathlib.Core.Path.{◌≡◌, refl, sym, ◌∙◌}
use mathlib.Core.Bool.{Bool, true, false, ◌&&◌, ◌||◌}
use mathlib.Core.List.{List}
use Prim.Native.Nat.{ℕ, ◌^◌}
use native.Mathlib.Omega.{arith}
use native.Mathlib.Decide.{ℕ_discrete}
use borrow.Author.Tests.{lt-ltb, eq-eqb, ne_eqb}
use lib.Dec.{T, ltb, eqb}
use lib.ListN.{length}
use mir.Facts.{and_yes, eqb_yes}
use Rattle.laws.proofs.Tests.{holds_of, fails_of}
use Rattle.meaning.specs.Registers.{cell, register_at}
use Rattle.meaning.specs.Grants.{Terms}
use Rattle.meaning.specs.State.{state_words, value_at, mark_at, well_formed}
use Rattle.meaning.specs.Reader.{value_reason}
use Rattle.meaning.specs.Writer.{writable}
use Rattle.meaning.proofs.States.{formed_iff}
use Rattle.cells.specs.declared.Row.{Row}
use Rattle.cells.specs.Rows.{takes_zero, width_of, vacant_in}
use Rattle.cells.proofs.Known.{Known}

-- a well-formed state is whole
pub whole : (st : List ℕ) → T (well_formed st) → length st ≡ state_words
whole st f = ((formed_iff st).0 f).size

module _ (g : Terms) (st : List ℕ) (f : T (well_formed st)) {row : Row} {c : ℕ} (k : Known row c) {v : ℕ} (ev : v ≡ value_at st (cell c)) where
  -- what is asked of a value
  abbrev pub Asked : Bool
  Asked = ltb v (2 ^ width_of row) && eqb (value_reason g (register_at (cell c)) v) 0

  -- it is asked of a marked cell
  marked : (mark_at st (cell c) ≡ 0 → ⊥) → writable g st (cell c) ≡ Asked
  unfolding writable
  marked n = rw (lt-ltb 0 (mark_at st (cell c)) (omega arith), ← ev, k.wide)

  -- an unmarked one may be written, and is vacant
  unmarked : mark_at st (cell c) ≡ 0 → (writable g st (cell c) ≡ true) × (vacant_in row v (mark_at st (cell c)) ≡ true)
  unfolding writable
  unmarked e = (rw e, rw (e, eq-eqb v 0 (ev ∙ ((formed_iff st).0 f).clear c k.low e)) (either (takes_zero row)))
    where
      either : (b : Bool) → (b || true) ≡ true
      either true = refl
      either false = refl

  -- a row that takes 0 asks nothing of it
  zero_fine : v ≡ 0 → takes_zero row ≡ true → Asked ≡ true
  zero_fine e t = rw (e, lt-ltb 0 (2 ^ width_of row) k.room, k.zero t g)

  -- by the answer to whether it is vacant: a vacant cell may be written,
  pub passed_over : {vacant : Bool} → vacant ≡ vacant_in row v (mark_at st (cell c)) → vacant ≡ true → writable g st (cell c) ≡ true
  passed_over is e =
      elim (ℕ_discrete (mark_at st (cell c)) 0) [
        | yes m ↦ (unmarked m).0
        | no n ↦
            let p = and_yes (eqb v 0) _ (holds_of (sym is ∙ e)) in
            marked n ∙ zero_fine (eqb_yes p.0) (first_of (takes_zero row) (ne_eqb (mark_at st (cell c)) 0 n) p.1)
      ]
    where
      first_of : (a : Bool) {b : Bool} → b ≡ false → T (a || b) → a ≡ true
      first_of true e t = refl
      first_of false e t = absurd (fails_of e t)

  -- and of another its value decides
  pub looked_at_lem : {vacant : Bool} → vacant ≡ vacant_in row v (mark_at st (cell c)) → vacant ≡ false → writable g st (cell c) ≡ Asked
  looked_at_lem is e = marked (λ m. fails_of e (holds_of (is ∙ (unmarked m).1)))
