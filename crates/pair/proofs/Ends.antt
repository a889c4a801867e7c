-- The end of a batch that was read on a state with the marks of the pair cleared: what the code then judges, answers and leaves.
-- Assumes nothing.
use mathlib.Core.Path.{◌≡◌, refl, sym, ap, subst, ◌∙◌}
use mathlib.Core.Logic.{◌≢◌}
use mathlib.Core.Bool.{Bool, true, false}
use mathlib.Core.List.{List}
use Prim.Native.Nat.{ℕ, ◌*◌, ◌<◌, ◌^◌}
use native.Mathlib.Omega.{arith}
use borrow.Author.Tests.{ne_eqb}
use lib.Dec.{T}
use lib.ListN.{length}
use Rattle.laws.specs.Lists.{All, join}
use Rattle.laws.proofs.Lists.{all_unit}
use Rattle.laws.proofs.Arms.{told_true, told_false}
use Rattle.meaning.specs.declared.Memory.TheVariants.{Either, Only}
use Rattle.meaning.specs.declared.Cell.{Cell}
use Rattle.meaning.specs.Registers.{cell, address, register_at, register_in, register_among, sections, target_group}
use Rattle.meaning.specs.Grants.{Terms, terms_of, grants_of, grants_fine, granted, is_grant}
use Rattle.meaning.specs.Batch.{reaches, Packet}
use Rattle.meaning.specs.State.{state_words, value_at, mark_at, Write, apply_all, all_writes}
use Rattle.meaning.specs.Pair.{target_cell, location_cell, target_of, pair_kept}
use Rattle.meaning.specs.Positions.{writes_of}
use Rattle.meaning.specs.Answers.{Answer, bad_pair, answer}
use Rattle.meaning.specs.Reader.{unless, batch_answer, paired_answer}
use Rattle.meaning.specs.Reasons.{CellFine}
use Rattle.meaning.proofs.Reading.{batch_permitted}
use Rattle.meaning.proofs.Writes.{writes_of_cut}
use Rattle.meaning.proofs.EachWrite.{each_write}
use Rattle.meaning.proofs.States.{Each, each_after_all}
use Rattle.meaning.proofs.Pairs.{Low}
use Rattle.numbering.proofs.Numbering.{granted_which}
use Rattle.grants.specs.Kept.{Names, part_of, which_in}
use Rattle.pair.specs.Marks.{cleared}
use Rattle.pair.specs.Judged.{kept_in, KnownLocal}
use Rattle.pair.proofs.Marks.{wrote_by_marks, restored_is, cleared_length, cleared_target, writes_low}
use Rattle.pair.proofs.Judged.{fine_is}

-- ---- what is judged is whether the batch keeps the pair

module _ (ws : List ℕ) (fine : T (grants_fine ws)) (starts lasts numbers bounds : List ℕ) (names : Names (terms_of ws) starts lasts numbers bounds)
    (st : List ℕ) (n : length st ≡ state_words) (writes : List Write) (low : Low writes) where
  pub kept_is : kept_in starts lasts numbers (part_of bounds 1) (mark_at st target_cell) (mark_at st location_cell) (apply_all (cleared st) writes) ≡ pair_kept (terms_of ws) st writes
  unfolding kept_in pair_kept
  kept_is = rw (wrote_by_marks st n writes low, restored_is st n writes low, fine_is ws fine starts lasts numbers bounds names (apply_all st writes))

-- ---- the reader's answer

module _ (g : Terms) (st batch : List ℕ) {a : Answer} (h : a ≡ batch_answer g batch) where
  -- a word's refusal stands
  pub refused : a.reason ≢ 0 → a ≡ paired_answer g st batch
  unfolding paired_answer
  refused n = rw (sym h, ne_eqb a.reason 0 n)

  -- and where there is none, the pair decides
  module _ (z : a.reason ≡ 0) {b : Bool} (kept : b ≡ pair_kept g st (writes_of batch)) where
    pub bad : b ≡ false → answer bad_pair a.place ≡ paired_answer g st batch
    unfolding paired_answer unless
    bad x = rw (sym h, z, told_false kept x)

    pub good : b ≡ true → a ≡ paired_answer g st batch
    unfolding paired_answer unless
    good x = rw (sym h, z, told_true kept x)

-- ---- an address that is known

-- the target's value: of 24 bits, and its address is granted somewhere
abbrev Granted : Terms → ℕ → ℕ → Type 0
Granted g c v = c ≡ 1 → (v < 2 ^ 24) × T (granted g.grants Either 1 (v * 256))

target_register : ((register_at target_cell).width ≡ 24) × ((v : ℕ) → (register_at target_cell).holds v ≡ address 1 (v * 256))
unfolding register_at register_in register_among sections target_group
target_register = (refl, λ v. refl)

-- what a permitted packet writes there is so
writes_granted : (g : Terms) (ps : List (List ℕ)) → All (Packet g) ps → All (λ w. Granted g w.cell.0 w.value) (all_writes ps)
writes_granted g ps a =
    each_write g (λ (w : Write). Granted g w.cell.0 w.value) (λ (w : ℕ). Unit {0})
    (λ c v l n s e.
    let here : c ≡ target_cell = ap cell e in
    let fits : T (reaches g ((register_at target_cell).holds v)) = subst (λ (x : Cell). T (reaches g ((register_at x).holds v))) here s.granted in
    (n, rw (target_register.1 v) at fits))
    (λ c v l n s e. absurd (let here : (register_at c).width ≡ 24 = ap (λ (k : ℕ). (register_at (cell k)).width) e ∙ target_register.0 in omega (arith, l.1)))
    ps a (all_unit (join ps))

-- where memory 0 is all there is
module _ (ws : List ℕ) (starts lasts numbers bounds : List ℕ) (names : Names (terms_of ws) starts lasts numbers bounds)
    (near : (role a : ℕ) → granted (grants_of ws) (Only 0) role a ≡ granted (grants_of ws) Either role a) where
  local : (a : ℕ) → T (granted (grants_of ws) Either 1 a) → T (is_grant (which_in starts lasts numbers (part_of bounds 1) (Only 0) a))
  local a t =
      let same : granted (grants_of ws) Either 1 a ≡ is_grant (which_in starts lasts numbers (part_of bounds 1) (Only 0) a) =
      sym (near 1 a) ∙ granted_which (grants_of ws) (Only 0) 1 a ∙ ap is_grant (names (Only 0) 1 (omega arith) (omega arith) a) in
      rw same at t

  -- an address that may be written is granted there,
  pub known_held : (st : List ℕ) → CellFine (terms_of ws) st target_cell → KnownLocal starts lasts numbers (part_of bounds 1) st
  known_held st fine m =
      let held = fine m in
      let v = value_at st target_cell in
      (rw target_register.0 at held.narrow, local (v * 256) (rw (target_register.1 v) at held.fits.granted))

  -- and so is one that came back
  pub known_local : (st batch : List ℕ) → length st ≡ state_words → (batch_answer (terms_of ws) batch).reason ≡ 0
      → KnownLocal starts lasts numbers (part_of bounds 1) (apply_all (cleared st) (writes_of batch))
  known_local st batch n z m =
      let g = terms_of ws in
      let c = (batch_permitted g batch).0 z in
      let now = apply_all (cleared st) (writes_of batch) in
      let at_first : Each (Granted g) (cleared st) = λ i l k e. absurd (omega (arith, rw e at k, cleared_target st n)) in
      let writes : All (λ w. Granted g w.cell.0 w.value) (writes_of batch) = rw (writes_of_cut g batch c) (writes_granted g c.packets c.permitted) in
      let here = each_after_all (Granted g) (cleared st) (writes_of batch) (writes_low g batch z) writes (cleared_length st ∙ n) at_first 1 (omega arith) m refl in
      (here.0, local (target_of now) here.1)
