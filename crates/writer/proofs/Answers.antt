-- The size's answer, by what its tests came to; and what success tells of a state.
-- Assumes nothing.
use Rattle.std.specs.Prelude.{Option, Some, None, Err}
use mathlib.Core.Path.{◌≡◌, sym, ◌∙◌}
use mathlib.Core.Bool.{Bool, true, false}
use mathlib.Core.List.{List}
use Prim.Native.Nat.{ℕ, ◌≤◌, ◌<◌}
use native.Mathlib.Omega.{arith}
use borrow.Author.Tests.{ltb-true, le-leb, lt-leb}
use lib.Dec.{T, eqb}
use mir.Facts.{eqb_yes}
use Rattle.laws.specs.Lists.{every, from}
use Rattle.laws.proofs.Lists.{every_from}
use Rattle.meaning.specs.declared.Cell.{Cell}
use Rattle.meaning.specs.declared.Refusal.{Refusal}
use Rattle.meaning.specs.Registers.{cells, first_video, cell, target_group, stage, sample, overlay, scaler, sections, register_among, register_in, register_at}
use Rattle.meaning.specs.declared.Memory.TheVariants.{Either, Only}
use Rattle.meaning.specs.Grants.{Terms, grants_of, grants_fine, granted, terms_of}
use Rattle.meaning.specs.State.{marked, well_formed}
use Rattle.meaning.specs.Pair.{target_cell, pair_fine}
use Rattle.meaning.specs.Answers.{bad_state, bad_grants, not_writable, no_room, success, answer, answer_in}
use Rattle.meaning.specs.Reasons.{CellFine}
use Rattle.meaning.specs.Writer.{written, size_of, need_for, lowest_bad, with_pair, size_answer, write_answer}
use Rattle.meaning.proofs.Refusals.{refused}
use Rattle.meaning.proofs.States.{Sound}
use Rattle.meaning.proofs.Writing.{need_is_length}
use Rattle.meaning.proofs.Round.{Lowest, lowest_told}
use Rattle.sizing.proofs.Sizes.{size_then_write, refused_in}
use Rattle.emitter_3d.specs.Emitted.{Narrow}
use Rattle.grants.specs.declared.Kept.{Kept}
use Rattle.grants.specs.declared.RoleGrants.{RoleGrants}
use Rattle.grants.specs.Held.{IsNamed, OfRole}
use Rattle.pair.specs.Judged.{pair_of, fine_by, KnownBy}
use Rattle.pair.proofs.Judged.{fine_is}
use Rattle.pair.proofs.Ends.{known_held}
use Rattle.writer.specs.Measured.{passes_target}

-- ---- what is told of the search among all cells and of the pair

-- where memory 0 is all there is, the address that the search has let pass is known to be granted there
pub passed : (ws st : List ℕ) {k : Kept} → IsNamed (terms_of ws) k
    → ((role a : ℕ) → granted (grants_of ws) (Only 0) role a ≡ granted (grants_of ws) Either role a)
    → {found : Option Cell} {part : RoleGrants} → found ≡ lowest_bad (terms_of ws) st 0 cells → OfRole k 1 part → passes_target found ≡ true → KnownBy part st
passed ws st {k} names near e its l =
    rw (its.starts, its.lasts, its.numbers, its.part)
    (known_held ws k.starts.now k.lasts.now k.numbers.now k.bounds.now names near st (cell_1 (lowest_bad (terms_of ws) st 0 cells) (lowest_told (terms_of ws) st 0 cells) (rw e at l)))
  where
    cell_1 : (f : Option Cell) → Lowest (terms_of ws) st 0 cells f → passes_target f ≡ true → CellFine (terms_of ws) st target_cell
    cell_1 (Some c) is l = is.before 1 (omega arith) (ltb-true 1 c.0 l)
    cell_1 None is l = is 1 (omega arith) (omega arith)

-- what is judged of the pair under kept grants is what the definitions say of it
pub paired : (ws st : List ℕ) → T (grants_fine ws) → {k : Kept} → IsNamed (terms_of ws) k
    → {found low : Option Cell} {part : RoleGrants} → found ≡ lowest_bad (terms_of ws) st 0 cells → OfRole k 1 part → low ≡ with_pair (fine_by part (pair_of st)) found
    → low ≡ with_pair (pair_fine (terms_of ws) st) (lowest_bad (terms_of ws) st 0 cells)
paired ws st fine {k} names e its is =
    is ∙ rw (e, its.starts, its.lasts, its.numbers, its.part, fine_is ws fine k.starts.now k.lasts.now k.numbers.now k.bounds.now names st)

-- ---- where each marked cell holds what it may, marked 3D values are narrow

-- by a computed test of each cell
as_wide : ℕ → Bool
as_wide c = eqb (register_at (cell c)).width 24

tested : T (every as_wide (from 0 first_video))
unfolding as_wide every from register_at register_in register_among sections target_group stage sample overlay scaler
tested = tt

wide_3d : (c : ℕ) → c < first_video → (register_at (cell c)).width ≡ 24
unfolding as_wide
wide_3d c h = eqb_yes (every_from as_wide 0 first_video tested c (omega arith) (omega arith))

pub sound_narrow : (g : Terms) (st : List ℕ) → Sound g st → Narrow st
sound_narrow g st sound c h m = rw (wide_3d c h) at (sound.fine c (omega arith) m).narrow

-- ---- the answer

-- the words that are needed are as many as are written
as_written : (st : List ℕ) {need : ℕ} → need ≡ need_for (marked st) → need ≡ size_of st
unfolding written
as_written st e = e ∙ sym (need_is_length (marked st) st)

module _ (st gs : List ℕ) where
  pub refused_state : well_formed st ≡ false → answer bad_state 0 ≡ size_answer st gs
  unfolding size_answer
  refused_state e = rw e

  pub refused_grants : well_formed st ≡ true → grants_fine gs ≡ false → answer bad_grants 0 ≡ size_answer st gs
  unfolding size_answer
  refused_grants e f = rw (e, f)

  module _ (e : well_formed st ≡ true) (f : grants_fine gs ≡ true) where
    pub refused_cell : {c : Cell} → Some c ≡ with_pair (pair_fine (terms_of gs) st) (lowest_bad (terms_of gs) st 0 cells) → answer not_writable c.0 ≡ size_answer st gs
    unfolding size_answer
    refused_cell is = rw (e, f, ← is)

    pub done : None ≡ with_pair (pair_fine (terms_of gs) st) (lowest_bad (terms_of gs) st 0 cells) → {need : ℕ} → need ≡ need_for (marked st) → answer success need ≡ size_answer st gs
    unfolding size_answer
    done is n = rw (e, f, ← is, as_written st n)

  -- the room changes nothing of a refusal of the size;
  pub handed_on : (room : ℕ) (r : Refusal) → answer_in (Err r) ≡ size_answer st gs → answer_in (Err r) ≡ write_answer st gs room
  handed_on room r e = rw (size_then_write st gs room, ← e) (sym (refused_in room (answer_in (Err r)) (refused r.reason)))

  -- and where the size is told, it decides
  pub short : {need room : ℕ} → answer success need ≡ size_answer st gs → room < need → answer no_room 0 ≡ write_answer st gs room
  short {need} {room} e l = rw (size_then_write st gs room, ← e, lt-leb need room l)

  pub enough : {need room : ℕ} → answer success need ≡ size_answer st gs → need ≤ room → answer success need ≡ write_answer st gs room
  enough {need} {room} e l = rw (size_then_write st gs room, ← e, le-leb need room l)
