-- The size's reasons are its rows; the writer's answer is made of the size's and of the room; and so of the calls of the driver.
-- Assumes nothing.
use Rattle.meaning.specs.declared.Cell.{Cell}
use Rattle.std.specs.Prelude.{Option, Some, None}
use mathlib.Core.Path.{◌≡◌, refl, sym, ap, ◌∙◌}
use mathlib.Core.Logic.{◌↔◌, ◌≢◌}
use mathlib.Core.Bool.{Bool, true, false, ◌&&◌, cond}
use mathlib.Core.List.{List, [], ◌∷◌}
use Prim.Native.Nat.{ℕ, ◌/◌, ◌≤◌, ◌<◌}
use native.Mathlib.Omega.{arith}
use borrow.Author.Tests.{le-leb, lt-leb, leb-true, leb-false, eqb-true, eqb-false, ne_eqb}
use lib.Dec.{T, leb, eqb}
use lib.ListN.{length}
use Rattle.laws.specs.Lists.{every}
use Rattle.meaning.specs.Words.{words_of}
use Rattle.meaning.specs.Registers.{cells}
use Rattle.meaning.specs.Grants.{terms_of, grants_fine}
use Rattle.meaning.specs.State.{well_formed}
use Rattle.meaning.specs.Pair.{pair_fine}
use Rattle.meaning.specs.Answers.{Answer, bad_state, bad_grants, bad_buffer, no_room, success, answer, provided}
use Rattle.meaning.specs.Writer.{size_of, most_written, lowest_bad, with_pair, except_at, size_answer, write_answer, in_room}
use Rattle.meaning.specs.Reasons.{SizeGives, WriterGives}
use Rattle.meaning.specs.Exported.{word_buffer_fine, exported_size, exported_write}
use Rattle.meaning.proofs.Bytes.{provided_then, provided_first}
use Rattle.meaning.proofs.Exported.{provided_range}
use Rattle.meaning.proofs.States.{Sound}
use Rattle.meaning.proofs.Writing.{written_at_most}
use Rattle.meaning.proofs.Outputs.{write_exactly, wrote}

-- ---- the size, as the writer's answer in just enough room

module _ (st grants : List ℕ) where
  as_written : size_answer st grants ≡ write_answer st grants (size_of st)
  unfolding size_answer write_answer
  as_written = rw (le-leb (size_of st) (size_of st) (omega arith))

  to_writer : {r p : ℕ} → SizeGives st grants r p → WriterGives st grants (size_of st) r p
  to_writer (SizeGives.by_bad_state n) = WriterGives.by_bad_state n
  to_writer (SizeGives.by_bad_grants w n) = WriterGives.by_bad_grants w n
  to_writer (SizeGives.by_not_writable w f l bad before) = WriterGives.by_not_writable w f l bad before
  to_writer (SizeGives.done w f fine) = WriterGives.done w f fine (omega arith)

  from_writer : {r p : ℕ} → WriterGives st grants (size_of st) r p → SizeGives st grants r p
  from_writer (WriterGives.by_bad_state n) = SizeGives.by_bad_state n
  from_writer (WriterGives.by_bad_grants w n) = SizeGives.by_bad_grants w n
  from_writer (WriterGives.by_not_writable w f l bad before) = SizeGives.by_not_writable w f l bad before
  from_writer (WriterGives.by_no_room w f fine l) = absurd (omega arith)
  from_writer (WriterGives.done w f fine l) = SizeGives.done w f fine

  -- the table of reasons and the answer agree
  pub size_exactly : (r p : ℕ) → (size_answer st grants ≡ answer r p) ↔ SizeGives st grants r p
  size_exactly r p =
      let writer = write_exactly st grants (size_of st) r p in
      (λ e. from_writer (writer.0 (sym as_written ∙ e)), λ s. as_written ∙ writer.1 (to_writer s))

  size_told : SizeGives st grants (size_answer st grants).reason (size_answer st grants).place
  size_told = (size_exactly _ _).0 refl

  -- 11 is none of its reasons, nor is 13
  pub size_reason : ((size_answer st grants).reason ≢ no_room) × ((size_answer st grants).reason < bad_buffer)
  size_reason = by size_told
    where
      by : {r p : ℕ} → SizeGives st grants r p → (r ≢ no_room) × (r < bad_buffer)
      by (SizeGives.by_bad_state n) = (λ e. omega arith, omega arith)
      by (SizeGives.by_bad_grants w n) = (λ e. omega arith, omega arith)
      by (SizeGives.by_not_writable w f l bad before) = (λ e. omega arith, omega arith)
      by (SizeGives.done w f fine) = (λ e. omega arith, omega arith)

  -- W4 "No state needs more than 184 words.", and a cell's number is smaller
  pub size_place : (size_answer st grants).place ≤ most_written
  size_place = by size_told
    where
      by : {r p : ℕ} → SizeGives st grants r p → p ≤ most_written
      by (SizeGives.by_bad_state n) = omega arith
      by (SizeGives.by_bad_grants w n) = omega arith
      by (SizeGives.by_not_writable w f l bad before) = omega arith
      by (SizeGives.done w f fine) = written_at_most st

  -- what 0 tells: the grants are fine, the cells of the state hold what they may, the place is the number of words, and the pair is fine
  pub sized : (size_answer st grants).reason ≡ 0
      → T (grants_fine grants) × Sound (terms_of grants) st × ((size_answer st grants).place ≡ size_of st) × T (pair_fine (terms_of grants) st)
  sized e = rw as_written (wrote st grants (size_of st) (rw as_written at e))

-- ---- the room

-- where the room is told to suffice, the size is told too, and is not more
pub done_in : (room : ℕ) (a : Answer) → (in_room room a).reason ≡ 0 → (a.reason ≡ 0) × (a.place ≤ room) × (in_room room a ≡ a)
done_in room a = by_reason (eqb a.reason success) refl
  where
    by_room : (b : Bool) → leb a.place room ≡ b → a.reason ≡ 0 → (provided b no_room a).reason ≡ 0 → (a.reason ≡ 0) × (a.place ≤ room) × (provided b no_room a ≡ a)
    by_room true l z e = (z, leb-true a.place room l, refl)
    by_room false l z e = absurd (omega arith)

    by_reason : (b : Bool) → eqb a.reason success ≡ b → (cond b (provided (leb a.place room) no_room a) a).reason ≡ 0
        → (a.reason ≡ 0) × (a.place ≤ room) × (cond b (provided (leb a.place room) no_room a) a ≡ a)
    by_reason true z e = by_room (leb a.place room) refl (eqb-true a.reason success z) e
    by_reason false z e = absurd (eqb-false a.reason success z e)

-- and where it is told and is not more, the room changes nothing; nor does it where the size is refused
pub enough_in : (room : ℕ) (a : Answer) → a.reason ≡ 0 → a.place ≤ room → in_room room a ≡ a
enough_in room a z l = rw (z, le-leb a.place room l)

pub refused_in : (room : ℕ) (a : Answer) → a.reason ≢ 0 → in_room room a ≡ a
refused_in room a n = rw (ne_eqb a.reason 0 n)

-- 11 is what the room gives, where nothing else does
pub short_in : (room : ℕ) (a : Answer) → a.reason ≢ no_room → ((in_room room a).reason ≡ no_room) ↔ ((a.reason ≡ 0) × (room < a.place))
short_in room a n = (by_reason (eqb a.reason success) refl, λ h. rw (h.0, lt-leb a.place room h.1))
  where
    by_room : (b : Bool) → leb a.place room ≡ b → a.reason ≡ 0 → (provided b no_room a).reason ≡ no_room → (a.reason ≡ 0) × (room < a.place)
    by_room true l z e = absurd (n e)
    by_room false l z e = (z, leb-false a.place room l)

    by_reason : (b : Bool) → eqb a.reason success ≡ b → (cond b (provided (leb a.place room) no_room a) a).reason ≡ no_room → (a.reason ≡ 0) × (room < a.place)
    by_reason true z e = by_room (leb a.place room) refl (eqb-true a.reason success z) e
    by_reason false z e = absurd (n e)

-- ---- the writer, by the size and the room

module _ (st grants : List ℕ) (room : ℕ) where
  -- D8 "The writer refuses what the size refuses, with the same answer"
  pub size_then_write : write_answer st grants room ≡ in_room room (size_answer st grants)
  unfolding size_answer write_answer
  size_then_write = by (well_formed st) (grants_fine grants) (with_pair (pair_fine (terms_of grants) st) (lowest_bad (terms_of grants) st 0 cells))
    where
      by : (b c : Bool) (f : Option Cell)
          → provided b bad_state (provided c bad_grants (except_at f (provided (leb (size_of st) room) no_room (answer success (size_of st)))))
          ≡ in_room room (provided b bad_state (provided c bad_grants (except_at f (answer success (size_of st)))))
      by false c f = refl
      by true false f = refl
      by true true (Some c) = refl
      by true true None = refl

  -- D8 "else it gives 11 exactly if the output has fewer words than the size tells"
  pub eleven_exactly : ((write_answer st grants room).reason ≡ no_room) ↔ (((size_answer st grants).reason ≡ 0) × (room < (size_answer st grants).place))
  eleven_exactly = rw size_then_write (short_in room (size_answer st grants) (size_reason st grants).0)

  -- the writer's place is the size's, or 0
  pub write_place : (write_answer st grants room).place ≤ most_written
  write_place = rw size_then_write (by (eqb (size_answer st grants).reason success) (leb (size_answer st grants).place room))
    where
      by : (b c : Bool) → (cond b (provided c no_room (size_answer st grants)) (size_answer st grants)).place ≤ most_written
      by true true = size_place st grants
      by true false = omega arith
      by false c = size_place st grants

-- ---- the calls of the driver

module _ (st grants : List ℕ) where
  pub size_call_range : (exported_size st grants).reason < 256
  unfolding exported_size
  size_call_range = provided_range (word_buffer_fine st && word_buffer_fine grants) _ (omega (arith, (size_reason (words_of st) (words_of grants)).1))

  pub size_13_exactly : ((exported_size st grants).reason ≡ 13) ↔ (¬ T (word_buffer_fine st && word_buffer_fine grants))
  unfolding exported_size
  size_13_exactly = provided_first (word_buffer_fine st && word_buffer_fine grants) 13 _ (λ e. omega (arith, (size_reason (words_of st) (words_of grants)).1))

  pub size_call : T (word_buffer_fine st && word_buffer_fine grants) → exported_size st grants ≡ size_answer (words_of st) (words_of grants)
  unfolding exported_size
  size_call fine = provided_then (word_buffer_fine st && word_buffer_fine grants) 13 _ fine

  -- 13 for the output goes before all; else the size's 13 stays, as its other refusals do
  pub size_then_write_call : (out : List ℕ) → exported_write st grants out ≡ provided (word_buffer_fine out) bad_buffer (in_room (length out / 4) (exported_size st grants))
  unfolding exported_write exported_size every
  size_then_write_call out =
      ap (provided (every word_buffer_fine (st ∷ grants ∷ out ∷ [])) bad_buffer) (size_then_write (words_of st) (words_of grants) (length out / 4))
      ∙ by (word_buffer_fine st) (word_buffer_fine grants) (word_buffer_fine out) (size_answer (words_of st) (words_of grants))
    where
      by : (x y z : Bool) (a : Answer) → provided (x && (y && (z && true))) bad_buffer (in_room (length out / 4) a) ≡ provided z bad_buffer (in_room (length out / 4) (provided (x && y) bad_buffer a))
      by true true true a = refl
      by true true false a = refl
      by true false true a = refl
      by true false false a = refl
      by false y true a = refl
      by false y false a = refl
