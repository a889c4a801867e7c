-- What the writer's number and bytes tell of what is written.
-- Assumes nothing.
use mathlib.Core.Path.{◌≡◌, refl, sym, ap, ◌∙◌}
use mathlib.Core.Logic.{◌≢◌}
use mathlib.Core.Bool.{Bool, true, false, cond}
use mathlib.Core.List.{List, [], ◌∷◌, ◌++◌}
use Prim.Native.Nat.{ℕ, ◌+◌, ◌*◌, ◌/◌, ◌%◌, ◌≤◌}
use native.Mathlib.Omega.{arith}
use borrow.Author.Tests.{ne_eqb}
use lib.Dec.{eqb}
use lib.ListN.{length, length-append, length-drop}
use Rattle.laws.specs.Lists.{every, over}
use Rattle.meaning.specs.Words.{words_of, bytes_of}
use Rattle.meaning.specs.Answers.{Answer, success, bad_buffer, provided, number_of}
use Rattle.meaning.specs.Writer.{most_written, written, write_answer}
use Rattle.meaning.specs.Exported.{buffer_fine, word_buffer_fine, exported_write, exported_write_leaves}
use Rattle.meaning.proofs.Bytes.{length_bytes, number_tells}
use Rattle.meaning.proofs.Outputs.{wrote}
use Rattle.meaning.proofs.Exported.{write_call_range}
use Rattle.restore_listing.specs.Restored.{number_bytes, k1_grant, room_bytes, writer_answered, batch_bytes, rewritten, most_rewritten}
use Rattle.restore_listing.proofs.Fronts.{eight, behind, put_behind, behind_all, number_last, within}

-- 0 is an answer behind 13
done_then : (b : Bool) (a : Answer) → (provided b bad_buffer a).reason ≡ 0 → provided b bad_buffer a ≡ a
done_then true a e = refl
done_then false a e = absurd (omega arith)

settle_over : (b : Bool) (new old : List ℕ) → cond b (over new old) old ≡ over (cond b new []) old
settle_over true new old = refl
settle_over false new old = refl

-- ---- any room of that length will do

module _ (st room : List ℕ) (size : length room ≡ most_written * 4) where
  same_answer : exported_write st k1_grant room ≡ writer_answered st
  unfolding writer_answered exported_write room_bytes every word_buffer_fine buffer_fine
  same_answer = rw size

  same_bytes : exported_write_leaves st k1_grant room ≡ over (batch_bytes st) room
  unfolding exported_write_leaves batch_bytes
  same_bytes = rw same_answer (settle_over (eqb (writer_answered st).reason success) (bytes_of (written (words_of st))) room)

-- ---- what is put: the writer's bytes behind the first eight, and then its number in front

module _ (st out : List ℕ) (size : length out ≡ most_rewritten) (n : ℕ) (number : n ≡ number_of (exported_write st k1_grant (behind out)))
    (part : List ℕ) (put : part ≡ exported_write_leaves st k1_grant (behind out)) (new : List ℕ) (numbered : new ≡ over (number_bytes n) (put_behind out part)) where
  room : length (behind out) ≡ most_written * 4
  room = ap length (behind_all out) ∙ omega (arith, length-drop 8 out)

  answers : n ≡ number_of (writer_answered st)
  answers = number ∙ ap number_of (same_answer st (behind out) room)

  tells : (n % 256 ≡ (writer_answered st).reason) × (n / 256 ≡ (writer_answered st).place)
  unfolding writer_answered
  tells = rw answers (number_tells (exported_write st k1_grant room_bytes) (write_call_range st k1_grant room_bytes))

  bytes : new ≡ over (rewritten st) out
  unfolding rewritten
  bytes =
      numbered
      ∙ rw (put ∙ same_bytes st (behind out) room)
      (number_last n (batch_bytes st) out (omega arith) ∙ ap (λ (m : ℕ). over (number_bytes m ++ batch_bytes st) out) answers)

  long : length (rewritten st) ≡ 8 + length (batch_bytes st)
  unfolding rewritten
  long = omega (arith, length-append (number_bytes (number_of (writer_answered st))) (batch_bytes st), eight (number_of (writer_answered st)))

  pub no_batch : n % 256 ≢ 0 → (8 ≡ length (rewritten st)) × (new ≡ over (rewritten st) out)
  unfolding batch_bytes
  no_batch z =
      let none : batch_bytes st ≡ [] = rw (ne_eqb (writer_answered st).reason 0 (λ e. z (tells.0 ∙ e))) in
      (sym (long ∙ ap (λ (l : List ℕ). 8 + length l) none), bytes)

  pub a_batch : n % 256 ≡ 0 → (8 + n / 256 * 4 ≡ length (rewritten st)) × (new ≡ over (rewritten st) out)
  unfolding batch_bytes writer_answered exported_write
  a_batch z =
      let words = written (words_of st) in
      let a = write_answer (words_of st) (words_of k1_grant) (length room_bytes / 4) in
      let done : (writer_answered st).reason ≡ 0 = sym tells.0 ∙ z in
      let all : batch_bytes st ≡ bytes_of words = rw done in
      let plain : writer_answered st ≡ a = done_then (every word_buffer_fine (st ∷ k1_grant ∷ room_bytes ∷ [])) a done in
      let count : a.place ≡ length words = (wrote (words_of st) (words_of k1_grant) (length room_bytes / 4) (rw plain at done)).2 in
      (omega (arith, long, ap length all, length_bytes words, tells.1, ap (λ (x : Answer). x.place) plain, count), bytes)

-- ---- the text in its buffer

pub rewritten_within : (st old : List ℕ) {new : List ℕ} {n : ℕ} → n ≡ length (rewritten st) → new ≡ over (rewritten st) old → n ≤ length new
rewritten_within st = within (rewritten st)
