-- The state that an accepted batch leaves is well-formed in its bytes, so that it is listed; and what is printed of a refusal.
-- Assumes nothing.
use mathlib.Core.Path.{◌≡◌, ap, ◌∙◌}
use mathlib.Core.Logic.{◌≢◌}
use mathlib.Core.Bool.{◌&&◌}
use mathlib.Core.List.{List, ◌++◌}
use Prim.Native.Nat.{ℕ, ◌+◌, ◌*◌, ◌/◌, ◌%◌, ◌≤◌}
use native.Mathlib.Omega.{arith}
use borrow.Author.Tests.{ne_eqb}
use lib.Dec.{T, eqb}
use lib.ListN.{length, drop, length-append}
use mir.Facts.{yes_and, yes_leb, yes_eqb}
use Rattle.laws.specs.Lists.{over}
use Rattle.laws.proofs.Stores.{sets_over}
use Rattle.meaning.specs.Words.{words_of, bytes_of}
use Rattle.meaning.specs.State.{well_formed, empty}
use Rattle.meaning.specs.Answers.{number_of}
use Rattle.meaning.specs.Text.{ascii}
use Rattle.meaning.specs.Reader.{read_leaves}
use Rattle.meaning.specs.Lister.{most_listed, listing, list_answer, list_leaves}
use Rattle.meaning.specs.Exported.{most_bytes, buffer_fine, word_buffer_fine, exported_read, exported_read_leaves, exported_list, exported_list_leaves}
use Rattle.meaning.proofs.Bytes.{length_bytes, number_tells, settle_done}
use Rattle.meaning.proofs.States.{formed_iff, empty_well_formed}
use Rattle.meaning.specs.Reasons.{ListerGives}
use Rattle.meaning.proofs.Round.{leaves_formed}
use Rattle.meaning.proofs.Outputs.{list_answer_lem, listing_at_most}
use Rattle.meaning.proofs.Exported.{read_call_range, list_call, list_call_leaves}
use Rattle.listings.proofs.Again.{formed_again}
use Rattle.list_batch.specs.Put.{Put}
use Rattle.list_batch.specs.Printed.{decimal5, refusal_line, k1_grant, empty_bytes, answered, state_left, printed}
use Rattle.list_batch.proofs.Puts.{five_digits}

-- ---- an accepted batch

module _ (batch : List ℕ) (accepted : (answered batch).reason ≡ 0) where
  left : List ℕ
  left = read_leaves (words_of batch) (words_of k1_grant) (words_of empty_bytes)

  abbrev bytes : List ℕ
  bytes = exported_read_leaves batch k1_grant empty_bytes

  bytes_left : bytes ≡ bytes_of left
  unfolding exported_read_leaves answered left
  bytes_left = settle_done (exported_read batch k1_grant empty_bytes) _ empty_bytes accepted

  left_formed : T (well_formed left)
  unfolding left empty_bytes empty
  left_formed = (formed_iff _).1 (leaves_formed (words_of batch) (words_of k1_grant) (words_of empty_bytes) ((formed_iff _).0 empty_well_formed))

  state_formed : T (well_formed (words_of bytes))
  state_formed = rw bytes_left (formed_again left left_formed)

  size : length bytes ≡ 808
  size = rw bytes_left (omega (arith, length_bytes left, ((formed_iff left).0 left_formed).size))

  fine : (out : List ℕ) → length out ≡ most_listed → T (word_buffer_fine bytes && buffer_fine out)
  unfolding word_buffer_fine buffer_fine
  fine out room =
      let few : length bytes ≤ most_bytes = omega (arith, size) in
      let whole : length bytes % 4 ≡ 0 = omega (arith, size) in
      let fits : length out ≤ most_bytes = omega arith in
      yes_and (word_buffer_fine bytes) (buffer_fine out) (yes_and (buffer_fine bytes) (eqb (length bytes % 4) 0) (yes_leb few) (yes_eqb whole)) (yes_leb fits)

  printed_listing : printed batch ≡ listing (words_of bytes)
  unfolding printed state_left
  printed_listing = rw accepted

  -- what the lister answers and leaves is what is printed
  pub listed : (out new : List ℕ) (n : ℕ) → length out ≡ most_listed → n ≡ number_of (exported_list bytes out) → new ≡ exported_list_leaves bytes out
      → (n / 256 ≡ length (printed batch)) × (new ≡ over (printed batch) out)
  unfolding list_leaves
  listed out new n room e l =
      let st = words_of bytes in
      let fits : length (listing st) ≤ length out = omega (arith, listing_at_most st) in
      let done = list_answer_lem st (length out) (ListerGives.done state_formed fits) in
      let number : n ≡ length (listing st) * 256 + 0 = e ∙ ap number_of (list_call bytes out (fine out room) ∙ done) in (
        rw printed_listing (omega arith),
        rw printed_listing (l ∙ list_call_leaves bytes out (fine out room) ∙ settle_done (list_answer st (length out)) _ out (rw done)),
      )

-- ---- a refusal

-- the number tells the reason and the place
pub tells : (batch : List ℕ) {n : ℕ} → n ≡ number_of (exported_read batch k1_grant empty_bytes) → (n % 256 ≡ (answered batch).reason) × (n / 256 ≡ (answered batch).place)
unfolding answered
tells batch e = rw e (number_tells (exported_read batch k1_grant empty_bytes) (read_call_range batch k1_grant empty_bytes))

line_length : (r p : ℕ) → length (refusal_line r p) ≤ 25
unfolding refusal_line
line_length r p =
    omega (
      arith,
      length-append (decimal5 r) (ascii " place=" ++ (decimal5 p ++ ascii "\n")),
      length-append (decimal5 p) (ascii "\n"),
      five_digits r,
      five_digits p,
    )

pub refused : (batch out new : List ℕ) (n end : ℕ) → length out ≡ most_listed → n ≡ number_of (exported_read batch k1_grant empty_bytes) → n % 256 ≢ 0
    → Put out 0 (refusal_line (n % 256) (n / 256)) new end → (end ≡ length (printed batch)) × (new ≡ over (printed batch) out)
unfolding printed
refused batch out new n end room e z p =
    let t = tells batch e in
    let bad : (answered batch).reason ≢ 0 = λ x. z (t.0 ∙ x) in
    let few : length (refusal_line (n % 256) (n / 256)) ≤ length out = omega (arith, line_length (n % 256) (n / 256)) in
    rw (ne_eqb (answered batch).reason 0 bad, ← t.0, ← t.1) (omega (arith, p.ends), p.stored ∙ sets_over (refusal_line (n % 256) (n / 256)) out few)

-- ---- the text in its buffer

pub within_text : (batch old : List ℕ) {new : List ℕ} {n : ℕ} → n ≡ length (printed batch) → new ≡ over (printed batch) old → n ≤ length new
within_text batch old e l = rw l (omega (arith, e, length-append (printed batch) (drop (length (printed batch)) old)))
