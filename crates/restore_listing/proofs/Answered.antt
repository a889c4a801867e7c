-- What the listing reader's number tells of what is written.
-- Assumes nothing.
use mathlib.Core.Path.{◌≡◌, sym, ap, ◌∙◌}
use mathlib.Core.Logic.{◌≢◌}
use mathlib.Core.Bool.{◌&&◌}
use mathlib.Core.List.{List, append-nil}
use Prim.Native.Nat.{ℕ, ◌+◌, ◌%◌, ◌≤◌}
use native.Mathlib.Omega.{arith}
use borrow.Author.Tests.{ne_eqb}
use lib.ListN.{length, length-append}
use Rattle.laws.specs.Lists.{over}
use Rattle.meaning.specs.Words.{words_of}
use Rattle.meaning.specs.Answers.{number_of}
use Rattle.meaning.specs.Exported.{buffer_fine, word_buffer_fine, exported_read_listing}
use Rattle.meaning.proofs.Bytes.{number_tells}
use Rattle.meaning.proofs.Exported.{provided_range}
use Rattle.listings.proofs.Answers.{reason_is}
use Rattle.restore_listing.specs.Restored.{number_bytes, empty_bytes, answered, state_read, rewritten, restored}
use Rattle.restore_listing.proofs.Fronts.{eight, behind, put_behind, number_first, within}

module _ (text out : List ℕ) (n : ℕ) (number : n ≡ number_of (exported_read_listing text empty_bytes)) (mid : List ℕ) (numbered : mid ≡ over (number_bytes n) out) where
  answers : n ≡ number_of (answered text)
  unfolding answered
  answers = number

  tells : n % 256 ≡ (answered text).reason
  unfolding answered exported_read_listing
  tells =
      rw number
      (number_tells (exported_read_listing text empty_bytes)
      (provided_range (word_buffer_fine empty_bytes && buffer_fine text) _ (reason_is text (words_of empty_bytes)).0)).0

  pub refused : n % 256 ≢ 0 → (8 ≡ length (restored text)) × (mid ≡ over (restored text) out)
  unfolding restored
  refused z =
      let bad : (answered text).reason ≢ 0 = λ x. z (tells ∙ x) in
      rw (ne_eqb (answered text).reason 0 bad, append-nil (number_bytes (number_of (answered text))), ← answers) (sym (eight n), numbered)

  -- then what is put of the state goes behind the number
  pub taken : n % 256 ≡ 0 → (part : List ℕ) (count : ℕ) → count ≡ length (rewritten (state_read text)) → part ≡ over (rewritten (state_read text)) (behind mid)
      → (8 + count ≡ length (restored text)) × (put_behind mid part ≡ over (restored text) out)
  unfolding restored
  taken z part count counted put =
      let done : (answered text).reason ≡ 0 = sym tells ∙ z in
      let more = rewritten (state_read text) in
      rw (← answers, done) (
        omega (arith, counted, length-append (number_bytes n) more, eight n),
        ap (put_behind mid) put ∙ number_first n more out mid numbered,
      )

-- ---- the text in its buffer

pub restored_within : (text old : List ℕ) {new : List ℕ} {n : ℕ} → n ≡ length (restored text) → new ≡ over (restored text) old → n ≤ length new
restored_within text = within (restored text)
