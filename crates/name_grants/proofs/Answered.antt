-- What the reader's number tells of what is written.
-- Assumes nothing.
use mathlib.Core.Path.{◌≡◌, refl, sym, ap, ◌∙◌}
use mathlib.Core.Logic.{◌≢◌}
use mathlib.Core.Bool.{Bool, true, false}
use mathlib.Core.List.{List, [], ◌∷◌, ◌++◌}
use Prim.Native.Nat.{ℕ, ◌+◌, ◌*◌, ◌%◌, ◌≤◌}
use native.Mathlib.Omega.{arith}
use borrow.Author.Tests.{ne_eqb}
use lib.ListN.{length, length-append}
use Rattle.laws.specs.Lists.{every, over}
use Rattle.meaning.specs.Words.{words_of, bytes_of}
use Rattle.meaning.specs.Answers.{bad_buffer, provided, number_of}
use Rattle.meaning.specs.Reader.{read_answer}
use Rattle.meaning.specs.Exported.{most_bytes, word_buffer_fine, exported_read}
use Rattle.meaning.proofs.Bytes.{number_tells}
use Rattle.meaning.proofs.Exported.{read_call_range}
use Rattle.words.specs.Stores.{put_words}
use Rattle.words.proofs.Stores.{put_over}
use Rattle.irangelda.proofs.Buffers.{read_small}
use Rattle.name_grants.specs.Named.{empty_bytes, answered, state_left, told, named, most_named}
use Rattle.name_grants.proofs.Fronts.{behind, put_behind, both, within}

-- ---- the number is a word

place_small : (batch grants st : List ℕ) → (exported_read batch grants st).place ≤ most_bytes
unfolding exported_read
place_small batch grants st = by (every word_buffer_fine (batch ∷ grants ∷ st ∷ [])) refl
  where
    by : (b : Bool) → every word_buffer_fine (batch ∷ grants ∷ st ∷ []) ≡ b → (provided b bad_buffer (read_answer (words_of batch) (words_of grants) (words_of st))).place ≤ most_bytes
    by true e = read_small batch grants st e
    by false e = omega arith

pub number_small : (batch grants st : List ℕ) {n : ℕ} → n ≡ number_of (exported_read batch grants st) → n ≤ most_bytes * 256 + 255
number_small batch grants st e = omega (arith, place_small batch grants st, read_call_range batch grants st)

-- ---- what is put: the number, and what is told of the state behind it

module _ (grants batch out : List ℕ) (room : length out ≡ most_named) (n : ℕ) (number : n ≡ number_of (exported_read batch grants empty_bytes))
    (mid : List ℕ) (put : mid ≡ put_words out 0 (n ∷ [])) where
  answers : n ≡ number_of (answered grants batch)
  unfolding answered
  answers = number

  pub tells : n % 256 ≡ (answered grants batch).reason
  unfolding answered
  tells = rw number (number_tells (exported_read batch grants empty_bytes) (read_call_range batch grants empty_bytes)).0

  in_front : mid ≡ over (bytes_of (n ∷ [])) out
  in_front = put ∙ put_over (n ∷ []) out (omega arith)

  abbrev text : List ℕ
  text = told (state_left grants batch) grants

  nothing_told : (answered grants batch).reason ≢ 0 → named grants batch ≡ bytes_of (n ∷ [])
  unfolding named
  nothing_told bad = rw (ne_eqb (answered grants batch).reason 0 bad, ← answers)

  all_told : (answered grants batch).reason ≡ 0 → named grants batch ≡ bytes_of (n ∷ []) ++ text
  unfolding named
  all_told done = rw (← answers, done)

  pub refused : n % 256 ≢ 0 → (4 ≡ length (named grants batch)) × (mid ≡ over (named grants batch) out)
  refused z = rw (nothing_told (λ x. z (tells ∙ x))) (refl, in_front)

  pub taken : n % 256 ≡ 0 → (part : List ℕ) (count : ℕ) → count ≡ length text → part ≡ over text (behind 4 mid)
      → (4 + count ≡ length (named grants batch)) × (put_behind 4 mid part ≡ over (named grants batch) out)
  taken z part count counted more =
      rw (all_told (sym tells ∙ z)) (
        omega (arith, counted, length-append (bytes_of (n ∷ [])) text),
        ap (put_behind 4 mid) more ∙ both (bytes_of (n ∷ [])) text out refl in_front,
      )

-- ---- the text in its buffer

pub named_within : (grants batch old : List ℕ) {new : List ℕ} {n : ℕ} → n ≡ length (named grants batch) → new ≡ over (named grants batch) old → n ≤ length new
named_within grants batch = within (named grants batch)
