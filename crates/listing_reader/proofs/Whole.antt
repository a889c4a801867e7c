-- The whole text: its key, its count, its lines; and what the call answers and leaves.
-- Assumes nothing.
use mathlib.Core.Path.{◌≡◌, sym, ap, ◌∙◌}
use mathlib.Core.List.{List}
use mathlib.Core.Logic.{◌≢◌}
use Prim.Native.Nat.{ℕ, ◌/◌, ◌≤◌, ◌<◌}
use native.Mathlib.Omega.{arith}
use borrow.Author.Tests.{eq-eqb, ne_eqb}
use lib.ListN.{length, drop, length-replicate}
use Rattle.laws.specs.Lists.{over}
use Rattle.meaning.specs.Words.{words_of, bytes_of}
use Rattle.meaning.specs.State.{state_words, empty, Write, apply_all}
use Rattle.meaning.specs.Answers.{Answer, bad_state, not_listing, answer}
use Rattle.meaning.specs.ListingReader.{along, head_form, table_lines, Outcome, refused, further, read_lines, read_first, read_text, listing_answer, listing_leaves}
use Rattle.meaning.proofs.Bytes.{length_words, settle_done}
use Rattle.meaning.proofs.States.{length_applied}
use Rattle.listings.proofs.Forms.{along_within}
use Rattle.listing_reader.specs.Counted.{Counted}

-- ---- the key

module _ (text : List ℕ) (a : ℕ) (e : a ≡ along head_form text) where
  pub key_left : a < 6 → read_text text ≡ refused a
  unfolding read_text
  key_left l = rw (← e, ne_eqb a 6 (λ z. omega arith))

  pub key_on : 6 ≤ a → read_text text ≡ further 6 (read_first (drop 6 text))
  unfolding read_text
  key_on l = let z : along head_form text ≡ 6 = omega (arith, (along_within head_form text).0) in rw z

  pub key_inside : 6 ≤ a → 6 ≤ length text
  key_inside l = omega (arith, (along_within head_form text).1)

-- ---- the call

module _ (text st : List ℕ) where
  abbrev old : List ℕ
  old = words_of st

  pub wrong_length : length st / 4 ≢ state_words → answer bad_state 0 ≡ listing_answer text old
  unfolding listing_answer
  wrong_length n = rw (ne_eqb (length old) state_words (λ e. n (sym (length_words st) ∙ e)))

  module _ (n : length st / 4 ≡ state_words) where
    long : length old ≡ state_words
    long = length_words st ∙ n

    -- the answer is that of a reading of the text
    pub answers : (r : Outcome) → read_text text ≡ r → r.answer ≡ listing_answer text old
    unfolding listing_answer
    answers r e = rw (eq-eqb (length old) state_words long) (ap (λ (x : Outcome). x.answer) (sym e))

    -- and so are the bytes that one leaves which is not refused
    call_done : (r : Outcome) → read_text text ≡ r → r.answer.reason ≡ 0 → (new left : List ℕ) → new ≡ apply_all empty r.writes → left ≡ over (bytes_of new) st
        → left ≡ over (bytes_of (listing_leaves text old)) st
    unfolding listing_leaves
    call_done r e z new left w l =
        let a = answers r e in
        let s : listing_leaves text old ≡ new = settle_done (listing_answer text old) _ old (ap (λ (x : Answer). x.reason) (sym a) ∙ z) ∙ rw e (sym w) in
        l ∙ ap (λ (x : List ℕ). over (bytes_of x) st) (sym s)

    module _ (k : read_text text ≡ further 6 (read_first (drop 6 text))) where
      -- the count is none
      pub count_refused : {at : ℕ} → further 6 (read_first (drop 6 text)) ≡ refused at → answer not_listing at ≡ listing_answer text old
      count_refused {at} f = answers (refused at) (k ∙ f)

      -- or is one, and the lines follow
      module _ {at count : ℕ} (c : Counted text 6 at count) {a : Answer} (e : a ≡ (further at (read_lines table_lines count (drop at text))).answer) where
        abbrev lines : Outcome
        lines = further at (read_lines table_lines count (drop at text))

        pub lines_told : a ≡ listing_answer text old
        lines_told = e ∙ answers lines (k ∙ c.goes)

        pub lines_done : a.reason ≡ 0 → (new left : List ℕ) → new ≡ apply_all empty (read_lines table_lines count (drop at text)).writes → left ≡ over (bytes_of new) st
            → left ≡ over (bytes_of (listing_leaves text old)) st
        lines_done z new left w l = call_done lines (k ∙ c.goes) (sym (ap (λ (x : Answer). x.reason) e) ∙ z) new left w l

pub read_length : (new : List ℕ) (ws : List Write) → new ≡ apply_all empty ws → length new ≡ state_words
unfolding empty
read_length new ws e = ap length e ∙ length_applied empty ws ∙ length-replicate {A = ℕ} state_words 0
