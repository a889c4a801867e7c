-- Reason 13, and the answers that it lets through, as one number.
-- Assumes nothing.
use mathlib.Core.Path.{◌≡◌, refl, sym, ap, ◌∙◌}
use mathlib.Core.Bool.{Bool, true, false, ◌&&◌, cond, and-true, and-false, and_assoc}
use mathlib.Core.List.{List, [], ◌∷◌, append-nil}
use Prim.Native.Nat.{ℕ, zero, suc, ◌/◌, ◌%◌, ◌≤◌}
use native.Mathlib.Omega.{arith}
use lib.Dec.{eqb, leb→le}
use lib.Bits.{bit_or}
use lib.ListN.{length, drop_of_length-le}
use mir.Facts.{and_yes, eqb_yes}
use Rattle.laws.specs.Lists.{every, over}
use Rattle.laws.proofs.Bits.{or_four}
use Rattle.laws.proofs.Tests.{holds_of}
use Rattle.meaning.specs.declared.Kind.{Kind}
use Rattle.meaning.specs.declared.Kind.TheVariants.{Setting}
use Rattle.meaning.specs.Words.{words_of, bytes_of}
use Rattle.meaning.specs.Grants.{Terms, terms_of, grants_fine}
use Rattle.meaning.specs.State.{well_formed, apply_all}
use Rattle.meaning.specs.Positions.{next_kind, next_left, writes_of}
use Rattle.meaning.specs.Answers.{Answer, bad_state, bad_grants, bad_buffer, success, number_of, provided, settle, bad_pair, answer}
use Rattle.meaning.specs.Pair.{pair_kept}
use Rattle.meaning.specs.Reader.{judge, follow, run, batch_answer, read_answer, read_leaves, unless, paired_answer}
use Rattle.meaning.specs.Writer.{written, write_answer}
use Rattle.meaning.specs.Lister.{list_answer, list_leaves}
use Rattle.meaning.specs.ListingReader.{listing_answer, listing_leaves}
use Rattle.meaning.specs.Exported.{most_bytes, buffer_fine, word_buffer_fine, exported_read, exported_read_leaves, exported_write, exported_write_leaves, exported_list, exported_list_leaves, exported_read_listing, exported_read_listing_leaves}
use Rattle.meaning.proofs.Bytes.{length_words, length_bytes}
use Rattle.meaning.proofs.States.{length_applied}
use Rattle.listings.proofs.Answers.{leaves_length, place_within}

-- ---- three buffers of words

module _ (a b c : List ℕ) where
  abbrev all_three : Bool
  all_three = every word_buffer_fine (a ∷ b ∷ c ∷ [])

  pub first_long : buffer_fine a ≡ false → false ≡ all_three
  unfolding every word_buffer_fine
  first_long e = rw e

  pub second_long : buffer_fine b ≡ false → false ≡ all_three
  unfolding every word_buffer_fine
  second_long e = rw e (sym (and-false (word_buffer_fine a)))

  pub third_long : buffer_fine c ≡ false → false ≡ all_three
  unfolding every word_buffer_fine
  third_long e = rw e (sym (ap (◌&&◌ (word_buffer_fine a)) (and-false (word_buffer_fine b)) ∙ and-false (word_buffer_fine a)))

  -- where none is too long, `|` of the lengths is a multiple of 4 exactly if each is
  pub none_long : buffer_fine a ≡ true → buffer_fine b ≡ true → buffer_fine c ≡ true → eqb (bit_or (bit_or (length a) (length b)) (length c) % 4) 0 ≡ all_three
  unfolding every word_buffer_fine
  none_long ea eb ec =
      rw (ea, eb, ec, or_four (bit_or (length a) (length b)) (length c), or_four (length a) (length b), and-true (eqb (length c % 4) 0))
      (and_assoc (eqb (length a % 4) 0) (eqb (length b % 4) 0) (eqb (length c % 4) 0))

-- ---- read

-- as many as there are take the place of all
pub over_all : (new old : List ℕ) → length new ≡ length old → over new old ≡ new
over_all new old e = let few : length old ≤ length new = omega arith in rw (drop_of_length-le old few) (append-nil new)

-- a place lies in the batch
run_within : (g : Terms) (kind : Kind) (k : ℕ) (ws : List ℕ) → (run g kind k ws).place ≤ length ws
unfolding run
run_within g kind zero [] = omega arith
run_within g kind (suc k) [] = omega arith
run_within g kind k (w ∷ ws) = by (judge g kind k w) (run g (next_kind kind k w) (next_left k w) ws) (run_within g (next_kind kind k w) (next_left k w) ws)
  where
    by : (r : ℕ) (a : Answer) → a.place ≤ length ws → (follow r a).place ≤ suc (length ws)
    by zero a h = omega arith
    by (suc r) a h = omega arith

-- a state stays as long as it was
pub length_leaves : (batch gs st : List ℕ) → length (read_leaves batch gs st) ≡ length st
unfolding read_leaves
length_leaves batch gs st = by (eqb (read_answer batch gs st).reason success)
  where
    by : (b : Bool) → length (cond b (apply_all st (writes_of batch)) st) ≡ length st
    by true = length_applied st (writes_of batch)
    by false = refl

module _ (batch gs st : List ℕ) where
  abbrev Fine : Bool → Type 0
  Fine b = every word_buffer_fine (batch ∷ gs ∷ st ∷ []) ≡ b

  pub read_13 : Fine false → (bad_buffer ≡ number_of (exported_read batch gs st)) × (st ≡ exported_read_leaves batch gs st)
  unfolding exported_read exported_read_leaves
  read_13 e = rw e (refl, refl)

  -- the first and the last of them
  told : Fine true → (length batch ≤ most_bytes) × (length st % 4 ≡ 0)
  unfolding every word_buffer_fine buffer_fine
  told e =
      let first = and_yes (word_buffer_fine batch) _ (holds_of e) in
      let second = and_yes (word_buffer_fine gs) _ first.1 in
      let third = and_yes (word_buffer_fine st) _ second.1 in
      (leb→le (length batch) most_bytes (and_yes (buffer_fine batch) _ first.0).0, eqb_yes (and_yes (buffer_fine st) _ third.0).1)

  pub whole_state : Fine true → over (bytes_of (read_leaves (words_of batch) (words_of gs) (words_of st))) st ≡ bytes_of (read_leaves (words_of batch) (words_of gs) (words_of st))
  whole_state e =
      over_all _ st
      (length_bytes (read_leaves (words_of batch) (words_of gs) (words_of st)) ∙ omega (arith, length_leaves (words_of batch) (words_of gs) (words_of st), length_words st, (told e).1))

  pub read_answered : Fine true → {r : Answer} → r ≡ read_answer (words_of batch) (words_of gs) (words_of st)
      → {left : List ℕ} → left ≡ settle r (over (bytes_of (read_leaves (words_of batch) (words_of gs) (words_of st))) st) st
      → {n : ℕ} → n ≡ number_of r → (n ≡ number_of (exported_read batch gs st)) × (left ≡ exported_read_leaves batch gs st)
  unfolding exported_read exported_read_leaves
  read_answered e {r} a l n = rw (e, ← a) (n, l ∙ ap (λ (x : List ℕ). settle r x st) (whole_state e))

  -- the answer on the words
  abbrev words : Answer
  words = run (terms_of (words_of gs)) Setting 0 (words_of batch)

  -- a place is small
  pub read_small : Fine true → (read_answer (words_of batch) (words_of gs) (words_of st)).place ≤ most_bytes
  unfolding read_answer paired_answer batch_answer
  read_small e =
      by (well_formed (words_of st)) (grants_fine (words_of gs)) (eqb words.reason success)
      (unless (pair_kept (terms_of (words_of gs)) (words_of st) (writes_of (words_of batch))) bad_pair success)
    where
      small : words.place ≤ most_bytes
      small = omega (arith, run_within (terms_of (words_of gs)) Setting 0 (words_of batch), length_words batch, (told e).0)

      by : (b c d : Bool) (r : ℕ) → (provided b bad_state (provided c bad_grants (cond d (answer r words.place) words))).place ≤ most_bytes
      by false c d r = omega arith
      by true false d r = omega arith
      by true true true r = small
      by true true false r = small

-- ---- write

module _ (st gs out : List ℕ) where
  pub write_13 : every word_buffer_fine (st ∷ gs ∷ out ∷ []) ≡ false → (bad_buffer ≡ number_of (exported_write st gs out)) × (out ≡ exported_write_leaves st gs out)
  unfolding exported_write exported_write_leaves
  write_13 e = rw e (refl, refl)

  pub write_answered : every word_buffer_fine (st ∷ gs ∷ out ∷ []) ≡ true → {r : Answer} → r ≡ write_answer (words_of st) (words_of gs) (length out / 4)
      → {left : List ℕ} → left ≡ settle r (over (bytes_of (written (words_of st))) out) out
      → {n : ℕ} → n ≡ number_of r → (n ≡ number_of (exported_write st gs out)) × (left ≡ exported_write_leaves st gs out)
  unfolding exported_write exported_write_leaves
  write_answered e a l n = rw (e, ← a) (n, l)

-- ---- list

module _ (st out : List ℕ) where
  pub list_13 : word_buffer_fine st && buffer_fine out ≡ false → (bad_buffer ≡ number_of (exported_list st out)) × (out ≡ exported_list_leaves st out)
  unfolding exported_list exported_list_leaves
  list_13 e = rw e (refl, refl)

  pub list_answered : word_buffer_fine st && buffer_fine out ≡ true → {r : Answer} → r ≡ list_answer (words_of st) (length out)
      → {left : List ℕ} → left ≡ list_leaves (words_of st) out
      → {n : ℕ} → n ≡ number_of r → (n ≡ number_of (exported_list st out)) × (left ≡ exported_list_leaves st out)
  unfolding exported_list exported_list_leaves list_leaves
  list_answered e a l n = rw (e, ← a) (n, l ∙ rw (← a))

-- ---- read a listing

module _ (text st : List ℕ) where
  pub listing_13 : word_buffer_fine st && buffer_fine text ≡ false → (bad_buffer ≡ number_of (exported_read_listing text st)) × (st ≡ exported_read_listing_leaves text st)
  unfolding exported_read_listing exported_read_listing_leaves
  listing_13 e = rw e (refl, refl)

  module _ (e : word_buffer_fine st && buffer_fine text ≡ true) where
    -- what the two tests told
    listing_told : (length st % 4 ≡ 0) × (length text ≤ most_bytes)
    unfolding word_buffer_fine buffer_fine
    listing_told =
        let both = and_yes (word_buffer_fine st) _ (holds_of e) in
        (eqb_yes (and_yes (buffer_fine st) _ both.0).1, leb→le (length text) most_bytes both.1)

    pub whole_listed : over (bytes_of (listing_leaves text (words_of st))) st ≡ bytes_of (listing_leaves text (words_of st))
    whole_listed =
        over_all _ st (length_bytes (listing_leaves text (words_of st)) ∙ omega (arith, leaves_length text (words_of st), length_words st, listing_told.0))

    pub listing_answered : {r : Answer} → r ≡ listing_answer text (words_of st) → {left : List ℕ} → left ≡ settle r (over (bytes_of (listing_leaves text (words_of st))) st) st
        → {n : ℕ} → n ≡ number_of r → (n ≡ number_of (exported_read_listing text st)) × (left ≡ exported_read_listing_leaves text st)
    unfolding exported_read_listing exported_read_listing_leaves
    listing_answered {r} a l n = rw (e, ← a) (n, l ∙ ap (λ (x : List ℕ). settle r x st) whole_listed)

    -- a place is small
    pub listing_small : (listing_answer text (words_of st)).place ≤ most_bytes
    listing_small = omega (arith, place_within text (words_of st), listing_told.1)

-- ---- size and which grant: state and grants, and no buffer to change

module _ (st gs : List ℕ) (a : Answer) where
  abbrev let_through : Answer
  let_through = provided (word_buffer_fine st && word_buffer_fine gs) bad_buffer a

  pub two_13 : word_buffer_fine st && word_buffer_fine gs ≡ false → bad_buffer ≡ number_of let_through
  two_13 e = rw e

  pub two_answered : word_buffer_fine st && word_buffer_fine gs ≡ true → {r : Answer} → r ≡ a → {n : ℕ} → n ≡ number_of r → n ≡ number_of let_through
  two_answered e is n = rw (e, ← is) n
