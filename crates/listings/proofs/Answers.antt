-- What is promised of a listing read back.
-- Assumes nothing.
use mathlib.Core.Path.{◌≡◌, refl, sym, ap, ap₂, ◌∙◌}
use mathlib.Core.Bool.{Bool, true, false}
use mathlib.Core.List.{List, [], ◌∷◌, ◌++◌}
use mathlib.Core.Logic.{◌≢◌, ◌↔◌}
use Prim.Native.Nat.{ℕ, suc, ◌+◌, ◌-◌, ◌≤◌, ◌<◌}
use native.Mathlib.Omega.{arith}
use native.Mathlib.Decide.{dec_lt, ℕ_discrete}
use borrow.Author.Tests.{eq-eqb, ne_eqb, eqb-true}
use lib.Dec.{eqb}
use mir.Facts.{yes_eqb}
use Rattle.laws.proofs.Tests.{fails_of}
use lib.ListN.{length, take, get_or}
use Rattle.laws.specs.Lists.{All}
use Rattle.meaning.specs.Words.{Word}
use Rattle.meaning.specs.Registers.{cells}
use Rattle.meaning.specs.State.{state_words, marked, empty, apply_all}
use Rattle.meaning.specs.Answers.{bad_state, success, answer, not_listing}
use Rattle.meaning.proofs.Writing.{chosen_from}
use Rattle.meaning.proofs.Bytes.{exactly}
use Rattle.meaning.proofs.States.{formed_iff, rebuilt}
use Rattle.meaning.specs.Listings.{Listable, Listed, BeginsListing, LongestListing}
use Rattle.meaning.specs.ListingReader.{read_text, listing_answer, listing_leaves}
use Rattle.meaning.specs.Reasons.{ListingReaderGives}
use Rattle.listings.proofs.Numbers.{value_word}
use Rattle.listings.proofs.Tells.{Starts, starts_there}
use Rattle.listings.proofs.Count.{InText, some_listing, text_tells}
use Rattle.listings.proofs.Listings.{listing_in, in_listed}

-- some listing starts with the first n bytes
begins_starts : (text : List ℕ) (n : ℕ) → BeginsListing (take n text) → Starts InText text n
begins_starts text n b = record { more = b.more; writes = chosen_from (marked b.state) b.state 0 cells; whole = rw b.listed.same at (listing_in b.state b.listed.state) }

starts_begins : (text : List ℕ) (n : ℕ) → Starts InText text n → BeginsListing (take n text)
starts_begins text n s = record { more = s.more; state = apply_all empty s.writes; listed = in_listed (take n text ++ s.more) s.writes s.whole }

-- the text of a listing is read as the writes of its state
listed_read : (text st : List ℕ) → Listed text st → ((read_text text).answer ≡ answer success (length text)) × (apply_all empty (read_text text).writes ≡ st)
listed_read text st h =
    let t = text_tells text in
    let i : InText text (chosen_from (marked st) st 0 cells) = rw h.same at (listing_in st h.state) in
    let f = t.found (chosen_from (marked st) st 0 cells) i in
    (ap₂ answer f.0 (t.right f.0).1, rw f.1 (rebuilt st ((formed_iff st).0 h.state.formed)))

module _ (text old : List ℕ) where
  -- A8 "the listing reader gives 1 if the buffer is not 202 words", and the buffer stays
  pub wrong_length : length old ≢ state_words → (listing_answer text old ≡ answer bad_state 0) × (listing_leaves text old ≡ old)
  unfolding listing_answer listing_leaves
  wrong_length n = rw (ne_eqb (length old) state_words n) (refl, refl)

  module _ (n : length old ≡ state_words) where
    answers : listing_answer text old ≡ (read_text text).answer
    unfolding listing_answer
    answers = rw (eq-eqb (length old) state_words n)

    leaves : (read_text text).answer.reason ≡ 0 → listing_leaves text old ≡ apply_all empty (read_text text).writes
    unfolding listing_leaves
    leaves z = rw (answers, z)

    -- D5 "Every well-formed state whose 3D values are below 2^24 comes back from its listing as it was."
    pub listing_comes_back : (st : List ℕ) → Listed text st → (listing_answer text old ≡ answer success (length text)) × (listing_leaves text old ≡ st)
    listing_comes_back st h =
        let r = listed_read text st h in
        (answers ∙ r.0, leaves (ap (λ a. a.reason) r.0) ∙ r.1)

    -- 0 exactly for listings, and the state left is the one whose listing it is
    pub listing_read_exactly : ((listing_answer text old).reason ≡ 0) ↔ Listed text (listing_leaves text old)
    listing_read_exactly = (
      λ z.
          let z' : (read_text text).answer.reason ≡ 0 = rw answers at z in
          rw (leaves z') (in_listed text (read_text text).writes ((text_tells text).right z').0),
      λ h. ap (λ a. a.reason) (listing_comes_back (listing_leaves text old) h).0,
    )

    -- otherwise 19, Y19 "the length of the longest beginning of the text that some listing begins with"; the buffer stays
    pub listing_place_is_longest_beginning : (listing_answer text old).reason ≢ 0
        → ((listing_answer text old).reason ≡ not_listing) × LongestListing text (listing_answer text old).place × (listing_leaves text old ≡ old)
    unfolding listing_leaves
    listing_place_is_longest_beginning z =
        let t = text_tells text in
        let z' : (read_text text).answer.reason ≢ 0 = rw answers at z in
        rw (answers, ne_eqb (read_text text).answer.reason 0 z') (
          t.refusal z',
          record {
            within = t.inside;
            begins = starts_begins text (read_text text).answer.place (starts_there InText text (read_text text) some_listing t);
            longest = λ m l b. t.longest m l (begins_starts text m b);
          },
          refl,
        )

-- ---- one answer

-- no two states that fit their registers have one listing
pub listing_tells_state : (text st other : List ℕ) → Listed text st → Listed text other → st ≡ other
listing_tells_state text st other h k = sym (listed_read text st h).1 ∙ (listed_read text other k).1

-- one place is the longest
longest_once : (text : List ℕ) (p q : ℕ) → LongestListing text p → LongestListing text q → p ≡ q
longest_once text p q a b = omega (arith, b.longest p a.within a.begins, a.longest q b.within b.begins)

-- the reasons, each exactly when it is given
told : (text old : List ℕ) (b : Bool) → eqb (length old) state_words ≡ b → (c : Bool) → eqb (listing_answer text old).reason 0 ≡ c
    → ListingReaderGives text old (listing_answer text old).reason (listing_answer text old).place
told text old false e c f =
    let n : length old ≢ state_words = λ z. fails_of e (yes_eqb z) in
    rw (wrong_length text old n).0 (ListingReaderGives.by_bad_state n)
told text old true e true f =
    let n = eqb-true (length old) state_words e in
    let h = (listing_read_exactly text old n).0 (eqb-true (listing_answer text old).reason 0 f) in
    rw (listing_comes_back text old n (listing_leaves text old) h).0 (ListingReaderGives.done n h)
told text old true e false f =
    let n = eqb-true (length old) state_words e in
    let z : (listing_answer text old).reason ≢ 0 = λ y. fails_of f (yes_eqb y) in
    let p = listing_place_is_longest_beginning text old n z in
    rw p.0 (ListingReaderGives.by_not_listing n (λ st h. z (ap (λ a. a.reason) (listing_comes_back text old n st h).0)) p.1)

pub each_listing_reason : (text old : List ℕ) → ListingReaderGives text old (listing_answer text old).reason (listing_answer text old).place
each_listing_reason text old = told text old (eqb (length old) state_words) refl (eqb (listing_answer text old).reason 0) refl

pub each_listing_reason_exactly : (text old : List ℕ) {r p : ℕ} → ListingReaderGives text old r p → listing_answer text old ≡ answer r p
each_listing_reason_exactly text old (ListingReaderGives.by_bad_state n) = (wrong_length text old n).0
each_listing_reason_exactly text old (ListingReaderGives.by_not_listing {p} n none l) =
    let z : (listing_answer text old).reason ≢ 0 = λ y. none (listing_leaves text old) ((listing_read_exactly text old n).0 y) in
    let q = listing_place_is_longest_beginning text old n z in
    ap₂ answer q.0 (longest_once text (listing_answer text old).place p q.1 l)
each_listing_reason_exactly text old (ListingReaderGives.done {st} n h) = (listing_comes_back text old n st h).0

-- ---- what it leaves, and where it refuses

-- a state stays as long as it was
pub leaves_length : (text old : List ℕ) → length (listing_leaves text old) ≡ length old
leaves_length text old = by (ℕ_discrete (length old) state_words) (ℕ_discrete (listing_answer text old).reason 0)
  where
    by : Dec (length old ≡ state_words) → Dec ((listing_answer text old).reason ≡ 0) → length (listing_leaves text old) ≡ length old
    by (no n) z = ap length (wrong_length text old n).1
    by (yes n) (no z) = ap length (listing_place_is_longest_beginning text old n z).2
    by (yes n) (yes z) = ((formed_iff (listing_leaves text old)).0 ((listing_read_exactly text old n).0 z).state.formed).size ∙ sym n

-- no place lies behind the text
pub place_within : (text old : List ℕ) → (listing_answer text old).place ≤ length text
place_within text old = by (each_listing_reason text old)
  where
    by : {r p : ℕ} → ListingReaderGives text old r p → p ≤ length text
    by (ListingReaderGives.by_bad_state n) = omega arith
    by (ListingReaderGives.by_not_listing n none l) = l.within
    by (ListingReaderGives.done n h) = omega arith

-- its reasons
pub reason_is : (text old : List ℕ) → ((listing_answer text old).reason < 256) × ((listing_answer text old).reason ≢ 13)
reason_is text old = by (each_listing_reason text old)
  where
    by : {r p : ℕ} → ListingReaderGives text old r p → (r < 256) × (r ≢ 13)
    by (ListingReaderGives.by_bad_state n) = (omega arith, λ e. omega arith)
    by (ListingReaderGives.by_not_listing n none l) = (omega arith, λ e. omega arith)
    by (ListingReaderGives.done n h) = (omega arith, λ e. omega arith)

-- ---- the reasons, each exactly

pub listing_exactly : (text old : List ℕ) (r p : ℕ) → (listing_answer text old ≡ answer r p) ↔ ListingReaderGives text old r p
listing_exactly text old = exactly (listing_answer text old) (ListingReaderGives text old) (each_listing_reason text old) (λ r p. each_listing_reason_exactly text old)

-- ---- a state that has a listing is words

all_words : (l : List ℕ) → ((i : ℕ) → i < length l → Word (get_or l i 0)) → All Word l
all_words [] h = tt
all_words (x ∷ l) h = (h 0 (omega arith), all_words l (λ i k. h (suc i) (omega arith)))

pub listable_words : (st : List ℕ) → Listable st → (length st ≡ state_words) × All Word st
listable_words st h =
    let f = (formed_iff st).0 h.formed in (
      f.size,
      all_words st (λ i l. elim (dec_lt i cells) [
        | yes k ↦ value_word i _ k (h.narrow i k)
        | no k ↦
            let e : cells + (i - cells) ≡ i = omega arith in
            omega (arith, rw e at (f.mark (i - cells) (omega (arith, f.size))))
      ]),
    )
