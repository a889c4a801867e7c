-- What is promised of a listing that is read back: of the listing reader, and of irangelda_read_listing.
-- Assumes nothing.
use mathlib.Core.Path.{◌≡◌, refl, sym, ap, ◌∙◌}
use mathlib.Core.Bool.{◌&&◌}
use mathlib.Core.Logic.{◌↔◌, ◌≢◌}
use mathlib.Core.List.{List, [], ◌∷◌, ◌++◌}
use Prim.Native.Nat.{ℕ, zero, suc, ◌/◌, ◌%◌, ◌≤◌, ◌<◌, ◌^◌}
use native.Mathlib.Omega.{arith}
use native.Mathlib.Decide.{dec_lt}
use lib.Dec.{T}
use lib.ListN.{length, take, drop, get_or}
use lib.Seq.{take_at}
use mir.Facts.{and_yes, yes_and, eqb_yes, yes_eqb, leb_yes, yes_leb}
use Rattle.laws.specs.Lists.{All, over}
use Rattle.laws.proofs.Tests.{true_of}
use Rattle.meaning.specs.Words.{Byte, Word, words_of, bytes_of}
use Rattle.meaning.specs.Registers.{cells, first_video, cell, register_at}
use Rattle.meaning.specs.State.{state_words, value_at, well_formed}
use Rattle.meaning.specs.Answers.{Answer, answer, answer_in}
use Rattle.meaning.specs.Lister.{listing}
use Rattle.meaning.specs.Listings.{Listable, Listed, LongestListing}
use Rattle.meaning.specs.ListingReader.{listing_leaves}
use Rattle.meaning.specs.Exported.{buffer_fine, word_buffer_fine, exported_read_listing, exported_read_listing_leaves}
use Rattle.meaning.specs.Reasons.{ListerGives, ListingReaderGives}
use Rattle.meaning.proofs.Bytes.{length_words, length_bytes, bytes_words, number_tells, provided_first, provided_then, settle_done, settle_refused}
use Rattle.meaning.proofs.Exported.{provided_range, words_small, words_over}
use Rattle.meaning.proofs.States.{formed_iff}
use Rattle.listings.proofs.Answers as theory
use Rattle.listings.proofs.Numbers.{width_3d, width_video}
use Rattle.irangelda.proofs.Buffers.{over_all, listing_13, whole_listed}
use Rattle.listing_reader.proofs.read_listing.Reads as read_listing
use Rattle.irangelda.proofs.irangelda_read_listing.Reads as irangelda_read_listing
use Rattle.promises.proofs.Promises.{listing_is_exact, each_lister_reason_exactly}
use Rattle.promises.proofs.Driver.{by_bad_buffer, list_bad_buffer_exactly, list_call_is_the_lister, passes}
use Rattle.promises.specs.CallContracts.{Listing, ReadingListing, ListingBytes, ReadingListingBytes, ListerBuffers, Tells, BadBuffer}

-- ==== The contracts

-- what `listing_reader::read_listing` is proved to do, for any buffers that are lent to it,
pub reads_listings : (κs : _) (a : _) (r : _) (s : _) → read_listing.Learnt κs a r s → ReadingListing a.0.now a.1.0.now (answer_in r) s.1.0.now
reads_listings κs a r s p = p

-- and `irangelda_read_listing`
pub reads_listing_bytes : (κs : _) (a : _) (r : _) (s : _) → irangelda_read_listing.Learnt κs a r s → ReadingListingBytes a.0.now a.1.0.now r s.1.0.now
reads_listing_bytes κs a r s p = p

-- ==== The listing reader, on the bytes of a text and of a state

module _ (text st : List ℕ) (a : Answer) (left : List ℕ) (read : ReadingListing text st a left) where
  -- A5 "A reason is given exactly if its row fits": of the listing reader
  pub each_listing_reason_exactly : (r p : ℕ) → (a ≡ answer r p) ↔ ListingReaderGives text (words_of st) r p
  each_listing_reason_exactly r p = rw read.0 (theory.listing_exactly text (words_of st) r p)

  -- A6 "A refusal leaves every lent buffer as it was.": not one byte of the state
  pub refused_unrestored : a.reason ≢ 0 → left ≡ st
  refused_unrestored n = read.1 ∙ settle_refused a _ st n

  module _ (long : length (words_of st) ≡ state_words) where
    -- D5 "Every well-formed state whose 3D values are below 2^24 comes back from its listing as it was.": whatever the buffer held
    pub listing_comes_back : (x : List ℕ) → Listed text x → (a ≡ answer 0 (length text)) × (left ≡ over (bytes_of x) st)
    listing_comes_back x h =
        let back = theory.listing_comes_back text (words_of st) long x h in
        let done = read.0 ∙ back.0 in
        (done, read.1 ∙ settle_done a _ st (ap (λ (y : Answer). y.reason) done) ∙ rw back.1)

    -- and as words the buffer is then that state
    pub restored_as_words : (x : List ℕ) → Listed text x → words_of left ≡ x
    restored_as_words x h =
        let w = theory.listable_words x h.state in
        ap words_of (listing_comes_back x h).1 ∙ words_over x st w.1 ∙ over_all x (words_of st) (w.0 ∙ sym long)

    -- D5 "With a buffer of 202 words, a text is taken exactly if it is a listing"; the place is then its length, and the state that is left is that of the listing
    pub listing_read_exactly : (a ≡ answer 0 (length text)) ↔ ((x : List ℕ) × Listed text x × (left ≡ over (bytes_of x) st))
    listing_read_exactly = (
      λ e.
          let h = (theory.listing_read_exactly text (words_of st) long).0 (ap (λ (y : Answer). y.reason) (sym read.0 ∙ e)) in
          (listing_leaves text (words_of st), h, (listing_comes_back (listing_leaves text (words_of st)) h).1),
      λ h. (listing_comes_back h.0 h.1).0,
    )

    -- D5 "a refusal's place is the length of the longest beginning of the text that some listing begins with"
    pub listing_place_is_longest_beginning : a.reason ≢ 0 → (a.reason ≡ 19) × LongestListing text a.place
    listing_place_is_longest_beginning n =
        let p = theory.listing_place_is_longest_beginning text (words_of st) long (rw read.0 at n) in
        rw read.0 (p.0, p.1)

-- no two states that fit their registers have one listing
pub listing_tells_state : (text x y : List ℕ) → Listed text x → Listed text y → x ≡ y
listing_tells_state = theory.listing_tells_state

-- ==== The call of the driver

module _ (text st : List ℕ) (n : ℕ) (left : List ℕ) (call : ReadingListingBytes text st n left) where
  -- C3 "A C call answers one number: place × 256 + reason.": the number tells both
  pub read_listing_number_tells_both : Tells n (exported_read_listing text st)
  unfolding exported_read_listing
  read_listing_number_tells_both =
      rw call.0 (number_tells _ (provided_range (word_buffer_fine st && buffer_fine text) _ (theory.reason_is text (words_of st)).0))

  -- Y13 "a buffer has more than 65,536 bytes, or a buffer of words has a length that is no multiple of 4": the text is bytes, the state words
  pub read_listing_bad_buffer_exactly : BadBuffer n (ListerBuffers st text)
  unfolding exported_read_listing
  read_listing_bad_buffer_exactly =
      by_bad_buffer n _ call.0 read_listing_number_tells_both
      (provided_first (word_buffer_fine st && buffer_fine text) 13 _ (theory.reason_is text (words_of st)).1) (λ f. (listing_13 text st f).0)

  -- A6 "A refusal leaves every lent buffer as it was.": not one byte of the state
  pub read_listing_refusal_changes_nothing : n % 256 ≢ 0 → left ≡ st
  unfolding exported_read_listing_leaves
  read_listing_refusal_changes_nothing r = call.1 ∙ settle_refused (exported_read_listing text st) _ st (rw read_listing_number_tells_both.0 at r)

  -- what 13 lets through is the listing reader on the same bytes, so that every promise of the listing reader is one of this call
  pub read_listing_call_is_the_listing_reader : ListerBuffers st text → (a : Answer) × Tells n a × ReadingListing text st a left
  unfolding exported_read_listing exported_read_listing_leaves
  read_listing_call_is_the_listing_reader fine = (
    exported_read_listing text st,
    read_listing_number_tells_both,
    (provided_then (word_buffer_fine st && buffer_fine text) 13 _ fine, call.1 ∙ rw (whole_listed text st (true_of _ fine))),
  )

-- ==== There and back: irangelda_list, then irangelda_read_listing

-- values below 2^24 in the 3D cells, and words elsewhere, fit their registers
narrow_of : (st : List ℕ) → All Word st → ((c : ℕ) → c < first_video → value_at st (cell c) < 2 ^ 24) → (c : ℕ) → c < cells → value_at st (cell c) < 2 ^ (register_at (cell c)).width
narrow_of st words low c l = elim (dec_lt c first_video) [
  | yes h ↦ rw (width_3d c h) (low c h)
  | no h ↦ rw (width_video c (omega arith) l) (word_at st words c)
]
  where
    word_at : (l : List ℕ) → All Word l → (i : ℕ) → Word (get_or l i 0)
    word_at [] w i = omega arith
    word_at (x ∷ l) w zero = w.0
    word_at (x ∷ l) w (suc i) = word_at l w.1 i

-- what 0 of the lister tells of a state
formed_listed : (st : List ℕ) (room : ℕ) {r p : ℕ} → ListerGives st room r p → r ≡ 0 → T (well_formed st) × (length (listing st) ≤ room)
formed_listed st room (ListerGives.by_bad_state s) e = absurd (omega arith)
formed_listed st room (ListerGives.by_no_room s l) e = absurd (omega arith)
formed_listed st room (ListerGives.done s l) e = (s, l)

module _ (st out : List ℕ) (n : ℕ) (left : List ℕ) (call : ListingBytes st out n left) (done : n % 256 ≡ 0) (bytes : All Byte st)
    (low : (c : ℕ) → c < first_video → value_at (words_of st) (cell c) < 2 ^ 24) where
  abbrev words : List ℕ
  words = words_of st

  fine : ListerBuffers st out
  fine = passes (word_buffer_fine st && buffer_fine out) (λ k. let e = (list_bad_buffer_exactly st out n left call).0.1 k in omega arith)

  told : (a : Answer) × Tells n a × Listing st out a left
  told = list_call_is_the_lister st out n left call fine

  listed : T (well_formed words) × (length (listing words) ≤ length out)
  listed = formed_listed words (length out) ((each_lister_reason_exactly st out told.0 left told.2 _ _).0 refl) (sym told.1.0 ∙ done)

  exact : (told.0 ≡ answer 0 (length (listing words))) × (left ≡ listing words ++ drop (length (listing words)) out)
  exact = listing_is_exact st out told.0 left told.2 listed.0 listed.1

  place : n / 256 ≡ length (listing words)
  place = told.1.1 ∙ ap (λ (x : Answer). x.place) exact.0

  text : take (n / 256) left ≡ listing words
  text = rw exact.1 (take_at (listing words) _ (n / 256) (sym place))

  -- whatever irangelda_read_listing answers on the bytes that irangelda_list wrote, with any buffer of 808 bytes: the same number, and the
  -- bytes that it leaves are the state's
  pub list_and_back : (buffer : List ℕ) → length buffer ≡ 808 → (m : ℕ) (back : List ℕ) → ReadingListingBytes (take (n / 256) left) buffer m back → (m ≡ n) × (back ≡ st)
  unfolding word_buffer_fine buffer_fine
  list_and_back buffer size m back read =
      let read' : ReadingListingBytes (listing words) buffer m back = rw text at read in
      let form = (formed_iff words).0 listed.0 in
      let whole : length st % 4 ≡ 0 = eqb_yes (and_yes (buffer_fine st) _ (and_yes (word_buffer_fine st) _ fine).0).1 in
      let small : length out ≤ 65536 = leb_yes (and_yes (word_buffer_fine st) _ fine).1 in
      let short : length (listing words) ≤ 65536 = omega (arith, listed.1) in
      let few : length buffer ≤ 65536 = omega arith in
      let even : length buffer % 4 ≡ 0 = omega arith in
      let fits : ListerBuffers buffer (listing words) =
      yes_and (word_buffer_fine buffer) _ (yes_and (buffer_fine buffer) _ (yes_leb few) (yes_eqb even)) (yes_leb short) in
      let reader = read_listing_call_is_the_listing_reader (listing words) buffer m back read' fits in
      let state : Listable words = record { formed = listed.0; narrow = narrow_of words (words_small st bytes) low } in
      let r = listing_comes_back (listing words) buffer reader.0 back reader.2 (omega (arith, length_words buffer)) words (record { state = state; same = refl }) in
      let long : length (bytes_of words) ≡ length buffer = omega (arith, length_bytes words, form.size) in (
        omega (arith, reader.1.0 ∙ ap (λ (x : Answer). x.reason) r.0, reader.1.1 ∙ ap (λ (x : Answer). x.place) r.0, place, done),
        r.1 ∙ over_all (bytes_of words) buffer long ∙ bytes_words st bytes whole,
      )
