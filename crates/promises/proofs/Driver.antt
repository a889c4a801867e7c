-- What the calls of the driver promise, of whatever their contracts allow: a number n, and the bytes that are left in the lent buffer.
-- Assumes nothing.
use mathlib.Core.Path.{◌≡◌, refl, sym, ap, ap₂, ◌∙◌}
use mathlib.Core.Logic.{◌↔◌, ◌≢◌}
use mathlib.Core.Bool.{Bool, true, false}
use mathlib.Core.List.{List, [], ◌∷◌}
use Prim.Native.Nat.{ℕ, ◌*◌, ◌/◌, ◌%◌, ◌≤◌}
use native.Mathlib.Omega.{arith}
use lib.Dec.{T, leb}
use lib.ListN.{length, take}
use lib.Seq.{take_at}
use mir.Facts.{and_yes, yes_and, yes_leb, eqb_yes, yes_eqb}
use Rattle.laws.specs.Lists.{All, every, over}
use Rattle.laws.proofs.Tests.{true_of, false_of}
use Rattle.meaning.specs.Words.{Byte, Word, words_of, bytes_of}
use Rattle.meaning.specs.Grants.{grants_fine, terms_of}
use Rattle.meaning.specs.Batch.{HoldableTarget, HoldableScaler}
use Rattle.meaning.specs.Pair.{pair_fine, Permitted, Longest}
use Rattle.meaning.specs.State.{well_formed, empty}
use Rattle.meaning.specs.Answers.{Answer, answer, number_of}
use Rattle.meaning.specs.Reader.{read_answer, read_leaves}
use Rattle.meaning.specs.Writer.{written, write_answer}
use Rattle.meaning.specs.Exported.{buffer_fine, word_buffer_fine, exported_read, exported_read_leaves, exported_write, exported_write_leaves, exported_list, exported_list_leaves}
use Rattle.meaning.proofs.Bytes.{words_bytes, bytes_words, length_words, length_bytes, number_tells, settle_done, settle_refused}
use Rattle.meaning.proofs.Exported.{read_13_exactly, write_13_exactly, list_13_exactly, read_call_range, write_call_range, list_call_range, read_call, write_call, list_call, list_call_leaves}
use Rattle.meaning.proofs.Writing.{written_words, written_at_most}
use Rattle.meaning.proofs.States.{Sound}
use Rattle.meaning.proofs.Exactly.{accepted_permitted}
use Rattle.meaning.proofs.Outputs.{wrote, written_back}
use Rattle.irangelda.proofs.Buffers.{over_all, whole_state, read_13, write_13, list_13}
use Rattle.irangelda.proofs.irangelda_read.Reads as irangelda_read
use Rattle.irangelda.proofs.irangelda_write.Reads as irangelda_write
use Rattle.irangelda.proofs.irangelda_list.Reads as irangelda_list
use Rattle.promises.proofs.Promises.{accepted_exactly, place_is_longest_beginning}
use Rattle.promises.specs.CallContracts.{Reading, Writing, Listing, ReadingBytes, WritingBytes, ListingBytes, WordBuffers, ListerBuffers, Tells, BadBuffer, zeros}

-- ==== The contracts

-- what `irangelda_read` is proved to do, for any buffers that are lent to it,
pub reads_bytes : (κs : _) (a : _) (r : _) (s : _) → irangelda_read.Learnt κs a r s → ReadingBytes a.0.now a.1.0.now a.1.1.0.now r s.1.1.0.now
reads_bytes κs a r s p = p

-- `irangelda_write`
pub writes_bytes : (κs : _) (a : _) (r : _) (s : _) → irangelda_write.Learnt κs a r s → WritingBytes a.0.now a.1.0.now a.1.1.0.now r s.1.1.0.now
writes_bytes κs a r s p = p

-- and `irangelda_list`
pub lists_bytes : (κs : _) (a : _) (r : _) (s : _) → irangelda_list.Learnt κs a r s → ListingBytes a.0.now a.1.0.now r s.1.0.now
lists_bytes κs a r s p = p

-- ==== The calls of the driver

-- C2 "four bytes are a word of 32 bits, the lowest byte first": words of 32 bits and bytes, four for each word, are the same thing
pub words_are_their_bytes : (ws bs : List ℕ) → (All Word ws → words_of (bytes_of ws) ≡ ws) × (All Byte bs → length bs % 4 ≡ 0 → bytes_of (words_of bs) ≡ bs)
words_are_their_bytes ws bs = (words_bytes ws, bytes_words bs)

-- a number that tells the answer a, and what is known of a: 13 is told exactly of bad buffers, and at place 0
pub by_bad_buffer : (n : ℕ) (a : Answer) {fine : Bool} → n ≡ number_of a → Tells n a → (a.reason ≡ 13) ↔ (¬ T fine) → (fine ≡ false → 13 ≡ number_of a) → BadBuffer n (T fine)
by_bad_buffer n a e tells exactly first = (rw tells.0 exactly, λ bad. e ∙ sym (first (false_of _ bad)))

-- of reader and writer: x, y and z are the bytes that are lent, z those that may be changed
module _ (x y z : List ℕ) {n : ℕ} {left : List ℕ} where
  -- C3 "A C call answers one number: place × 256 + reason.": the number tells both
  pub read_number_tells_both : ReadingBytes x y z n left → Tells n (exported_read x y z)
  read_number_tells_both call = rw call.0 (number_tells (exported_read x y z) (read_call_range x y z))

  pub write_number_tells_both : WritingBytes x y z n left → Tells n (exported_write x y z)
  write_number_tells_both call = rw call.0 (number_tells (exported_write x y z) (write_call_range x y z))

  -- Y13 "a buffer has more than 65,536 bytes, or a buffer of words has a length that is no multiple of 4", before all others, and at place 0
  pub read_bad_buffer_exactly : ReadingBytes x y z n left → BadBuffer n (WordBuffers x y z)
  read_bad_buffer_exactly call = by_bad_buffer n _ call.0 (read_number_tells_both call) (read_13_exactly x y z) (λ f. (read_13 x y z f).0)

  pub write_bad_buffer_exactly : WritingBytes x y z n left → BadBuffer n (WordBuffers x y z)
  write_bad_buffer_exactly call = by_bad_buffer n _ call.0 (write_number_tells_both call) (write_13_exactly x y z) (λ f. (write_13 x y z f).0)

  -- A6 "A refusal leaves every lent buffer as it was.": not one byte of the reader's state, or of the writer's output
  pub read_refusal_changes_nothing : ReadingBytes x y z n left → n % 256 ≢ 0 → left ≡ z
  unfolding exported_read_leaves
  read_refusal_changes_nothing call r = call.1 ∙ settle_refused (exported_read x y z) _ z (rw (read_number_tells_both call).0 at r)

  pub write_refusal_changes_nothing : WritingBytes x y z n left → n % 256 ≢ 0 → left ≡ z
  unfolding exported_write_leaves
  write_refusal_changes_nothing call r = call.1 ∙ settle_refused (exported_write x y z) _ z (rw (write_number_tells_both call).0 at r)

  -- A7 "D2, D3, D5 and D8 speak of calls that 13 lets through.": the number tells an answer that the reader's contract allows on the same bytes,
  -- with what is left, so that every promise of the reader is one of this call
  pub read_call_is_the_reader : ReadingBytes x y z n left → WordBuffers x y z → (a : Answer) × Tells n a × Reading x y z a left
  unfolding exported_read_leaves
  read_call_is_the_reader call fine =
      (exported_read x y z, read_number_tells_both call, (read_call x y z fine, call.1 ∙ rw (whole_state x y z (true_of _ fine))))

  -- and the writer's
  pub write_call_is_the_writer : WritingBytes x y z n left → WordBuffers x y z → (a : Answer) × Tells n a × Writing x y z a left
  unfolding exported_write_leaves
  write_call_is_the_writer call fine =
      (exported_write x y z, write_number_tells_both call, (write_call x y z fine ∙ ap (write_answer (words_of x) (words_of y)) (length_words z), call.1))

module _ (st out : List ℕ) (n : ℕ) (left : List ℕ) (call : ListingBytes st out n left) where
  -- C3 "A C call answers one number: place × 256 + reason.": the number tells both
  pub list_number_tells_both : Tells n (exported_list st out)
  list_number_tells_both = rw call.0 (number_tells (exported_list st out) (list_call_range st out))

  -- Y13 again: of the lister the state is words
  pub list_bad_buffer_exactly : BadBuffer n (ListerBuffers st out)
  list_bad_buffer_exactly = by_bad_buffer n _ call.0 list_number_tells_both (list_13_exactly st out) (λ f. (list_13 st out f).0)

  -- A6 "A refusal leaves every lent buffer as it was.": not one byte of the output
  pub list_refusal_changes_nothing : n % 256 ≢ 0 → left ≡ out
  unfolding exported_list_leaves
  list_refusal_changes_nothing z = call.1 ∙ settle_refused (exported_list st out) _ out (rw list_number_tells_both.0 at z)

  -- what 13 lets through is the lister on the same bytes
  pub list_call_is_the_lister : ListerBuffers st out → (a : Answer) × Tells n a × Listing st out a left
  list_call_is_the_lister fine =
      (exported_list st out, list_number_tells_both, (list_call st out fine, call.1 ∙ list_call_leaves st out fine))

-- ==== Demand 3, of the number that irangelda_read answers

module _ (batch grants st : List ℕ) (n : ℕ) (left : List ℕ) (call : ReadingBytes batch grants st n left) (fine : WordBuffers batch grants st)
    (s : T (well_formed (words_of st))) (l : T (grants_fine (words_of grants))) where
  -- the answer that the number tells
  told : (a : Answer) × Tells n a × Reading batch grants st a left
  told = read_call_is_the_reader batch grants st call fine

  -- D3 "a batch is accepted exactly if it is permitted from that state": the number is then 256 times the words of the batch
  pub read_accepted_exactly : (n ≡ length (words_of batch) * 256) ↔ Permitted (terms_of (words_of grants)) (words_of st) (words_of batch)
  read_accepted_exactly =
      let e = accepted_exactly batch grants st told.0 left told.2 s l in
      let reason = told.1.0 in
      let place = told.1.1 in (
        λ x. e.0 (ap₂ answer (sym reason ∙ omega arith) (sym place ∙ omega arith)),
        λ c. let a = e.1 c in omega (arith, reason ∙ ap (λ (x : Answer). x.reason) a, place ∙ ap (λ (x : Answer). x.place) a),
      )

  -- and its reason is 0 exactly then
  pub read_reason_0_exactly : (n % 256 ≡ 0) ↔ Permitted (terms_of (words_of grants)) (words_of st) (words_of batch)
  read_reason_0_exactly = (
    λ z. accepted_permitted (words_of batch) (words_of grants) (words_of st) (ap (λ (x : Answer). x.reason) (sym told.2.0) ∙ sym told.1.0 ∙ z),
    λ c. omega (arith, read_accepted_exactly.1 c),
  )

  -- D3 "a refusal's place is the length of the longest beginning of the batch that some permitted batch begins with"
  pub read_place_is_longest_beginning : HoldableTarget (terms_of (words_of grants)) → HoldableScaler (terms_of (words_of grants)) 2 → HoldableScaler (terms_of (words_of grants)) 3
      → n % 256 ≢ 0 → Longest (terms_of (words_of grants)) (words_of st) (words_of batch) (n / 256)
  read_place_is_longest_beginning h1 h2 h3 z =
      rw told.1.1 (place_is_longest_beginning batch grants st told.0 left told.2 s l h1 h2 h3 (λ e. z (told.1.0 ∙ e)))

-- ==== There and back: irangelda_write, then irangelda_read

-- a test that cannot fail
pub passes : (b : Bool) → ¬ ¬ T b → T b
passes true h = tt
passes false h = absurd (h (λ t. t))

-- a number whose reason is 0 was let through by 13
let_through : (a b c : List ℕ) (n : ℕ) → BadBuffer n (WordBuffers a b c) → n % 256 ≡ 0 → WordBuffers a b c
let_through a b c n bad z = passes (every word_buffer_fine (a ∷ b ∷ c ∷ [])) (λ k. told_13 (bad.0.1 k))
  where
    told_13 : n % 256 ≡ 13 → ⊥
    told_13 e = omega arith

pub read_let_through : (a b c : List ℕ) {n : ℕ} {left : List ℕ} → ReadingBytes a b c n left → n % 256 ≡ 0 → WordBuffers a b c
read_let_through a b c {n} call = let_through a b c n (read_bad_buffer_exactly a b c call)

-- what it lets through, part by part
fine_parts : (a b c : List ℕ) → WordBuffers a b c → T (word_buffer_fine a) × T (word_buffer_fine b)
unfolding every
fine_parts a b c t = let p = and_yes (word_buffer_fine a) _ t in (p.0, (and_yes (word_buffer_fine b) _ p.1).0)

fine_join : (a b c : List ℕ) → T (word_buffer_fine a) → T (word_buffer_fine b) → T (word_buffer_fine c) → WordBuffers a b c
unfolding every
fine_join a b c x y z = yes_and (word_buffer_fine a) _ x (yes_and (word_buffer_fine b) _ y (yes_and (word_buffer_fine c) _ z tt))

whole_words : (a : List ℕ) → T (word_buffer_fine a) → length a % 4 ≡ 0
unfolding word_buffer_fine
whole_words a t = eqb_yes (and_yes (buffer_fine a) _ t).1

zeros_empty : words_of zeros ≡ empty
unfolding empty
zeros_empty = refl

zeros_fine : T (word_buffer_fine zeros)
unfolding word_buffer_fine buffer_fine
zeros_fine = tt

-- the bytes of a written state are a buffer of words
written_fine : (st : List ℕ) → T (word_buffer_fine (bytes_of (written st)))
unfolding word_buffer_fine buffer_fine
written_fine st =
    let n = length_bytes (written st) in
    let few = written_at_most st in
    let short : length (bytes_of (written st)) ≤ 65536 = omega arith in
    let whole : length (bytes_of (written st)) % 4 ≡ 0 = omega arith in
    yes_and (leb (length (bytes_of (written st))) 65536) _ (yes_leb short) (yes_eqb whole)

module _ (st grants out : List ℕ) (n : ℕ) (left : List ℕ) (call : WritingBytes st grants out n left) (done : n % 256 ≡ 0) where
  abbrev words : List ℕ
  words = words_of st

  pub write_let_through : WordBuffers st grants out
  write_let_through = let_through st grants out n (write_bad_buffer_exactly st grants out call) done

  -- the answer that the number tells
  wrote_told : (a : Answer) × Tells n a × Writing st grants out a left
  wrote_told = write_call_is_the_writer st grants out call write_let_through

  pub wrote_0 : (write_answer words (words_of grants) (length out / 4)).reason ≡ 0
  wrote_0 = ap (λ (x : Answer). x.reason) (sym wrote_told.2.0) ∙ sym wrote_told.1.0 ∙ done

  pub wrote_what : T (grants_fine (words_of grants)) × Sound (terms_of (words_of grants)) words × ((write_answer words (words_of grants) (length out / 4)).place ≡ length (written words))
      × T (pair_fine (terms_of (words_of grants)) words)
  wrote_what = wrote words (words_of grants) (length out / 4) wrote_0

  place : n / 256 ≡ length (written words)
  place = wrote_told.1.1 ∙ ap (λ (x : Answer). x.place) wrote_told.2.0 ∙ wrote_what.2

  -- the first 4 × place bytes that irangelda_write leaves are the written words of the state
  pub written_bytes : take (4 * (n / 256)) left ≡ bytes_of (written words)
  written_bytes =
      rw (wrote_told.2.1 ∙ settle_done wrote_told.0 _ out (sym wrote_told.1.0 ∙ done))
      (take_at (bytes_of (written words)) _ (4 * (n / 256)) (omega (arith, length_bytes (written words), place)))

  -- which come back from them
  pub written_again : words_of (bytes_of (written words)) ≡ written words
  written_again = words_bytes (written words) (written_words (terms_of (words_of grants)) words wrote_what.1.fine)

  -- whatever irangelda_read answers on them, under the same grants, with a state of 808 zero bytes: the same number, and the bytes that it
  -- leaves are the state's
  pub bytes_round_trip : All Byte st → (m : ℕ) (back : List ℕ) → ReadingBytes (take (4 * (n / 256)) left) grants zeros m back → (m ≡ n) × (back ≡ st)
  bytes_round_trip bytes m back read =
      let W = bytes_of (written words) in
      let parts = fine_parts st grants out write_let_through in
      let fine = fine_join W grants zeros (written_fine words) parts.1 zeros_fine in
      let again = written_back words (words_of grants) wrote_what.0 wrote_what.1 wrote_what.3 in
      let read' : ReadingBytes W grants zeros m back = rw written_bytes at read in
      let reader = read_call_is_the_reader W grants zeros read' fine in
      let answered : reader.0 ≡ answer 0 (length (written words)) =
      reader.2.0 ∙ ap₂ (λ (x y : List ℕ). read_answer x (words_of grants) y) written_again zeros_empty ∙ again.0 in
      let came : read_leaves (words_of W) (words_of grants) (words_of zeros) ≡ words =
      ap₂ (λ (x y : List ℕ). read_leaves x (words_of grants) y) written_again zeros_empty ∙ again.1 in
      let same : bytes_of words ≡ st = bytes_words st bytes (whole_words st parts.0) in
      let long : length (bytes_of words) ≡ 808 = omega (arith, length_bytes words, wrote_what.1.formed.size) in
      let size : length st ≡ 808 = rw same at long in (
        omega (arith, reader.1.0 ∙ ap (λ (x : Answer). x.reason) answered, reader.1.1 ∙ ap (λ (x : Answer). x.place) answered, place, done),
        reader.2.1 ∙ settle_done reader.0 _ zeros (ap (λ (x : Answer). x.reason) answered)
            ∙ ap (λ (x : List ℕ). over x zeros) (ap bytes_of came ∙ same) ∙ over_all st zeros size,
      )
