-- A change of programs, of whatever the contracts of irangelda_write and irangelda_read allow: the words that the writer leaves for the next
-- program go into the ring, and then that program's batches, each accepted under its own grants.
-- Assumes nothing.
use mathlib.Core.Path.{◌≡◌, refl, sym, ap, subst, ◌∙◌}
use mathlib.Core.Logic.{◌↔◌}
use mathlib.Core.List.{List, [], map}
use Prim.Native.Nat.{ℕ, ◌*◌, ◌/◌, ◌%◌, ◌≤◌}
use native.Mathlib.Omega.{arith}
use lib.Dec.{T}
use lib.ListN.{length, take}
use Rattle.laws.specs.Lists.{All}
use Rattle.meaning.specs.Answers.{Answer}
use Rattle.meaning.specs.Words.{Byte, Word, words_of, bytes_of}
use Rattle.meaning.specs.Grants.{grants_of, grants_fine, terms_of}
use Rattle.meaning.specs.State.{state_words, well_formed, apply_all}
use Rattle.meaning.specs.Positions.{writes_of}
use Rattle.meaning.specs.Reader.{read_leaves}
use Rattle.meaning.specs.Writer.{written, write_answer}
use Rattle.meaning.specs.Fitter.{Inside, Apart, Safe, OfTarget}
use Rattle.meaning.specs.Exported.{exported_read, exported_read_leaves}
use Rattle.meaning.proofs.Bytes.{words_bytes, settle_done}
use Rattle.meaning.proofs.Exported.{words_small}
use Rattle.chip.specs.Chip.{obeys, obeys_all, AllAccepted, left_by, Full, Remarked, AddressesRemarked, PairRemarked, LaidOver, EachAddress}
use Rattle.chip.specs.House.{HouseGranted, Whole, house}
use Rattle.chip.proofs.Switch as theory
use Rattle.chip.proofs.House as the_house
use Rattle.promises.specs.CallContracts.{ReadingBytes, WritingBytes, WordBuffers, Accepting}
use Rattle.promises.specs.CallContracts.Accepting.{no_more, and_then}
use Rattle.promises.proofs.Bytes.{bytes_small}
use Rattle.promises.proofs.Promises.{left_as_words}
use Rattle.promises.proofs.Driver.{read_number_tells_both, read_call_is_the_reader, read_let_through, write_call_is_the_writer, written_bytes, written_again, wrote_0}

-- ---- a program's turn, on bytes and on words

-- a call of irangelda_read that accepts leaves bytes
accepted_bytes : (batch grants st : List ℕ) {n : ℕ} {left : List ℕ} → ReadingBytes batch grants st n left → n % 256 ≡ 0 → All Byte left
unfolding exported_read_leaves
accepted_bytes batch grants st call z =
    let zero : (exported_read batch grants st).reason ≡ 0 = sym (read_number_tells_both batch grants st call).0 ∙ z in
    let new = bytes_of (read_leaves (words_of batch) (words_of grants) (words_of st)) in
    rw (call.1 ∙ settle_done (exported_read batch grants st) new st zero) (bytes_small (read_leaves (words_of batch) (words_of grants) (words_of st)))

-- what it comes to: its batches are accepted as words, and what they leave is, as words, what the definitions leave
turn : {grants st end : List ℕ} {batches : List (List ℕ)} → All Byte st → Accepting grants st batches end
    → AllAccepted (words_of grants) (words_of st) (map words_of batches) × (words_of end ≡ left_by (words_of grants) (words_of st) (map words_of batches))
turn s no_more = (tt, refl)
turn {grants} {st} s (and_then b bs n left bytes read z more) =
    let rest = turn (accepted_bytes b grants st read z) more in
    let reader = read_call_is_the_reader b grants st read (read_let_through b grants st read z) in
    let zero = ap (λ (x : Answer). x.reason) (sym reader.2.0) ∙ sym reader.1.0 ∙ z in
    let now = left_as_words b grants st reader.0 left reader.2 bytes s in (
      (zero, subst (λ (x : List ℕ). AllAccepted (words_of grants) x (map words_of bs)) now rest.0),
      rest.1 ∙ ap (λ (x : List ℕ). left_by (words_of grants) x (map words_of bs)) now,
    )

-- its batches are words of 32 bits
batches_small : {grants st end : List ℕ} {batches : List (List ℕ)} → Accepting grants st batches end → All (All Word) (map words_of batches)
batches_small no_more = tt
batches_small (and_then b bs n left bytes read z more) = (words_small b bytes, batches_small more)

-- ---- the change

-- st: the bytes that the driver keeps for the next program; irangelda_write takes them under that program's grants
module _ (st grants out : List ℕ) (n : ℕ) (left : List ℕ) (call : WritingBytes st grants out n left) (done : n % 256 ≡ 0) where
  -- what goes into the ring: the first 4 × place bytes of the output, as words
  abbrev pub ring : List ℕ
  ring = words_of (take (4 * (n / 256)) left)

  -- the program's state, as words
  abbrev next : List ℕ
  next = words_of st

  pub ring_is_written : ring ≡ written next
  ring_is_written = ap words_of (written_bytes st grants out n left call done) ∙ written_again st grants out n left call done

  zero : (write_answer next (words_of grants) (length out / 4)).reason ≡ 0
  zero = wrote_0 st grants out n left call done

  -- chip: what the chip's registers hold, whoever wrote them since it was reset
  module _ (chip : List ℕ) where
    -- the words leave the program's state where it is marked, and what was there elsewhere
    pub switch_lays : length chip ≡ state_words → LaidOver chip next (obeys chip ring)
    switch_lays size = rw ring_is_written (theory.switch_lays chip next (words_of grants) (length out / 4) zero size)

    -- they leave the program's state, and nothing else, exactly if it marks every cell that was marked
    pub switch_leaves_nothing : T (well_formed chip) → (obeys chip ring ≡ next) ↔ Remarked chip next
    switch_leaves_nothing w = rw ring_is_written (theory.switch_leaves_nothing chip next (words_of grants) (length out / 4) zero w)

    -- so a state that marks every cell is left, whatever was there
    pub switch_to_full : T (well_formed chip) → Full next → obeys chip ring ≡ next
    switch_to_full w full = (switch_leaves_nothing w).1 (λ c l m. full c l)

    module _ (bytes : All Byte st) (batches : List (List ℕ)) (end : List ℕ) (accepted : Accepting grants st batches end) where
      -- after them, and after any batches that irangelda_read accepts for the program, every address on the chip lies, with its reach, inside
      -- a grant of the program's own, if the program's state marks the cells that held an address
      pub after_a_switch : length chip ≡ state_words → AddressesRemarked chip next
          → EachAddress (Inside (grants_of (words_of grants))) (obeys_all (obeys chip ring) (map words_of batches))
      after_a_switch size r =
          rw ring_is_written
          (theory.after_a_switch chip next (words_of grants) (length out / 4) zero size r (map words_of batches) (turn bytes accepted).0)

      -- also in the midst of a further batch that is accepted: after any number of its writes. Of the memory that cell 2 names then, nothing is said
      pub amid_a_batch : length chip ≡ state_words → AddressesRemarked chip next → (batch : List ℕ) (m : ℕ) (after : List ℕ)
          → ReadingBytes batch grants end m after → m % 256 ≡ 0 → (k : ℕ)
          → EachAddress (Inside (grants_of (words_of grants))) (apply_all (obeys_all (obeys chip ring) (map words_of batches)) (take k (writes_of (words_of batch))))
      amid_a_batch size r batch m after read z k =
          let reader = read_call_is_the_reader batch grants end read (read_let_through batch grants end read z) in
          let t = turn bytes accepted in
          let ok = ap (λ (x : Answer). x.reason) (sym reader.2.0) ∙ sym reader.1.0 ∙ z in
          rw ring_is_written
          (theory.amid_a_batch chip next (words_of grants) (length out / 4) zero size r (map words_of batches) t.0 (words_of batch) (rw t.1 at ok) k)

      -- and touches nothing that is granted to another program, where no byte of one memory is granted to both
      pub after_a_switch_apart : length chip ≡ state_words → AddressesRemarked chip next → (theirs : List ℕ)
          → Apart (grants_of (words_of grants)) (grants_of (words_of theirs))
          → EachAddress (Safe (grants_of (words_of grants)) (grants_of (words_of theirs))) (obeys_all (obeys chip ring) (map words_of batches))
      after_a_switch_apart size r theirs apart =
          rw ring_is_written
          (theory.after_a_switch_apart chip next (words_of grants) (length out / 4) zero size r (map words_of batches) (turn bytes accepted).0 (words_of theirs) apart)

      -- and if the program's state marks cells 1 and 2 where they held something, the target's address lies, with its reach, inside a grant of
      -- the program's own in the memory that cell 2 of the chip names: after the words, and after each batch
      pub target_after_a_switch : T (well_formed chip) → PairRemarked chip next
          → OfTarget (Inside (grants_of (words_of grants))) (obeys_all (obeys chip ring) (map words_of batches))
      target_after_a_switch w r =
          rw ring_is_written
          (theory.target_after_a_switch chip next (words_of grants) (length out / 4) zero w r (map words_of batches) (turn bytes accepted).0)

      pub target_after_a_switch_apart : T (well_formed chip) → PairRemarked chip next → (theirs : List ℕ)
          → Apart (grants_of (words_of grants)) (grants_of (words_of theirs))
          → OfTarget (Safe (grants_of (words_of grants)) (grants_of (words_of theirs))) (obeys_all (obeys chip ring) (map words_of batches))
      target_after_a_switch_apart w r theirs apart =
          rw ring_is_written
          (theory.target_after_a_switch_apart chip next (words_of grants) (length out / 4) zero w r (map words_of batches) (turn bytes accepted).0 (words_of theirs) apart)

      -- if the program's state marks every cell that was marked, the chip then holds what the driver keeps for the program
      pub chip_is_the_state : T (well_formed chip) → Remarked chip next → obeys_all (obeys chip ring) (map words_of batches) ≡ words_of end
      chip_is_the_state w r =
          let t = turn bytes accepted in
          rw ring_is_written
          (theory.chip_is_the_state chip next (words_of grants) (length out / 4) (map words_of batches) w zero r t.0 ∙ sym t.1)

-- ==== The house's state, to start a program from

module _ (grants : List ℕ) (t f s : ℕ) (l : T (grants_fine (words_of grants))) (h : HouseGranted (terms_of (words_of grants)) t f s) where
  -- its bytes are it
  same : words_of (bytes_of (house t f s)) ≡ house t f s
  same = words_bytes (house t f s) (the_house.house_words (words_of grants) t f s l h)

  -- every state that a program reaches from it is well-formed, marks every cell, and is taken by the writer under the program's grants: a
  -- change to that program leaves nothing of another, whatever was on the chip
  pub house_program : (batches : List (List ℕ)) (end : List ℕ) → Accepting grants (bytes_of (house t f s)) batches end → Whole (words_of grants) (words_of end)
  house_program batches end accepted =
      let x = turn (bytes_small (house t f s)) accepted in
      let from = subst (λ (y : List ℕ). AllAccepted (words_of grants) y (map words_of batches)) same x.0 in
      rw (x.1 ∙ ap (λ (y : List ℕ). left_by (words_of grants) y (map words_of batches)) same)
      (the_house.house_whole (words_of grants) t f s l h (map words_of batches) (batches_small accepted) from)

  module _ (out : List ℕ) (n : ℕ) (left : List ℕ) where
    -- irangelda_write takes each of them, with 736 bytes of room, and gives 184 words
    pub house_turn : (batches : List (List ℕ)) (end : List ℕ) → Accepting grants (bytes_of (house t f s)) batches end → WritingBytes end grants out n left
        → WordBuffers end grants out → 736 ≤ length out → n ≡ 184 * 256
    house_turn batches end accepted call fine room =
        let writer = write_call_is_the_writer end grants out call fine in
        let enough : 184 ≤ length out / 4 = omega arith in
        let answered = writer.2.0 ∙ the_house.whole_is_written (words_of grants) (words_of end) (length out / 4) (house_program batches end accepted) enough in
        omega (arith, writer.1.0 ∙ ap (λ (x : Answer). x.reason) answered, writer.1.1 ∙ ap (λ (x : Answer). x.place) answered)

    -- so it takes the house's state itself, under any grants that grant its three addresses. By bytes_round_trip, irangelda_read then takes
    -- 808 zero bytes to it
    pub house_is_writable : WritingBytes (bytes_of (house t f s)) grants out n left → WordBuffers (bytes_of (house t f s)) grants out → 736 ≤ length out → n ≡ 184 * 256
    house_is_writable = house_turn [] (bytes_of (house t f s)) no_more
