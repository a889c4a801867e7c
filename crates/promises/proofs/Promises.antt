-- What the reader, the writer and the lister promise, of whatever their contracts allow: an answer a, and what is left in the lent buffer.
-- All buffers are bytes. What the calls of the driver promise, in numbers and bytes, is in Driver.
-- Assumes nothing.
use mathlib.Core.Path.{◌≡◌, refl, ap, ◌∙◌}
use mathlib.Core.Logic.{◌↔◌, ◌≢◌, ◌⊎◌, inl, inr}
use mathlib.Core.List.{List, ◌∷◌, ◌++◌}
use Prim.Native.Nat.{ℕ, ◌+◌, ◌/◌, ◌≤◌, ◌<◌}
use native.Mathlib.Omega.{arith}
use lib.Dec.{T}
use lib.ListN.{length, drop, get_or}
use Rattle.laws.specs.Lists.{All}
use Rattle.meaning.specs.Words.{Byte, Word, words_of, bytes_of}
use Rattle.meaning.specs.Registers.{cells, cell}
use Rattle.meaning.specs.Grants.{grants_of, grants_fine, terms_of, Terms}
use Rattle.meaning.specs.Batch.{Cut, HoldableTarget, HoldableScaler}
use Rattle.meaning.specs.State.{value_at, mark_at, well_formed, empty, Write, apply_all, all_writes}
use Rattle.meaning.specs.Pair.{wrote_pair, Permitted, Longest, Reached}
use Rattle.meaning.specs.Positions.{writes_of}
use Rattle.meaning.specs.Answers.{Answer, answer, answer_in}
use Rattle.meaning.specs.Reader.{read_leaves}
use Rattle.meaning.specs.Writer.{written}
use Rattle.meaning.specs.Lister.{listing, list_answer, list_leaves}
use Rattle.meaning.specs.Reasons.{Writable, ReaderGives, WriterGives, ListerGives}
use Rattle.meaning.specs.Fitter.{Inside, Apart, Safe, EachKept}
use Rattle.meaning.proofs.Cuts.{cut_one_way}
use Rattle.meaning.proofs.Writing.{written_words, written_at_most}
use Rattle.meaning.proofs.States.{formed_iff, untouched, last_holds}
use Rattle.meaning.proofs.Round.{reached_sound, reached_pair, reached_iff, packets_low, left_by_lem, accepted_formed, leaves_formed}
use Rattle.meaning.proofs.Exactly.{accepted_permitted, accepted_iff, read_exactly}
use Rattle.meaning.proofs.Outputs.{write_told, write_answer_lem, write_exactly, written_back, list_answer_lem, list_exactly, listing_at_most}
use Rattle.meaning.proofs.Bytes.{words_bytes, settle_done, settle_refused}
use Rattle.pairing.specs.Same.{SamePair}
use Rattle.pairing.proofs.Mended.{refusal_longest}
use Rattle.pairing.proofs.Ignores.{ignores}
use Rattle.pairing.proofs.Kept.{inside_kept, safe_kept}
use Rattle.reader.proofs.read.Reads as read
use Rattle.writer.proofs.write.Reads as write
use Rattle.lister.proofs.list.Reads as list
use Rattle.promises.proofs.Bytes.{bytes_small, read_leaves_lem}
use Rattle.promises.specs.CallContracts.{Reading, Writing, Listing}

-- ==== The contracts

-- what `reader::read` is proved to do, for any buffers that are lent to it
pub reads : (κs : _) (a : _) (r : _) (s : _) → read.Learnt κs a r s → Reading a.0.now a.1.0.now a.1.1.0.now (answer_in r) s.1.1.0.now
reads κs a r s p = p

-- `writer::write`
pub writes : (κs : _) (a : _) (r : _) (s : _) → write.Learnt κs a r s → Writing a.0.now a.1.0.now a.1.1.0.now (answer_in r) s.1.1.0.now
writes κs a r s p = p

-- and `lister::list`
pub lists : (κs : _) (a : _) (r : _) (s : _) → list.Learnt κs a r s → Listing a.0.now a.1.0.now (answer_in r) s.1.0.now
lists κs a r s p = p

-- ==== Demand 3

-- `batch`, `grants` and `st` are the bytes that were lent, of any length, and ws, gs and sw the words that they are
module _ (batch grants st : List ℕ) (a : Answer) (left : List ℕ) (read : Reading batch grants st a left) where
  abbrev ws : List ℕ
  ws = words_of batch

  abbrev gs : List ℕ
  gs = words_of grants

  abbrev sw : List ℕ
  sw = words_of st

  -- D3 "a batch is accepted exactly if it is permitted from that state": B14 "a row of whole permitted packets and keeps the pair"; the place
  -- is then its length
  pub accepted_exactly : T (well_formed sw) → T (grants_fine gs) → (a ≡ answer 0 (length ws)) ↔ Permitted (terms_of gs) sw ws
  accepted_exactly s l = rw read.0 (accepted_iff ws gs sw s l)

  -- D3 "a refusal's place is the length of the longest beginning of the batch that some permitted batch begins with", if D3 "each of the three
  -- roles has a granted address that its registers can hold"
  pub place_is_longest_beginning : T (well_formed sw) → T (grants_fine gs) → HoldableTarget (terms_of gs) → HoldableScaler (terms_of gs) 2 → HoldableScaler (terms_of gs) 3
      → a.reason ≢ 0 → Longest (terms_of gs) sw ws a.place
  place_is_longest_beginning s l h1 h2 h3 n = rw read.0 (refusal_longest ws gs sw s l h1 h2 h3 (rw read.0 at n))

  -- D1 "Every refusal has the reason and the place that these rules give it": the answer is r at p exactly if the table says so
  pub each_reason_exactly : (r p : ℕ) → (a ≡ answer r p) ↔ ReaderGives ws gs sw r p
  each_reason_exactly r p = rw read.0 (read_exactly ws gs sw r p)

  -- D1 "the state and all output buffers are then as they were": not one byte of the state is changed
  pub refused_unread : a.reason ≢ 0 → left ≡ st
  refused_unread n = read.1 ∙ settle_refused a _ st n

  -- of what the registers hold, the reader's answer depends on cells 1 and 2 alone, and only as to 0 or 14: no place depends on it, no reason
  -- but these, and these not where the batch writes neither cell
  pub answer_ignores_state : (other : List ℕ) (b : Answer) (after : List ℕ) → Reading batch grants other b after → T (well_formed sw) → T (well_formed (words_of other))
      → (a.place ≡ b.place)
      × (a.reason ≢ 0 → a.reason ≢ 14 → a ≡ b)
      × (SamePair sw (words_of other) → a ≡ b)
      × (¬ T (wrote_pair (writes_of ws)) → a ≡ b)
  answer_ignores_state other b after also s o =
      let i = ignores ws gs sw (words_of other) s o in
      rw (read.0, also.0) (i.place, i.refusals, i.pair, i.unwritten)

  -- ==== Demand 2: what the bytes of the state then are, as words

  module _ (b : All Byte batch) (s : All Byte st) where
    -- as the definitions leave it, accepted or refused
    pub left_as_words : words_of left ≡ read_leaves ws gs sw
    left_as_words = rw (read.1, read.0) (read_leaves_lem batch grants st b s)

    -- and, accepted, by any cut
    left_as_cut : a.reason ≡ 0 → (c : Cut (terms_of gs) ws) → words_of left ≡ apply_all sw (all_writes c.packets)
    left_as_cut e c = left_as_words ∙ left_by_lem ws gs sw (rw read.0 at e) c

    -- D2 "What an accepted batch leaves is the state that its writes make, one after another, by these tables."
    pub state_is_its_writes : a.reason ≡ 0 → (p : Permitted (terms_of gs) sw ws) × (words_of left ≡ apply_all sw (all_writes p.cut.packets))
    state_is_its_writes e = let p = accepted_permitted ws gs sw (rw read.0 at e) in (p, left_as_cut e p.cut)

    -- S6 "the last write holds"
    pub last_write_holds : a.reason ≡ 0 → (c : Cut (terms_of gs) ws) (before : List Write) (w : Write) (later : List Write)
        → all_writes c.packets ≡ before ++ w ∷ later → All (λ x. x.cell.0 ≢ w.cell.0) later
        → (value_at (words_of left) w.cell ≡ w.value) × (mark_at (words_of left) w.cell ≡ 1)
    last_write_holds e c before w later split other =
        let low = rw split at (packets_low (terms_of gs) c.packets c.permitted) in
        rw (left_as_cut e c, split) (last_holds sw (accepted_formed ws gs sw (rw read.0 at e)) before w later low other)

    -- and what no write names is as it was
    pub else_as_before : a.reason ≡ 0 → (c : Cut (terms_of gs) ws) (i : ℕ)
        → All (λ w. (i ≢ w.cell.0) × (i ≢ cells + w.cell.0)) (all_writes c.packets) → get_or (words_of left) i 0 ≡ get_or sw i 0
    else_as_before e c i a = rw (left_as_cut e c) (untouched i sw (all_writes c.packets) a)

    -- a state that is well-formed stays so, accepted or refused
    pub stays_well_formed : T (well_formed sw) → T (well_formed (words_of left))
    stays_well_formed f = rw left_as_words ((formed_iff (read_leaves ws gs sw)).1 (leaves_formed ws gs sw ((formed_iff sw).0 f)))

    -- ==== The fitter's question: "Can one scribble on the other?"

    -- every address that an accepted batch writes lies, with its reach, inside one grant of its role, a scaler's in memory 0; and where it
    -- writes cell 1 or 2, the target's address does so in the memory that cell 2 then names
    pub nothing_outside_a_grant : a.reason ≡ 0 → (c : Cut (terms_of gs) ws) × EachKept (Inside (grants_of gs)) (all_writes c.packets) (words_of left)
    nothing_outside_a_grant e = rw left_as_words (inside_kept ws gs sw (rw read.0 at e))

    -- and touches nothing that is granted to another program, where no byte of one memory is granted to both
    pub two_programs_apart : (theirs : List ℕ) → Apart (grants_of gs) (grants_of theirs) → a.reason ≡ 0
        → (c : Cut (terms_of gs) ws) × EachKept (Safe (grants_of gs) (grants_of theirs)) (all_writes c.packets) (words_of left)
    two_programs_apart theirs apart e = rw left_as_words (safe_kept ws gs theirs sw apart (rw read.0 at e))

-- D3 "there is only one way to cut it into them"
pub one_cut : (g : Terms) (batch : List ℕ) (c d : Cut g batch) → c.packets ≡ d.packets
one_cut g batch c d = cut_one_way c d

-- ==== The writer

module _ (st grants out : List ℕ) (a : Answer) (left : List ℕ) (write : Writing st grants out a left) where
  -- the words of the state, which a batch is written from, and of the grants
  abbrev from : List ℕ
  from = words_of st

  abbrev under : List ℕ
  under = words_of grants

  -- D2 "If some batch leads from the empty state to a state, the writer, given room, makes such a batch of that state under the same grants":
  -- the bytes of `written from`, words of 32 bits, what is past them stays, and whatever the reader answers on them, from bytes that are the
  -- empty state, is 0, and leaves the state
  pub writer_reaches : T (grants_fine under) → Reached (terms_of under) from → length (written from) ≤ length out / 4
      → (a ≡ answer 0 (length (written from))) × (left ≡ bytes_of (written from) ++ drop (length (bytes_of (written from))) out) × All Word (written from)
      × ((blank : List ℕ) (b : Answer) (back : List ℕ) → All Byte blank → words_of blank ≡ empty → Reading (bytes_of (written from)) grants blank b back
      → (b ≡ answer 0 (length (written from))) × (words_of back ≡ from))
  writer_reaches l r room =
      let s = reached_sound (terms_of under) from r in
      let parts = (reached_iff (terms_of under) from).0 r in
      let done : a ≡ answer 0 (length (written from)) = write.0 ∙ write_answer_lem from under (length out / 4) (WriterGives.done parts.0 l parts.1 room) in
      let words = written_words (terms_of under) from s.fine in
      let again = written_back from under l s (reached_pair (terms_of under) from r) in
      let same : words_of (bytes_of (written from)) ≡ written from = words_bytes (written from) words in (
        done,
        write.1 ∙ settle_done a _ out (ap (λ (x : Answer). x.reason) done),
        words,
        λ blank b back x e read. (
          read.0 ∙ rw (same, e) again.0,
          left_as_words (bytes_of (written from)) grants blank b back read (bytes_small (written from)) x ∙ rw (same, e) again.1,
        ),
      )

  -- D2 "every other state it refuses": with 1, or with 12 at the lowest marked cell that holds what it may not, a pair that is not fine at cell 1
  pub writer_refuses_the_rest : T (grants_fine under) → ¬ Reached (terms_of under) from
      → ((¬ T (well_formed from)) × (a ≡ answer 1 0))
      ⊎ ((c : ℕ) × (a ≡ answer 12 c) × (c < cells) × (¬ Writable (terms_of under) from (cell c)) × ((d : ℕ) → d < c → Writable (terms_of under) from (cell d)))
  writer_refuses_the_rest l n = rest (write_told from under (length out / 4)) write.0
    where
      rest : {r p : ℕ} → WriterGives from under (length out / 4) r p → a ≡ answer r p
          → ((¬ T (well_formed from)) × (a ≡ answer 1 0))
          ⊎ ((c : ℕ) × (a ≡ answer 12 c) × (c < cells) × (¬ Writable (terms_of under) from (cell c)) × ((d : ℕ) → d < c → Writable (terms_of under) from (cell d)))
      rest (WriterGives.by_bad_state s) e = inl (s, e)
      rest (WriterGives.by_bad_grants s f) e = absurd (f l)
      rest (WriterGives.by_not_writable {c} s f low bad before) e = inr (c, e, low, bad, before)
      rest (WriterGives.by_no_room s f fine less) e = absurd (n ((reached_iff (terms_of under) from).1 (s, fine)))
      rest (WriterGives.done s f fine enough) e = absurd (n ((reached_iff (terms_of under) from).1 (s, fine)))

  -- A5 "A reason is given exactly if its row fits": of the writer
  pub each_writer_reason_exactly : (r p : ℕ) → (a ≡ answer r p) ↔ WriterGives from under (length out / 4) r p
  each_writer_reason_exactly r p = rw write.0 (write_exactly from under (length out / 4) r p)

  -- Y11 "the output is shorter than they need", of a state that is reached: exactly if the room is less
  pub writer_needs_its_room : T (grants_fine under) → Reached (terms_of under) from → (a ≡ answer 11 0) ↔ (length out / 4 < length (written from))
  writer_needs_its_room l r =
      let parts = (reached_iff (terms_of under) from).0 r in (
        λ e. less ((each_writer_reason_exactly 11 0).0 e) refl,
        λ k. (each_writer_reason_exactly 11 0).1 (WriterGives.by_no_room parts.0 l parts.1 k),
      )
    where
      less : {x y : ℕ} → WriterGives from under (length out / 4) x y → x ≡ 11 → length out / 4 < length (written from)
      less (WriterGives.by_bad_state s) e = absurd (omega arith)
      less (WriterGives.by_bad_grants s f) e = absurd (omega arith)
      less (WriterGives.by_not_writable s f low bad before) e = absurd (omega arith)
      less (WriterGives.by_no_room s f fine k) e = k
      less (WriterGives.done s f fine k) e = absurd (omega arith)

  -- D1 "all output buffers are then as they were": not one byte is changed
  pub refused_unwritten : a.reason ≢ 0 → left ≡ out
  refused_unwritten n = write.1 ∙ settle_refused a _ out n

-- the states that some batch reaches from empty: well-formed, each marked cell holds what it may, and the pair is fine
pub reached_exactly : (g : Terms) (st : List ℕ) → Reached g st ↔ (T (well_formed st) × ((c : ℕ) → c < cells → Writable g st (cell c)))
reached_exactly = reached_iff

-- W4 "No state needs more than 184 words."
pub writer_needs_at_most_184 : (st : List ℕ) → length (written st) ≤ 184
writer_needs_at_most_184 = written_at_most

-- ==== The lister

module _ (st out : List ℕ) (a : Answer) (left : List ℕ) (list : Listing st out a left) where
  -- the words of the state
  abbrev shown : List ℕ
  shown = words_of st

  -- the exact bytes; L7 "The bytes of the output behind the last one written stay as they were."
  pub listing_is_exact : T (well_formed shown) → length (listing shown) ≤ length out → (a ≡ answer 0 (length (listing shown))) × (left ≡ listing shown ++ drop (length (listing shown)) out)
  unfolding list_leaves
  listing_is_exact s room =
      let e = list_answer_lem shown (length out) (ListerGives.done s room) in
      (list.0 ∙ e, list.1 ∙ settle_done (list_answer shown (length out)) _ out (rw e))

  -- A5 "A reason is given exactly if its row fits": of the lister
  pub each_lister_reason_exactly : (r p : ℕ) → (a ≡ answer r p) ↔ ListerGives shown (length out) r p
  each_lister_reason_exactly r p = rw list.0 (list_exactly shown (length out) r p)

  -- D1 "all output buffers are then as they were"
  pub refused_unlisted : a.reason ≢ 0 → left ≡ out
  unfolding list_leaves
  refused_unlisted n = list.1 ∙ settle_refused (list_answer shown (length out)) _ out (rw list.0 at n)

-- L6 "No listing has more than 2,568 bytes."
pub listing_at_most_2568 : (st : List ℕ) → length (listing st) ≤ 2568
listing_at_most_2568 = listing_at_most
