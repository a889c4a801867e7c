-- What is promised of the size: how many words a state needs, asked before there is an output; and what it says of the writer.
-- Assumes nothing.
use mathlib.Core.Path.{◌≡◌, refl, sym, ap, ◌∙◌}
use mathlib.Core.Logic.{◌↔◌}
use mathlib.Core.Bool.{Bool, true, false, cond}
use mathlib.Core.List.{List, ◌++◌}
use Prim.Native.Nat.{ℕ, ◌/◌, ◌%◌, ◌≤◌, ◌<◌}
use native.Mathlib.Omega.{arith}
use borrow.Author.Tests.{eqb-false}
use lib.Dec.{T, eqb}
use lib.ListN.{length, drop}
use Rattle.laws.proofs.Tests.{true_of}
use Rattle.meaning.specs.Words.{words_of, bytes_of}
use Rattle.meaning.specs.Registers.{cells, cell}
use Rattle.meaning.specs.Grants.{grants_fine, terms_of}
use Rattle.meaning.specs.State.{well_formed}
use Rattle.meaning.specs.Pair.{Reached}
use Rattle.meaning.specs.Answers.{Answer, bad_buffer, success, answer, number_of, provided, answer_in}
use Rattle.meaning.specs.Writer.{written, size_of, in_room}
use Rattle.meaning.specs.Exported.{word_buffer_fine, exported_size, exported_write, exported_write_leaves}
use Rattle.meaning.specs.Reasons.{Writable, SizeGives, WriterGives}
use Rattle.meaning.proofs.Bytes.{number_tells, settle_done}
use Rattle.meaning.proofs.Outputs.{write_exactly}
use Rattle.meaning.proofs.Round.{reached_iff}
use Rattle.sizing.proofs.Sizes as theory
use Rattle.irangelda.proofs.Buffers.{two_13}
use Rattle.writer.proofs.size.Reads as size
use Rattle.irangelda.proofs.irangelda_size.Reads as irangelda_size
use Rattle.promises.proofs.Driver.{by_bad_buffer}
use Rattle.promises.specs.CallContracts.{Sizing, Writing, size_first, SizingBytes, WritingBytes, TwoBuffers, Tells, BadBuffer}

-- ==== The contracts

-- what `writer::size` is proved to do, for any buffers that are lent to it,
pub sizes : (κs : _) (a : _) (r : _) (s : _) → size.Learnt κs a r s → Sizing a.0.now a.1.0.now (answer_in r)
sizes κs a r s p = p

-- and `irangelda_size`
pub sizes_bytes : (κs : _) (a : _) (r : _) (s : _) → irangelda_size.Learnt κs a r s → SizingBytes a.0.now a.1.0.now r
sizes_bytes κs a r s p = p

-- ==== The size

-- `st` and `grants` are the bytes that were lent, of any length
module _ (st grants : List ℕ) (z : Answer) (size : Sizing st grants z) where
  -- their words
  abbrev from : List ℕ
  from = words_of st

  abbrev under : List ℕ
  under = words_of grants

  -- A5 "A reason is given exactly if its row fits", A10 "The size gives 1, 2 and 12 as the writer does": r at p exactly if the table has it
  pub each_size_reason_exactly : (r p : ℕ) → (z ≡ answer r p) ↔ SizeGives from under r p
  each_size_reason_exactly r p = rw size (theory.size_exactly from under r p)

  -- a number of words is told exactly of the states that some batch reaches from empty: those that the writer, given room, writes
  pub size_tells_the_reached : T (grants_fine under) → (z ≡ answer 0 (size_of from)) ↔ Reached (terms_of under) from
  size_tells_the_reached f = (
    λ e. (reached_iff (terms_of under) from).1 (fine ((each_size_reason_exactly 0 _).0 e) refl),
    λ r. let parts = (reached_iff (terms_of under) from).0 r in (each_size_reason_exactly 0 _).1 (SizeGives.done parts.0 f parts.1),
  )
    where
      fine : {r p : ℕ} → SizeGives from under r p → r ≡ 0 → T (well_formed from) × ((c : ℕ) → c < cells → Writable (terms_of under) from (cell c))
      fine (SizeGives.by_bad_state n) e = absurd (omega arith)
      fine (SizeGives.by_bad_grants w n) e = absurd (omega arith)
      fine (SizeGives.by_not_writable w g l bad before) e = absurd (omega arith)
      fine (SizeGives.done w g all) e = (w, all)

  -- W4 "No state needs more than 184 words."
  pub size_at_most_184 : z.place ≤ 184
  size_at_most_184 = rw size (theory.size_place from under)

  -- ==== The writer on the same bytes

  module _ (out : List ℕ) (a : Answer) (left : List ℕ) (write : Writing st grants out a left) where
    -- how many words the output has
    abbrev room : ℕ
    room = length out / 4

    -- D8 "The writer refuses what the size refuses, with the same answer; else it gives 11 exactly if the output has fewer words than the size
    -- tells, and success at that number if it has not.": the writer's answer is made of the size's and of the room
    pub size_then_write : a ≡ in_room room z
    size_then_write = write.0 ∙ rw size (theory.size_then_write from under room)

    -- so that whoever asks the size, and then has the state written, is told what the writer by itself always told: its rows of the table
    pub old_answer_from_both : (r p : ℕ) → (size_first z a ≡ answer r p) ↔ WriterGives from under room r p
    old_answer_from_both r p = rw (same (eqb z.reason success) refl, write.0) (write_exactly from under room r p)
      where
        same : (b : Bool) → eqb z.reason success ≡ b → cond b a z ≡ a
        same true e = refl
        same false e = sym (size_then_write ∙ theory.refused_in room z (eqb-false z.reason success e))

    -- Y11 "the output is shorter than they need"
    pub eleven_exactly : (a.reason ≡ 11) ↔ ((z.reason ≡ 0) × (room < z.place))
    eleven_exactly = rw (write.0, size) (theory.eleven_exactly from under room)

    -- in as much room as was told, or in more, the answer is the size's, and the words stand in front of the output
    pub told_room_suffices : z.reason ≡ 0 → z.place ≤ room → (a ≡ z) × (left ≡ bytes_of (written from) ++ drop (length (bytes_of (written from))) out)
    told_room_suffices e l =
        let is : a ≡ z = size_then_write ∙ theory.enough_in room z e l in
        (is, write.1 ∙ settle_done a _ out (rw is e))

-- ==== The call of the driver

module _ (st grants : List ℕ) (n : ℕ) (call : SizingBytes st grants n) where
  -- C3 "A C call answers one number: place × 256 + reason.": the number tells both
  pub size_number_tells_both : Tells n (exported_size st grants)
  size_number_tells_both = rw call (number_tells _ (theory.size_call_range st grants))

  -- Y13 "a buffer has more than 65,536 bytes, or a buffer of words has a length that is no multiple of 4"
  pub size_bad_buffer_exactly : BadBuffer n (TwoBuffers st grants)
  unfolding exported_size
  size_bad_buffer_exactly = by_bad_buffer n _ call size_number_tells_both (theory.size_13_exactly st grants) (two_13 st grants _)

  -- what 13 lets through is the size on the same bytes, so that every promise of the size is one of this call
  pub size_call_is_the_size : TwoBuffers st grants → (a : Answer) × Tells n a × Sizing st grants a
  size_call_is_the_size fine = (exported_size st grants, size_number_tells_both, theory.size_call st grants fine)

  module _ (out : List ℕ) (m : ℕ) (left : List ℕ) (write : WritingBytes st grants out m left) where
    -- the number of irangelda_write on the same bytes and any output, by that of irangelda_size: 13 for the output goes before all
    pub size_then_write_bytes : m ≡ number_of (provided (word_buffer_fine out) bad_buffer (in_room (length out / 4) (exported_size st grants)))
    size_then_write_bytes = write.0 ∙ ap number_of (theory.size_then_write_call st grants out)

    -- ask, allocate, write: an output of as many words as were told, or of more, gets them, and the number is the same
    pub ask_allocate_write : n % 256 ≡ 0 → T (word_buffer_fine out) → n / 256 ≤ length out / 4
        → (m ≡ n) × (left ≡ bytes_of (written (words_of st)) ++ drop (length (bytes_of (written (words_of st)))) out)
    unfolding exported_write_leaves
    ask_allocate_write e fine l =
        let tells = size_number_tells_both in
        let told : (exported_size st grants).reason ≡ 0 = sym tells.0 ∙ e in
        let enough : (exported_size st grants).place ≤ length out / 4 = rw tells.1 at l in
        let same : exported_write st grants out ≡ exported_size st grants = theory.size_then_write_call st grants out ∙ rw (true_of (word_buffer_fine out) fine) (theory.enough_in _ (exported_size st grants) told enough) in
        (write.0 ∙ ap number_of same ∙ sym call, write.1 ∙ settle_done (exported_write st grants out) _ out (ap (λ (a : Answer). a.reason) same ∙ told))
