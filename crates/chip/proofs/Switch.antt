-- A change of programs: what the written words of a state leave on a chip that held another, and what the batches after them keep.
-- Assumes nothing.
use mathlib.Core.Path.{◌≡◌, refl, sym, ap, subst, ◌∙◌}
use mathlib.Core.Logic.{◌↔◌}
use mathlib.Core.List.{List, [], ◌∷◌, ◌++◌}
use Prim.Native.Nat.{ℕ, ◌<◌}
use native.Mathlib.Omega.{arith}
use native.Mathlib.Decide.{ℕ_discrete, dec_lt}
use lib.Dec.{T}
use lib.ListN.{length, take, drop, take-append-drop}
use Rattle.laws.specs.Lists.{All}
use Rattle.laws.proofs.Lists.{all_split}
use Rattle.meaning.specs.declared.Memory.{Memory}
use Rattle.meaning.specs.Registers.{cells, cell, Content, nothing, address, register_at}
use Rattle.meaning.specs.Grants.{grants_of, terms_of, Terms}
use Rattle.meaning.specs.Batch.{Cut}
use Rattle.meaning.specs.State.{state_words, value_at, mark_at, marked, well_formed, Write, apply, apply_all, all_writes}
use Rattle.meaning.specs.Pair.{pair_fine}
use Rattle.meaning.specs.Positions.{writes_of}
use Rattle.meaning.specs.Reader.{read_answer, read_leaves}
use Rattle.meaning.specs.Writer.{words_for, packets_of, most_written, written, write_answer}
use Rattle.meaning.specs.Fitter.{Inside, Apart, Safe, OfAddress, Stores, OfTarget}
use Rattle.meaning.proofs.Writes.{writes_of_cut}
use Rattle.meaning.proofs.Writing.{chosen_from, written_permitted, written_writes}
use Rattle.meaning.proofs.States.{Formed, formed_iff, formed_writes, Sound, laid_over, unmarked, same_cells, length_applied, Each, each_after_all, mark_same, mark_other}
use Rattle.meaning.proofs.Round.{packets_low, left_by_lem, leaves_formed}
use Rattle.meaning.proofs.Exactly.{accepted_permitted, accepted_cut}
use Rattle.meaning.proofs.Outputs.{wrote}
use Rattle.meaning.proofs.Bytes.{settle_done, settle_refused}
use Rattle.meaning.proofs.Fitter.{packets_inside, held_inside, safe_held}
use Rattle.pairing.specs.Same.{SamePair}
use Rattle.pairing.proofs.Entry.{same_pair_of, same_pair_fine, same_pair_applied, fine_stays}
use Rattle.pairing.proofs.Kept.{each_fine, accepted_fine, fine_target, safe_target}
use Rattle.chip.specs.Chip.{content_at, is_address, obeys, obeys_all, AllAccepted, left_by, Marked, Full, Remarked, AddressesRemarked, PairRemarked, LaidOver, EachAddress, Turn, Proper, takes, takes_all}

-- ---- writes, one after another

abbrev Low : Write → Type 0
Low w = w.cell.0 < cells

-- a mark never goes away
mark_write : (st : List ℕ) (w : Write) → Low w → length st ≡ state_words → (d : ℕ) → Marked st d → Marked (apply st w) d
unfolding apply
mark_write st w l n d m =
    let c = w.cell.0 in
    let v = w.value in
    elim (ℕ_discrete d c) [ yes e ↦ rw e (omega (arith, mark_same st n c v l)) | no e ↦ omega (arith, mark_other st n c v l d e) ]

mark_writes : (st : List ℕ) (ws : List Write) → All Low ws → length st ≡ state_words → (d : ℕ) → Marked st d → Marked (apply_all st ws) d
unfolding apply_all
mark_writes st [] a n d m = m
mark_writes st (w ∷ ws) a n d m = mark_writes (apply st w) ws a.1 (length_applied st (w ∷ []) ∙ n) d (mark_write st w a.0 n d m)

-- ---- the chip

-- what the chip does with a permitted batch is what its packets write
pub obeys_packets : (g : Terms) (chip batch : List ℕ) (c : Cut g batch) → obeys chip batch ≡ apply_all chip (all_writes c.packets)
unfolding obeys
obeys_packets g chip batch c = ap (apply_all chip) (writes_of_cut g batch c)

-- the written words of a state are the writes of its marked cells
obeys_written : (g : Terms) (chip st : List ℕ) → Sound g st → obeys chip (written st) ≡ apply_all chip (chosen_from (marked st) st 0 cells)
unfolding written words_for packets_of
obeys_written g chip st s =
    let cut : Cut g (written st) = record { packets = packets_of st; joined = refl; permitted = written_permitted g st s.fine } in
    obeys_packets g chip (written st) cut ∙ ap (apply_all chip) (written_writes g st s.fine)

-- an accepted batch does on the chip what the reader does in the books
pub obeys_reads : (batch grants st : List ℕ) → (read_answer batch grants st).reason ≡ 0 → read_leaves batch grants st ≡ obeys st batch
unfolding obeys read_leaves
obeys_reads batch grants st e = settle_done (read_answer batch grants st) _ st e

-- ---- the law of a switch

-- a: what the chip holds, whoever wrote it; b: the next program's state, which the writer takes
module _ (a b grants : List ℕ) (room : ℕ) (e : (write_answer b grants room).reason ≡ 0) where
  sound : Sound (terms_of grants) b
  sound = (wrote b grants room e).1

  -- from any state of the chip, the written words of b leave b where b is marked, and what was there elsewhere
  pub switch_lays : length a ≡ state_words → LaidOver a b (obeys a (written b))
  switch_lays n =
      let over = laid_over a b n sound.formed in
      rw (obeys_written (terms_of grants) a b sound)
      (record { size = over.size; marked = λ c l m. over.done c l l m; unmarked = λ c l h. over.else c l (λ k. h) })

  -- a cell that is marked in b, if it was marked, is then as b has it
  switch_cell : T (well_formed a) → (c : ℕ) → c < cells → (Marked a c → Marked b c)
      → (value_at (obeys a (written b)) (cell c) ≡ value_at b (cell c)) × (mark_at (obeys a (written b)) (cell c) ≡ mark_at b (cell c))
  switch_cell w c l h =
      let f = (formed_iff a).0 w in
      let over = switch_lays f.size in
      elim (dec_lt 0 (mark_at b (cell c))) [
        | yes k ↦ over.marked c l k
        | no k ↦
            let was = over.unmarked c l k in
            let z = unmarked (mark_at a (cell c)) (λ m. k (h m)) in
            let y = unmarked (mark_at b (cell c)) k in
            (was.0 ∙ f.clear c l z ∙ sym (sound.formed.clear c l y), was.1 ∙ z ∙ sym y)
      ]

  -- they leave b exactly if every cell that was marked is marked in b
  pub switch_leaves_nothing : T (well_formed a) → (obeys a (written b) ≡ b) ↔ Remarked a b
  switch_leaves_nothing w =
      let f = (formed_iff a).0 w in (
        λ q c l m. elim (dec_lt 0 (mark_at b (cell c))) [
          | yes k ↦ k
          | no k ↦
              let same : mark_at b (cell c) ≡ mark_at a (cell c) = ap (λ (x : List ℕ). mark_at x (cell c)) (sym q) ∙ ((switch_lays f.size).unmarked c l k).1 in
              absurd (k (omega arith))
        ],
        λ h. same_cells (obeys a (written b)) b (switch_lays f.size).size sound.formed.size (λ c l. switch_cell w c l (h c l)),
      )

  -- a state that marks every cell leaves nothing of what was there
  pub switch_to_full : T (well_formed a) → Full b → obeys a (written b) ≡ b
  switch_to_full w full = (switch_leaves_nothing w).1 (λ c l m. full c l)

-- ---- batches after it

accepted_low : (batch grants st : List ℕ) → (read_answer batch grants st).reason ≡ 0 → All Low (writes_of batch)
accepted_low batch grants st e =
    let c = accepted_cut batch grants st e in
    rw (writes_of_cut (terms_of grants) batch c) (packets_low (terms_of grants) c.packets c.permitted)

accepted_inside : (grants batch st : List ℕ) → (read_answer batch grants st).reason ≡ 0 → All (Stores (Inside (grants_of grants))) (writes_of batch)
accepted_inside grants batch st e =
    let c = accepted_cut batch grants st e in
    rw (writes_of_cut (terms_of grants) batch c) (packets_inside (terms_of grants) (accepted_fine batch grants st e) c.packets c.permitted)

length_obeys : (chip batch : List ℕ) → length (obeys chip batch) ≡ length chip
unfolding obeys
length_obeys chip batch = length_applied chip (writes_of batch)

length_obeys_all : (chip : List ℕ) (batches : List (List ℕ)) → length (obeys_all chip batches) ≡ length chip
unfolding obeys_all
length_obeys_all chip [] = refl
length_obeys_all chip (b ∷ bs) = length_obeys_all (obeys chip b) bs ∙ length_obeys chip b

-- what every accepted write and every marked cell has, every marked cell has after the batches
each_obeys : (P : ℕ → ℕ → Type 0) (grants : List ℕ)
    → ((batch st : List ℕ) → (read_answer batch grants st).reason ≡ 0 → All (λ w. P w.cell.0 w.value) (writes_of batch))
    → (st chip : List ℕ) (batches : List (List ℕ)) → AllAccepted grants st batches → length chip ≡ state_words → Each P chip → Each P (obeys_all chip batches)
unfolding obeys_all obeys
each_obeys P grants stores st chip [] a n h = h
each_obeys P grants stores st chip (b ∷ bs) a n h =
    each_obeys P grants stores (read_leaves b grants st) (obeys chip b) bs a.1 (length_obeys chip b ∙ n)
    (each_after_all P chip (writes_of b) (accepted_low b grants st a.0) (stores b st a.0) n h)

-- the first of what all have
all_take : {A : Type 0} (P : A → Type 0) (k : ℕ) (xs : List A) → All P xs → All P (take k xs)
all_take P k xs a = (all_split P (take k xs) (drop k xs) (rw (take-append-drop k xs) a)).0

-- a value that holds no address has whatever is asked of its address
no_address_lem : (Q : Memory → ℕ → ℕ → Type 0) (h : Content) → ¬ T (is_address h) → OfAddress Q h
no_address_lem Q nothing n = tt
no_address_lem Q (address role a) n = absurd (n tt)

module _ (a b grants : List ℕ) (room : ℕ) (e : (write_answer b grants room).reason ≡ 0) (n : length a ≡ state_words) (r : AddressesRemarked a b) where
  -- what is kept of a cell and its value: an address in it is one of b's
  abbrev Lies : ℕ → ℕ → Type 0
  Lies c v = OfAddress (Inside (grants_of grants)) ((register_at (cell c)).holds v)

  -- right after the written words of b, every address of the chip is one of b's
  switched : EachAddress (Inside (grants_of grants)) (obeys a (written b))
  switched c l m =
      let over = switch_lays a b grants room e n in
      let fine = each_fine grants (wrote b grants room e).0 in
      elim (dec_lt 0 (mark_at b (cell c))) [
        | yes k ↦ subst (Lies c) (sym (over.marked c l k).0) (held_inside (terms_of grants) fine (content_at b c) ((sound a b grants room e).fine c l k).fits.granted)
        | no k ↦
            let was = over.unmarked c l k in
            subst (Lies c) (sym was.0) (no_address_lem (Inside (grants_of grants)) (content_at a c) (λ t. k (r c l (omega (arith, was.1)) t)))
      ]

  module _ (batches : List (List ℕ)) (all : AllAccepted grants b batches) where
    -- for any state a of the chip, whatever programs left it: after the written words of b and any batches that are then accepted for b's
    -- program, every address on the chip lies, with its reach, inside a grant of that program, if the cells of a that hold an address are
    -- marked in b
    pub after_a_switch : EachAddress (Inside (grants_of grants)) (obeys_all (obeys a (written b)) batches)
    after_a_switch =
        each_obeys Lies grants (accepted_inside grants) b (obeys a (written b)) batches all (switch_lays a b grants room e n).size switched

    -- also in the midst of a further batch: after any number of its writes
    pub amid_a_batch : (batch : List ℕ) → (read_answer batch grants (left_by grants b batches)).reason ≡ 0 → (k : ℕ)
        → EachAddress (Inside (grants_of grants)) (apply_all (obeys_all (obeys a (written b)) batches) (take k (writes_of batch)))
    amid_a_batch batch ok k =
        let st = left_by grants b batches in
        each_after_all Lies (obeys_all (obeys a (written b)) batches) (take k (writes_of batch)) (all_take Low k (writes_of batch) (accepted_low batch grants st ok))
        (all_take (Stores (Inside (grants_of grants))) k (writes_of batch) (accepted_inside grants batch st ok))
        (length_obeys_all (obeys a (written b)) batches ∙ length_obeys a (written b) ∙ n) after_a_switch

    -- and where no memory is granted to both, it touches nothing that is granted to another program
    pub after_a_switch_apart : (theirs : List ℕ) → Apart (grants_of grants) (grants_of theirs)
        → EachAddress (Safe (grants_of grants) (grants_of theirs)) (obeys_all (obeys a (written b)) batches)
    after_a_switch_apart theirs apart c l m =
        safe_held (grants_of grants) (grants_of theirs) apart (content_at (obeys_all (obeys a (written b)) batches) c) (after_a_switch c l m)

-- ---- the pair

-- the pair that a program's batches leave in the books is fine, if it was
pub fine_after : (grants st : List ℕ) (batches : List (List ℕ)) → AllAccepted grants st batches → T (pair_fine (terms_of grants) st)
    → T (pair_fine (terms_of grants) (left_by grants st batches))
fine_after grants st [] a t = t
fine_after grants st (b ∷ bs) a t =
    let g = terms_of grants in
    let p = accepted_permitted b grants st a.0 in
    let c = p.cut in
    fine_after grants (read_leaves b grants st) bs a.1
    (rw (left_by_lem b grants st a.0 c) (fine_stays g st (all_writes c.packets) (packets_low g c.packets c.permitted) t p.pair))

-- where chip and books have the same pair, they have it after the batches
pair_after : (grants st chip : List ℕ) (batches : List (List ℕ)) → AllAccepted grants st batches → length chip ≡ length st → SamePair chip st
    → SamePair (obeys_all chip batches) (left_by grants st batches)
unfolding obeys_all obeys
pair_after grants st chip [] a n s = s
pair_after grants st chip (b ∷ bs) a n s =
    let left = obeys_reads b grants st a.0 in
    pair_after grants (read_leaves b grants st) (obeys chip b) bs a.1
    (length_obeys chip b ∙ n ∙ sym (length_obeys st b) ∙ ap length (sym left)) (rw left (same_pair_applied chip st (writes_of b) s n))

module _ (a b grants : List ℕ) (room : ℕ) (e : (write_answer b grants room).reason ≡ 0) where
  -- if the pair on the chip is b's after the written words of b, the target lies inside a grant after the batches
  target_after : length a ≡ state_words → SamePair (obeys a (written b)) b → (batches : List (List ℕ)) → AllAccepted grants b batches
      → OfTarget (Inside (grants_of grants)) (obeys_all (obeys a (written b)) batches)
  target_after n same batches all =
      let g = terms_of grants in
      let told = wrote b grants room e in
      let now = obeys_all (obeys a (written b)) batches in
      let agrees = pair_after grants b (obeys a (written b)) batches all (length_obeys a (written b) ∙ n ∙ sym told.1.formed.size) same in
      fine_target g now (rw (same_pair_fine g now (left_by grants b batches) agrees) (fine_after grants b batches all told.3))

  module _ (w : T (well_formed a)) (r : PairRemarked a b) (batches : List (List ℕ)) (all : AllAccepted grants b batches) where
    -- for any state a of the chip: after the written words of b, and after each batch that is then accepted for b's program, the target's
    -- address lies, with its reach, inside a grant of that program in the memory that cell 2 of the chip names, if cells 1 and 2, where a
    -- marks them, are marked in b
    pub target_after_a_switch : OfTarget (Inside (grants_of grants)) (obeys_all (obeys a (written b)) batches)
    target_after_a_switch =
        target_after ((formed_iff a).0 w).size
        (same_pair_of (obeys a (written b)) b (λ c l k. switch_cell a b grants room e w c (omega arith) (r c l k))) batches all

    -- and where no byte of one memory is granted to both, it touches nothing that is granted to another program
    pub target_after_a_switch_apart : (theirs : List ℕ) → Apart (grants_of grants) (grants_of theirs)
        → OfTarget (Safe (grants_of grants) (grants_of theirs)) (obeys_all (obeys a (written b)) batches)
    target_after_a_switch_apart theirs apart =
        safe_target (grants_of grants) (grants_of theirs) apart (obeys_all (obeys a (written b)) batches) target_after_a_switch

-- ---- the chip and the books

same_after : (grants st : List ℕ) (batches : List (List ℕ)) → AllAccepted grants st batches → obeys_all st batches ≡ left_by grants st batches
unfolding obeys_all
same_after grants st [] a = refl
same_after grants st (b ∷ bs) a = rw (← obeys_reads b grants st a.0) (same_after grants (read_leaves b grants st) bs a.1)

-- if every cell that was marked is marked in b, the chip is then, batch for batch, what the driver keeps for b's program
pub chip_is_the_state : (a b grants : List ℕ) (room : ℕ) (batches : List (List ℕ)) → T (well_formed a) → (write_answer b grants room).reason ≡ 0
    → Remarked a b → AllAccepted grants b batches → obeys_all (obeys a (written b)) batches ≡ left_by grants b batches
chip_is_the_state a b grants room batches w e r all =
    ap (λ (x : List ℕ). obeys_all x batches) ((switch_leaves_nothing a b grants room e w).1 r) ∙ same_after grants b batches all

-- ---- states that mark every cell

-- a mark never goes away, whether a batch is accepted or refused
pub marks_stay : (batch grants st : List ℕ) → T (well_formed st) → Remarked st (read_leaves batch grants st)
unfolding read_leaves obeys
marks_stay batch grants st w c l m =
    elim (ℕ_discrete (read_answer batch grants st).reason 0) [
      | yes e ↦ rw (obeys_reads batch grants st e) (mark_writes st (writes_of batch) (accepted_low batch grants st e) ((formed_iff st).0 w).size c m)
      | no e ↦ rw (settle_refused (read_answer batch grants st) (apply_all st (writes_of batch)) st e) m
    ]

pub full_stays_full : (batch grants st : List ℕ) → T (well_formed st) → Full st → Full (read_leaves batch grants st)
full_stays_full batch grants st w full c l = marks_stay batch grants st w c l (full c l)

pub full_stays_full_after : (grants st : List ℕ) (batches : List (List ℕ)) → T (well_formed st) → Full st
    → T (well_formed (left_by grants st batches)) × Full (left_by grants st batches)
full_stays_full_after grants st [] w full = (w, full)
full_stays_full_after grants st (b ∷ bs) w full =
    full_stays_full_after grants (read_leaves b grants st) bs
    ((formed_iff (read_leaves b grants st)).1 (leaves_formed b grants st ((formed_iff st).0 w))) (full_stays_full b grants st w full)

-- ---- turn after turn

-- a turn leaves a state of the chip from which the same can be said of the next one
takes_length : (chip : List ℕ) (t : Turn) → length (takes chip t) ≡ length chip
unfolding takes
takes_length chip t = length_obeys_all (obeys chip (written t.state)) t.batches ∙ length_obeys chip (written t.state)

-- what a turn leaves of every chip, it leaves whoever had a turn before
after_turns : (P : List ℕ → Type 0) (t : Turn) → ((chip : List ℕ) → length chip ≡ state_words → P (takes chip t))
    → (chip : List ℕ) (before : List Turn) → length chip ≡ state_words → P (takes_all chip (before ++ t ∷ []))
unfolding takes_all
after_turns P t h chip [] n = h chip n
after_turns P t h chip (x ∷ before) n = after_turns P t h (takes chip x) before (takes_length chip x ∙ n)

-- whatever programs had their turns before, and whatever the chip held before them: while a program whose state marks every cell has its
-- turn, every address on the chip lies, with its reach, inside a grant of that program,
pub whose_turn : (chip : List ℕ) (before : List Turn) (t : Turn) → length chip ≡ state_words → All Proper before → Proper t → Full t.state
    → EachAddress (Inside (grants_of t.grants)) (takes_all chip (before ++ t ∷ []))
unfolding takes
whose_turn chip before t n all p full =
    after_turns (EachAddress (Inside (grants_of t.grants))) t
    (λ was m. after_a_switch was t.state t.grants most_written p.written m (λ c l k h. full c l) t.batches p.accepted) chip before n

-- and after its batches the target's does so in the memory that cell 2 of the chip names
pub target_in_whose_turn : (chip : List ℕ) (before : List Turn) (t : Turn) → length chip ≡ state_words → All Proper before → Proper t → Full t.state
    → OfTarget (Inside (grants_of t.grants)) (takes_all chip (before ++ t ∷ []))
unfolding takes
target_in_whose_turn chip before t n all p full =
    let st = t.state in
    after_turns (OfTarget (Inside (grants_of t.grants))) t
    (λ was m.
    let over = switch_lays was st t.grants most_written p.written m in
    let same = same_pair_of (obeys was (written st)) st (λ c l k. over.marked c (omega arith) (full c (omega arith))) in
    target_after was st t.grants most_written p.written m same t.batches p.accepted) chip before n

-- a well-formed chip stays so
obeys_formed : (grants st chip : List ℕ) (batches : List (List ℕ)) → AllAccepted grants st batches → Formed chip → Formed (obeys_all chip batches)
unfolding obeys_all obeys
obeys_formed grants st chip [] a f = f
obeys_formed grants st chip (b ∷ bs) a f =
    obeys_formed grants (read_leaves b grants st) (obeys chip b) bs a.1 (formed_writes chip (writes_of b) (accepted_low b grants st a.0) f)

takes_formed : (chip : List ℕ) (t : Turn) → Proper t → Formed chip → Formed (takes chip t)
unfolding takes
takes_formed chip t p f =
    let g = terms_of t.grants in
    let st = t.state in
    let s = (wrote st t.grants most_written p.written).1 in
    let low : All Low (chosen_from (marked st) st 0 cells) =
    rw (written_writes g st s.fine) at (packets_low g (packets_of st) (written_permitted g st s.fine)) in
    let now : Formed (obeys chip (written st)) = rw (obeys_written g chip st s) (formed_writes chip (chosen_from (marked st) st 0 cells) low f) in
    obeys_formed t.grants st (obeys chip (written st)) t.batches p.accepted now

-- and the chip then is what the driver keeps for it: nothing of another program is left
pub nothing_else_is_left : (chip : List ℕ) (before : List Turn) (t : Turn) → T (well_formed chip) → All Proper before → Proper t → Full t.state
    → takes_all chip (before ++ t ∷ []) ≡ left_by t.grants t.state t.batches
unfolding takes_all takes
nothing_else_is_left chip [] t w all p full =
    chip_is_the_state chip t.state t.grants most_written t.batches w p.written (λ c l m. full c l) p.accepted
nothing_else_is_left chip (x ∷ before) t w all p full =
    nothing_else_is_left (takes chip x) before t ((formed_iff (takes chip x)).1 (takes_formed chip x all.0 ((formed_iff chip).0 w))) all.1 p full
