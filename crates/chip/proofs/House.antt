-- The state of the house is written under any grant list that grants its three addresses; a program that starts from it marks every cell
-- for good, and a switch to such a program leaves nothing of another.
-- Assumes nothing.
use mathlib.Core.Path.{◌≡◌, refl, sym, ap, subst, ◌∙◌}
use mathlib.Core.Logic.{◌↔◌, inl, inr}
use mathlib.Core.Bool.{Bool, true, beq, ◌||◌}
use mathlib.Core.List.{List, [], ◌∷◌, ◌++◌}
use Prim.Native.Nat.{ℕ, zero, suc, ◌+◌, ◌*◌, ◌/◌, ◌%◌, ◌≤◌, ◌<◌, ◌^◌}
use native.Mathlib.Omega.{arith}
use lib.Dec.{T, eqb, ltb, lit<}
use lib.ListN.{length, replicate}
use lib.Bits.{and_comm, and_zero_l}
use mir.Facts.{or_yes, eqb_yes, ltb_yes}
use Rattle.laws.specs.Lists.{All, every, some, join, from}
use Rattle.laws.specs.Tests.{one_of}
use Rattle.laws.proofs.Lists.{all_append, every_from}
use Rattle.laws.proofs.Tests.{beq_iff}
use Rattle.meaning.specs.declared.Cell.{Cell}
use Rattle.meaning.specs.declared.Memory.{Memory}
use Rattle.meaning.specs.declared.Memory.TheVariants.{Either, Only}
use Rattle.meaning.specs.Words.{Word, bits}
use Rattle.meaning.specs.Registers.{cells, cell, any, target, scaled, Register, register_at, register_in, register_among, target_group, stage, sample, overlay, scaler, Section, of_3d, of_video, sections, memory_location, alpha_constants, location, format_byte, levels, filters, mapping, alpha_select, formats, bytes_among, bytes_per_pixel}
use Rattle.meaning.specs.Grants.{Grant, Terms, terms_of, grants_of, grants_fine, granted}
use Rattle.meaning.specs.Batch.{Fits}
use Rattle.meaning.specs.State.{value_at, mark_at, is_mark, marked, count_in, cell_formed, well_formed, empty, all_writes}
use Rattle.meaning.specs.Pair.{memory_of, pair_fine}
use Rattle.meaning.specs.Reader.{unless, value_reason, read_answer, read_leaves}
use Rattle.meaning.specs.Answers.{Answer, answer}
use Rattle.meaning.specs.Writer.{count_rows, packet_need, need_among, need_for, most_written, written, writable, write_answer}
use Rattle.meaning.specs.Reasons.{MayHold, CellFine, Writable, WriterGives}
use Rattle.meaning.proofs.Samples.{address_fits}
use Rattle.meaning.proofs.Table.{Sections, rows_among, table, all_rows}
use Rattle.meaning.proofs.Writing.{need_is_length, count_3d, count_video, written_at_most}
use Rattle.meaning.proofs.States.{formed_iff, Sound, sound_writes}
use Rattle.meaning.proofs.Round.{packets_fine, left_by_lem, writable_iff}
use Rattle.meaning.proofs.Exactly.{accepted_cut}
use Rattle.meaning.proofs.Outputs.{write_answer_lem, wrote, written_back}
use Rattle.meaning.proofs.Fitter.{granted_iff}
use Rattle.meaning.proofs.Pairs.{pair_iff}
use Rattle.pairing.proofs.Kept.{each_fine, nowhere_else}
use Rattle.chip.specs.Chip.{is_address, obeys, AllAccepted, left_by, Full}
use Rattle.chip.specs.House.{Whole, address_cells, HouseGranted, target_values, scaler_values, house_values, house}
use Rattle.chip.proofs.Switch.{fine_after, full_stays_full_after, switch_to_full}

-- ---- its shape

house_formed : (t f s : ℕ) → T (well_formed (house t f s))
unfolding house well_formed cell_formed every from
house_formed t f s = tt

house_marks : (t f s : ℕ) → T (every (λ n. ltb 0 (mark_at (house t f s) (cell n))) (from 0 cells))
unfolding house every from
house_marks t f s = tt

pub house_full : (t f s : ℕ) → Full (house t f s)
house_full t f s c l = ltb_yes (every_from (λ (n : ℕ). ltb 0 (mark_at (house t f s) (cell n))) 0 cells (house_marks t f s) c (omega arith) l)

-- ---- a full state needs all that any needs

count_all : (chosen : Cell → Bool) (i n : ℕ) → ((c : ℕ) → i ≤ c → c < i + n → chosen (cell c) ≡ true) → count_in chosen i n ≡ n
unfolding count_in
count_all chosen i zero h = refl
count_all chosen i (suc n) h = rw (h i (omega arith) (omega arith)) (omega (arith, count_all chosen (suc i) n (λ c l k. h c (omega arith) (omega arith))))

-- as many as where each cell is chosen
need_all : (chosen : Cell → Bool) (i : ℕ) (ss : List Section) → Sections i ss → ((c : ℕ) → i ≤ c → c < i + rows_among ss → chosen (cell c) ≡ true)
    → need_among chosen ss ≡ need_among (λ c. true) ss
unfolding need_among rows_among
need_all chosen i [] a h = refl
need_all chosen i (of_3d G ∷ ss) a h =
    let n = length G.rows in
    let ours = count_3d chosen i G a.0 ∙ count_all chosen i n (λ c l k. h c l (omega arith)) in
    let theirs = count_3d (λ c. true) i G a.0 ∙ count_all (λ c. true) i n (λ c l k. refl) in
    rw (ours, theirs) (ap (λ (x : ℕ). packet_need n + x) (need_all chosen (i + n) ss a.1 (λ c l k. h c (omega arith) (omega arith))))
need_all chosen i (of_video rs ∷ ss) a h =
    let n = length rs in
    let ours = count_video chosen i rs a.0 ∙ count_all chosen i n (λ c l k. h c l (omega arith)) in
    let theirs = count_video (λ c. true) i rs a.0 ∙ count_all (λ c. true) i n (λ c l k. refl) in
    rw (ours, theirs) (ap (λ (x : ℕ). 2 * n + x) (need_all chosen (i + n) ss a.1 (λ c l k. h c (omega arith) (omega arith))))

all_184 : need_among (λ c. true) sections ≡ 184
unfolding need_among count_rows packet_need sections target_group stage sample overlay scaler from
all_184 = refl

is_marked : (m : ℕ) → 0 < m → is_mark m ≡ true
is_marked zero l = absurd (omega arith)
is_marked (suc m) l = refl

-- the words of a state that marks every cell are 184
pub full_184 : (st : List ℕ) → Full st → length (written st) ≡ 184
unfolding written need_for
full_184 st full =
    let all : (c : ℕ) → 0 ≤ c → c < 0 + rows_among sections → marked st (cell c) ≡ true = λ c l k. is_marked (mark_at st (cell c)) (full c (omega (arith, all_rows))) in
    need_is_length (marked st) st ∙ need_all (marked st) 0 sections table all ∙ all_184

pub house_184 : (t f s : ℕ) → length (written (house t f s)) ≡ 184
house_184 t f s = full_184 (house t f s) (house_full t f s)

-- ---- the cells that hold an address

address_test : ℕ → ℕ → Bool
address_test v n = beq (is_address ((register_at (cell n)).holds v)) (one_of n address_cells)

addresses_tested : (v : ℕ) → T (every (address_test v) (from 0 cells))
unfolding address_test every from some one_of register_at register_in register_among target_group stage sample overlay scaler sections
addresses_tested v = tt

-- they are those of the list, whatever the value
pub address_cells_lem : (c v : ℕ) → c < cells → T (is_address ((register_at (cell c)).holds v)) ↔ T (one_of c address_cells)
unfolding address_test
address_cells_lem c v l = beq_iff (is_address ((register_at (cell c)).holds v)) (one_of c address_cells) (every_from (address_test v) 0 cells (addresses_tested v) c (omega arith) l)

-- ---- cells that hold none: one test over them

house_test : Terms → ℕ → ℕ → ℕ → ℕ → Bool
house_test g t f s n = one_of n address_cells || writable g (house t f s) (cell n)

house_tested : (g : Terms) (t f s : ℕ) → T (every (house_test g t f s) (from 0 cells))
unfolding house_test every from some one_of house writable value_reason unless register_at register_in register_among target_group stage sample overlay scaler sections alpha_constants location format_byte bytes_per_pixel bytes_among formats levels filters mapping alpha_select memory_location
house_tested g t f s = tt

-- ---- cells that hold one

record Holds (g : Terms) (r : Register) (v : ℕ) : Type 0 where
  narrow : v < 2 ^ r.width
  fits : Fits g r v

-- what is granted in a memory is granted in some
granted_somewhere : (gs : List Grant) (m : Memory) (role a : ℕ) → T (granted gs m role a) → T (granted gs Either role a)
granted_somewhere gs m role a t =
    let i = (granted_iff gs m role a).0 t in
    let h = i.admits in
    (granted_iff gs Either role a).1
    (record { grant = i.grant; listed = i.listed; admits = record { lies = tt; role_is = h.role_is; from = h.from; to = h.to } })

holds_target : (g : Terms) (a : ℕ) → a % 256 ≡ 0 → a < 2 ^ 32 → T (granted g.grants Either 1 a)
    → Holds g (record { width = 24; clear = 0; values = any; holds = target }) (a / 256)
holds_target g a e l t =
    let again : a / 256 * 256 ≡ a = omega arith in
    record { narrow = omega arith; fits = record { clear = and_comm (a / 256) 0 ∙ and_zero_l (a / 256); value = tt; granted = rw again t } }

holds_scaled : (g : Terms) (role m a : ℕ) → T (eqb (bits 28 4 m) 0) → a % 16 ≡ 0 → a < 2 ^ 29 → T (granted g.grants Either role a)
    → Holds g (record { width = 32; clear = m; values = memory_location; holds = scaled role }) a
holds_scaled g role m a z e l t = record { narrow = omega arith; fits = address_fits g role m a z e l t }

holds_cell : (g : Terms) (c : Cell) (v : ℕ) → Holds g (register_at c) v → MayHold g c v
holds_cell g c v h = record { narrow = h.narrow; fits = h.fits }

house_addresses : (g : Terms) (t f s : ℕ) → HouseGranted g t f s → t < 2 ^ 32 → All (λ n. MayHold g (cell n) (value_at (house t f s) (cell n))) address_cells
unfolding house register_at register_in register_among target_group stage sample overlay scaler sections from
house_addresses g t f s h l =
    let target = holds_target g t h.target_multiple l (granted_somewhere g.grants (Only 0) 1 t h.target) in
    let first0 = holds_scaled g 2 0x2000000C f tt h.first_multiple h.first_small h.first in
    let first = holds_scaled g 2 0xE000000C f tt h.first_multiple h.first_small h.first in
    let second0 = holds_scaled g 3 0x2000000C s tt h.second_multiple h.second_small h.second in
    let second = holds_scaled g 3 0xE000000C s tt h.second_multiple h.second_small h.second in (
      holds_cell g (cell 1) (t / 256) target,
      (
        holds_cell g (cell 89) f first0,
        (
          holds_cell g (cell 90) f first,
          (
            holds_cell g (cell 93) f first,
            (holds_cell g (cell 96) s second0, (holds_cell g (cell 97) s second, (holds_cell g (cell 100) s second, tt))),
          ),
        ),
      ),
    )

-- what holds of each of a list holds of one of it
one_of_lem : (P : ℕ → Type 0) (c : ℕ) (l : List ℕ) → T (one_of c l) → All P l → P c
unfolding one_of some
one_of_lem P c [] t a = absurd t
one_of_lem P c (x ∷ xs) t a = elim (or_yes (eqb c x) _ t) [ inl e ↦ subst P (sym (eqb_yes e)) a.0 | inr h ↦ one_of_lem P c xs h a.1 ]

house_cells : (g : Terms) (t f s : ℕ) → HouseGranted g t f s → t < 2 ^ 32 → (c : ℕ) → c < cells → CellFine g (house t f s) (cell c)
unfolding house_test
house_cells g t f s h l c k m =
    elim (or_yes (one_of c address_cells) _ (every_from (house_test g t f s) 0 cells (house_tested g t f s) c (omega arith) k)) [
      | inl a ↦ one_of_lem (λ (n : ℕ). MayHold g (cell n) (value_at (house t f s) (cell n))) c address_cells a (house_addresses g t f s h l)
      | inr b ↦ (writable_iff g (house t f s) (cell c)).0 b m
    ]

-- cell 2 holds 0, and T4 "the target's in memory 0"
house_pair : (g : Terms) (t f s : ℕ) → HouseGranted g t f s → T (pair_fine g (house t f s))
unfolding house memory_of
house_pair g t f s h =
    let again : t / 256 * 256 ≡ t = omega (arith, h.target_multiple) in
    (pair_iff g (house t f s)).1 (λ m. rw again h.target)

-- ---- a program's states

-- what the batches of a program leave is sound under its grants
sound_after : (grants st : List ℕ) (batches : List (List ℕ)) → All (All Word) batches → AllAccepted grants st batches → Sound (terms_of grants) st
    → Sound (terms_of grants) (left_by grants st batches)
sound_after grants st [] w a s = s
sound_after grants st (b ∷ bs) w a s =
    let c = accepted_cut b grants st a.0 in
    let words : All Word (join c.packets) = rw c.joined w.0 in
    let now = sound_writes (terms_of grants) st (all_writes c.packets) (packets_fine (terms_of grants) c.packets c.permitted words) s in
    sound_after grants (read_leaves b grants st) bs w.1 a.1 (rw (left_by_lem b grants st a.0 c) now)

-- a sound state with a fine pair is what the writer takes
sound_writable : (g : Terms) (st : List ℕ) → Sound g st → T (pair_fine g st) → (c : ℕ) → c < cells → Writable g st (cell c)
sound_writable g st s p c l = record { value = s.fine c l; pair = λ e. p }

replicate_words : (n v : ℕ) → Word v → All Word (replicate n v)
replicate_words zero v w = tt
replicate_words (suc n) v w = (w, replicate_words n v w)

-- ---- the state of the house is written

module _ (grants : List ℕ) (t f s : ℕ) (l : T (grants_fine grants)) (h : HouseGranted (terms_of grants) t f s) where
  -- a target that is granted under a fine list is a word
  target_small : t < 2 ^ 32
  target_small = (nowhere_else (grants_of grants) (each_fine grants l) 0 1 t h.target).1

  house_sound : Sound (terms_of grants) (house t f s)
  house_sound = record { formed = (formed_iff (house t f s)).0 (house_formed t f s); fine = house_cells (terms_of grants) t f s h target_small }

  house_fine : T (pair_fine (terms_of grants) (house t f s))
  house_fine = house_pair (terms_of grants) t f s h

  -- under any fine grant list that grants the three addresses, in 184 words
  pub house_is_writable : (room : ℕ) → 184 ≤ room → write_answer (house t f s) grants room ≡ answer 0 184
  house_is_writable room k =
      let n = house_184 t f s in
      rw (← n)
      (write_answer_lem (house t f s) grants room
      (WriterGives.done (house_formed t f s) l (sound_writable (terms_of grants) (house t f s) house_sound house_fine) (omega arith)))

  -- its words, read from the empty state under the same grants, are accepted and leave it: so a program starts
  pub house_starts : (read_answer (written (house t f s)) grants empty ≡ answer 0 184) × (read_leaves (written (house t f s)) grants empty ≡ house t f s)
  house_starts =
      let again = written_back (house t f s) grants l house_sound house_fine in
      (again.0 ∙ ap (answer 0) (house_184 t f s), again.1)

  -- it is words of 32 bits
  pub house_words : All Word (house t f s)
  unfolding house
  house_words =
      let wt : Word (t / 256) = omega (arith, target_small) in
      let wf : Word f = omega (arith, h.first_small) in
      let ws : Word s = omega (arith, h.second_small) in
      let z : Word 0 = lit< tt in
      let front : All Word (target_values t) = (z, (wt, (z, (lit< tt, tt)))) in
      let first : All Word (scaler_values f) = (z, (z, (wf, (wf, (z, (z, (wf, tt))))))) in
      let second : All Word (scaler_values s) = (z, (z, (ws, (ws, (z, (z, (ws, tt))))))) in
      let scalers = all_append Word (scaler_values f) (scaler_values s) first second in
      let more = all_append Word (replicate 83 0) (scaler_values f ++ scaler_values s) (replicate_words 83 0 z) scalers in
      let values = all_append Word (target_values t) (replicate 83 0 ++ (scaler_values f ++ scaler_values s)) front more in
      all_append Word (house_values t f s) (replicate cells 1) values (replicate_words cells 1 (lit< tt))

  -- ---- a program that starts from it

  module _ (batches : List (List ℕ)) (words : All (All Word) batches) (all : AllAccepted grants (house t f s) batches) where
    -- every state that it reaches is well-formed, marks every cell, and is written under its grants
    pub house_whole : Whole grants (left_by grants (house t f s) batches)
    house_whole =
        let st = left_by grants (house t f s) batches in
        let marks = full_stays_full_after grants (house t f s) batches (house_formed t f s) (house_full t f s) in
        let sound = sound_after grants (house t f s) batches words all house_sound in
        let fine = fine_after grants (house t f s) batches all house_fine in
        record {
          formed = marks.0;
          full = marks.1;
          written = ap (λ (x : Answer). x.reason)
              (write_answer_lem st grants most_written (WriterGives.done marks.0 l (sound_writable (terms_of grants) st sound fine) (written_at_most st)));
        }

-- a switch between two such programs leaves nothing of the one that went
pub switch_between_full : (ours theirs a b : List ℕ) → Whole ours a → Whole theirs b → obeys a (written b) ≡ b
switch_between_full ours theirs a b x y = switch_to_full a b theirs most_written y.written x.formed y.full

-- the writer takes such a state in any room of 184 words, and needs them all
pub whole_is_written : (grants st : List ℕ) (room : ℕ) → Whole grants st → 184 ≤ room → write_answer st grants room ≡ answer 0 184
whole_is_written grants st room w k =
    let told = wrote st grants most_written w.written in
    let n = full_184 st w.full in
    rw (← n)
    (write_answer_lem st grants room (WriterGives.done w.formed told.0 (sound_writable (terms_of grants) st told.1 told.3) (omega arith)))
