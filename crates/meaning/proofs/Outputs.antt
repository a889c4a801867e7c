-- Each reason of the writer and of the lister is given exactly then; a listing is at most 2,568 bytes.
-- Assumes nothing.
use Rattle.std.specs.Prelude.{Option, Some, None}
use mathlib.Core.Path.{◌≡◌, refl, sym, ap, ap₂, ◌∙◌}
use mathlib.Core.Bool.{Bool, true, false, cond}
use mathlib.Core.Logic.{◌↔◌}
use mathlib.Core.List.{List, [], ◌∷◌, ◌++◌}
use Prim.Native.Nat.{ℕ, ◌+◌, ◌*◌, ◌≤◌, ◌<◌}
use native.Mathlib.Omega.{arith}
use native.Mathlib.Nat.{mul-add}
use native.Mathlib.Decide.{ℕ_discrete, dec_lt}
use borrow.Author.Tests.{le-leb, lt-leb, leb-true, leb-false, eqb-true, eqb-false}
use lib.Dec.{T, leb, ltb, eqb}
use lib.ListN.{length, length-append}
use Rattle.laws.specs.Lists.{join, from}
use Rattle.laws.proofs.Lists.{length_join_append}
use Rattle.laws.proofs.Tests.{true_of, false_of, holds_of, fails_of}
use Rattle.meaning.specs.declared.Cell.{Cell}
use Rattle.meaning.specs.declared.SubAddress.{SubAddress}
use Rattle.meaning.specs.declared.VideoOffset.{VideoOffset}
use Rattle.meaning.specs.Registers.{cells, cell, Row, Section, of_3d, of_video, target_group, stage, sample, overlay, scaler, sections}
use Rattle.meaning.specs.Grants.{Terms, terms_of, grants_fine}
use Rattle.meaning.specs.State.{value_at, marked, one, count_in, marked_cells, well_formed, empty}
use Rattle.meaning.specs.Pair.{target_cell, pair_fine}
use Rattle.meaning.specs.Answers.{Answer, answer, provided}
use Rattle.meaning.specs.Reader.{read_answer, read_leaves}
use Rattle.meaning.specs.Writer.{written, count_rows, lowest_bad, with_pair, except_at, write_answer}
use Rattle.meaning.specs.Text.{ascii}
use Rattle.meaning.specs.Lister.{hex, decimal, line_3d, line_video, lines_of, lines_in, lines_among, cell_lines, most_listed, listing, list_answer}
use Rattle.meaning.specs.Reasons.{CellFine, Writable, WriterGives, ListerGives}
use Rattle.meaning.proofs.Table.{SectionAt, rows_in, Sections, rows_among, table, all_rows}
use Rattle.meaning.proofs.Writing.{so_length, so_join, rows_few, count_add, count_3d, count_video}
use Rattle.meaning.proofs.Bytes.{exactly}
use Rattle.meaning.proofs.States.{formed_iff, Sound, empty_well_formed}
use Rattle.meaning.proofs.Exactly.{accepted_iff}
use Rattle.meaning.proofs.Round.{LowestIs, Lowest, lowest_told, sound_takes, left_by_lem}

-- ---- the writer

module _ (st grants : List ℕ) (room : ℕ) where
  abbrev g : Terms
  g = terms_of grants

  abbrev need : ℕ
  need = length (written st)

  -- the answer by what its tests come to
  abbrev by : Bool → Bool → Option Cell → Bool → Answer
  by b c f d = provided b 1 (provided c 2 (except_at f (provided d 11 (answer 0 need))))

  -- the lowest cell that is refused, for its value or for the pair
  pub record RefusedAt (c : ℕ) : Type 0 where
    pub to : c < cells
    pub bad : ¬ Writable g st (cell c)
    pub before : (d : ℕ) → d < c → Writable g st (cell d)

  abbrev Refused : Option Cell → Type 0
  Refused (Some c) = RefusedAt c.0
  Refused None = (c : ℕ) → c < cells → Writable g st (cell c)

  -- a bad pair, where no cell before it is refused
  pair_at : pair_fine g st ≡ false → ((d : ℕ) → d < 1 → CellFine g st (cell d)) → RefusedAt 1
  pair_at e h =
      record { to = omega arith; bad = λ w. fails_of e (w.pair refl); before = λ d k. record { value = h d k; pair = λ z. absurd (omega arith) } }

  below_pair : pair_fine g st ≡ false → (c : Cell) → LowestIs g st 0 cells c.0 → (b : Bool) → eqb c.0 0 ≡ b → Refused (cond b (Some c) (Some target_cell))
  below_pair e c low true z =
      let zero = eqb-true c.0 0 z in
      record { to = low.to; bad = λ w. low.bad w.value; before = λ d k. absurd (omega arith) }
  below_pair e c low false z = pair_at e (λ d k. low.before d (omega arith) (let n = eqb-false c.0 0 z in omega arith))

  with_pair_lem : (b : Bool) → pair_fine g st ≡ b → (f : Option Cell) → Lowest g st 0 cells f → Refused (with_pair b f)
  with_pair_lem true e (Some c) low =
      record { to = low.to; bad = λ w. low.bad w.value; before = λ d k. record { value = low.before d (omega arith) k; pair = λ z. holds_of e } }
  with_pair_lem true e None low = λ c k. record { value = low c (omega arith) k; pair = λ z. holds_of e }
  with_pair_lem false e (Some c) low = below_pair e c low (eqb c.0 0) refl
  with_pair_lem false e None low = pair_at e (λ d k. low d (omega arith) (omega arith))

  abbrev found : Option Cell
  found = with_pair (pair_fine g st) (lowest_bad g st 0 cells)

  found_told : Refused found
  found_told = with_pair_lem (pair_fine g st) refl (lowest_bad g st 0 cells) (lowest_told g st 0 cells)

  told_as : (b c : Bool) (f : Option Cell) (d : Bool) → well_formed st ≡ b → grants_fine grants ≡ c → Refused f → leb need room ≡ d
      → WriterGives st grants room (by b c f d).reason (by b c f d).place
  told_as false c f d e h low l = WriterGives.by_bad_state (fails_of e)
  told_as true false f d e h low l = WriterGives.by_bad_grants (holds_of e) (fails_of h)
  told_as true true (Some c) d e h low l = WriterGives.by_not_writable (holds_of e) (holds_of h) low.to low.bad low.before
  told_as true true None true e h low l = WriterGives.done (holds_of e) (holds_of h) low (leb-true need room l)
  told_as true true None false e h low l = WriterGives.by_no_room (holds_of e) (holds_of h) low (leb-false need room l)

  pub write_told : WriterGives st grants room (write_answer st grants room).reason (write_answer st grants room).place
  unfolding write_answer
  write_told = told_as (well_formed st) (grants_fine grants) found (leb need room) refl refl found_told refl

  lowest_at : (f : Option Cell) (c : ℕ) → Refused f → c < cells → ¬ Writable g st (cell c) → ((d : ℕ) → d < c → Writable g st (cell d)) → f ≡ Some (cell c)
  lowest_at (Some d) c low l bad before =
      elim (ℕ_discrete d.0 c) [
        | yes e ↦ ap (λ (n : ℕ). Some (cell n)) e
        | no e ↦ absurd (elim (dec_lt d.0 c) [ yes k ↦ low.bad (before d.0 k) | no k ↦ bad (low.before c (omega arith)) ])
      ]
  lowest_at None c low l bad before = absurd (bad (low c l))

  lowest_none : (f : Option Cell) → Refused f → ((c : ℕ) → c < cells → Writable g st (cell c)) → f ≡ None
  lowest_none (Some d) low fine = absurd (low.bad (fine d.0 low.to))
  lowest_none None low fine = refl

  pub write_answer_lem : {r p : ℕ} → WriterGives st grants room r p → write_answer st grants room ≡ answer r p
  unfolding write_answer
  write_answer_lem (WriterGives.by_bad_state n) = rw (false_of (well_formed st) n)
  write_answer_lem (WriterGives.by_bad_grants s n) = rw (true_of (well_formed st) s, false_of (grants_fine grants) n)
  write_answer_lem (WriterGives.by_not_writable {c} s h l bad before) =
      rw (true_of (well_formed st) s, true_of (grants_fine grants) h, lowest_at found c found_told l bad before)
  write_answer_lem (WriterGives.by_no_room s h fine l) =
      rw (true_of (well_formed st) s, true_of (grants_fine grants) h, lowest_none found found_told fine, lt-leb need room l)
  write_answer_lem (WriterGives.done s h fine l) =
      rw (true_of (well_formed st) s, true_of (grants_fine grants) h, lowest_none found found_told fine, le-leb need room l)

  pub write_range : {r p : ℕ} → WriterGives st grants room r p → r ≤ 12
  write_range (WriterGives.by_bad_state n) = omega arith
  write_range (WriterGives.by_bad_grants s n) = omega arith
  write_range (WriterGives.by_not_writable s h l bad before) = omega arith
  write_range (WriterGives.by_no_room s h fine l) = omega arith
  write_range (WriterGives.done s h fine l) = omega arith

  -- the table of reasons and the answer agree
  pub write_exactly : (r p : ℕ) → (write_answer st grants room ≡ answer r p) ↔ WriterGives st grants room r p
  write_exactly = exactly (write_answer st grants room) (WriterGives st grants room) write_told (λ r p. write_answer_lem)

  -- what 0 tells: the grants are fine, the cells of the state hold what they may, the place is the number of words, and the pair is fine
  pub wrote : (write_answer st grants room).reason ≡ 0
      → T (grants_fine grants) × Sound g st × ((write_answer st grants room).place ≡ need) × T (pair_fine g st)
  wrote e = tells write_told e
    where
      tells : {r p : ℕ} → WriterGives st grants room r p → r ≡ 0 → T (grants_fine grants) × Sound g st × (p ≡ need) × T (pair_fine g st)
      tells (WriterGives.by_bad_state s) z = absurd (omega arith)
      tells (WriterGives.by_bad_grants s f) z = absurd (omega arith)
      tells (WriterGives.by_not_writable s f low bad before) z = absurd (omega arith)
      tells (WriterGives.by_no_room s f fine less) z = absurd (omega arith)
      tells (WriterGives.done s f fine enough) z = (
        f,
        record { formed = (formed_iff st).0 s; fine = λ c l. (fine c l).value },
        refl,
        (fine 1 (omega arith)).pair refl,
      )

-- and back: read from the empty state under the same grants, the written words are accepted and leave the state
pub written_back : (st grants : List ℕ) → T (grants_fine grants) → Sound (terms_of grants) st → T (pair_fine (terms_of grants) st)
    → (read_answer (written st) grants empty ≡ answer 0 (length (written st))) × (read_leaves (written st) grants empty ≡ st)
written_back st grants l s p =
    let takes = sound_takes (terms_of grants) st s p in
    let read = (accepted_iff (written st) grants empty empty_well_formed l).1 takes.permitted in
    (read, left_by_lem (written st) grants empty (ap (λ (x : Answer). x.reason) read) takes.permitted.cut ∙ takes.leaves)

-- ---- the lister

module _ (st : List ℕ) (room : ℕ) where
  listed_as : (b d : Bool) → well_formed st ≡ b → leb (length (listing st)) room ≡ d
      → ListerGives st room (provided b 1 (provided d 11 (answer 0 (length (listing st))))).reason (provided b 1 (provided d 11 (answer 0 (length (listing st))))).place
  listed_as false d e l = ListerGives.by_bad_state (fails_of e)
  listed_as true true e l = ListerGives.done (holds_of e) (leb-true (length (listing st)) room l)
  listed_as true false e l = ListerGives.by_no_room (holds_of e) (leb-false (length (listing st)) room l)

  pub list_told : ListerGives st room (list_answer st room).reason (list_answer st room).place
  unfolding list_answer
  list_told = listed_as (well_formed st) (leb (length (listing st)) room) refl refl

  pub list_answer_lem : {r p : ℕ} → ListerGives st room r p → list_answer st room ≡ answer r p
  unfolding list_answer
  list_answer_lem (ListerGives.by_bad_state n) = rw (false_of (well_formed st) n)
  list_answer_lem (ListerGives.by_no_room s l) = rw (true_of (well_formed st) s, lt-leb (length (listing st)) room l)
  list_answer_lem (ListerGives.done s l) = rw (true_of (well_formed st) s, le-leb (length (listing st)) room l)

  pub list_range : {r p : ℕ} → ListerGives st room r p → r ≤ 11
  list_range (ListerGives.by_bad_state n) = omega arith
  list_range (ListerGives.by_no_room s l) = omega arith
  list_range (ListerGives.done s l) = omega arith

  pub list_exactly : (r p : ℕ) → (list_answer st room ≡ answer r p) ↔ ListerGives st room r p
  list_exactly = exactly (list_answer st room) (ListerGives st room) list_told (λ r p. list_answer_lem)

-- ---- L6 "No listing has more than 2,568 bytes."

length_3d : (t u : ℕ) (a : SubAddress) (v : ℕ) → length (line_3d t u a v) ≡ 26
unfolding hex
length_3d t u a v = refl

length_video : (o : VideoOffset) (v : ℕ) → length (line_video o v) ≡ 22
unfolding hex
length_video o v = refl

-- a line for each marked cell: so many lines, of so many bytes
lines_bytes : {Name : Type 0} (line : Name → ℕ → List ℕ) (n : ℕ) → ((x : Name) (v : ℕ) → length (line x v) ≡ n) → (st : List ℕ) (rs : List (Row Name))
    → length (join (lines_of line st rs)) ≡ n * count_rows (marked st) rs
unfolding lines_of count_rows
lines_bytes line n h st [] = omega arith
lines_bytes line n h st (r ∷ rs) =
    so_join (marked st r.cell) (line r.name (value_at st r.cell)) (lines_of line st rs)
    ∙ rw (h r.name (value_at st r.cell), lines_bytes line n h st rs) (sym (mul-add n (one (marked st r.cell)) (count_rows (marked st) rs)))

lines_count : {Name : Type 0} (line : Name → ℕ → List ℕ) (st : List ℕ) (rs : List (Row Name)) → length (lines_of line st rs) ≡ count_rows (marked st) rs
unfolding lines_of count_rows
lines_count line st [] = refl
lines_count line st (r ∷ rs) = so_length (marked st r.cell) _ (lines_of line st rs) ∙ ap (λ (n : ℕ). one (marked st r.cell) + n) (lines_count line st rs)

-- the bytes of a section's lines
abbrev bytes_in : List ℕ → Section → ℕ
bytes_in st (of_3d G) = 26 * count_rows (marked st) G.rows
bytes_in st (of_video rs) = 22 * count_rows (marked st) rs

section_bytes : (st : List ℕ) (s : Section) → length (join (lines_in st s)) ≡ bytes_in st s
section_bytes st (of_3d G) = lines_bytes (line_3d G.type G.sub_type) 26 (length_3d G.type G.sub_type) st G.rows
section_bytes st (of_video rs) = lines_bytes line_video 22 length_video st rs

-- and the most there can be
abbrev room_in : Section → ℕ
room_in (of_3d G) = 26 * length G.rows
room_in (of_video rs) = 22 * length rs

section_most : (st : List ℕ) (s : Section) → bytes_in st s ≤ room_in s
section_most st (of_3d G) = omega (arith, rows_few (marked st) G.rows)
section_most st (of_video rs) = omega (arith, rows_few (marked st) rs)

room_among : List Section → ℕ
room_among [] = 0
room_among (s ∷ ss) = room_in s + room_among ss

lines_most : (st : List ℕ) (ss : List Section) → length (join (lines_among st ss)) ≤ room_among ss
unfolding lines_among room_among
lines_most st [] = omega arith
lines_most st (s ∷ ss) =
    omega (arith, length_join_append (lines_in st s) (lines_among st ss), section_bytes st s, section_most st s, lines_most st ss)

-- ten bytes at most for the first line
all_room : 10 + room_among sections ≡ most_listed
unfolding room_among sections target_group stage sample overlay scaler from
all_room = refl

-- as many lines as cells are marked
section_count : (i : ℕ) (st : List ℕ) (s : Section) → SectionAt i s → length (lines_in st s) ≡ count_in (marked st) i (rows_in s)
section_count i st (of_3d G) a = lines_count (line_3d G.type G.sub_type) st G.rows ∙ count_3d (marked st) i G a
section_count i st (of_video rs) a = lines_count line_video st rs ∙ count_video (marked st) i rs a

sections_count : (i : ℕ) (st : List ℕ) (ss : List Section) → Sections i ss → length (lines_among st ss) ≡ count_in (marked st) i (rows_among ss)
unfolding lines_among rows_among count_in
sections_count i st [] a = refl
sections_count i st (s ∷ ss) a =
    length-append (lines_in st s) (lines_among st ss)
    ∙ ap₂ (λ (x y : ℕ). x + y) (section_count i st s a.0) (sections_count (i + rows_in s) st ss a.1)
    ∙ count_add (marked st) i (rows_in s) (rows_among ss)

pub lines_are_marked : (st : List ℕ) → length (cell_lines st) ≡ marked_cells st
unfolding cell_lines
lines_are_marked st = sections_count 0 st sections table ∙ ap (count_in (marked st) 0) all_rows

decimal_cases : (b c : Bool) (x y z : List ℕ) → length x ≤ 3 → length y ≤ 3 → length z ≤ 3 → length (cond b x (cond c y z)) ≤ 3
decimal_cases true c x y z p q r = p
decimal_cases false true x y z p q r = q
decimal_cases false false x y z p q r = r

length_decimal : (n : ℕ) → length (decimal n) ≤ 3
unfolding decimal
length_decimal n = decimal_cases (ltb n 10) (ltb n 100) _ _ _ (omega arith) (omega arith) (omega arith)

pub listing_at_most : (st : List ℕ) → length (listing st) ≤ most_listed
unfolding listing cell_lines
listing_at_most st =
    omega (
      arith,
      length-append (decimal (length (cell_lines st))) (ascii "\n" ++ join (cell_lines st)),
      length_decimal (length (cell_lines st)),
      lines_most st sections,
      all_room,
    )
