-- The words of a body one after another: the law of the loop over them, and what the code asks of a word and stores of it.
-- Assumes nothing.
use Rattle.std.specs.Prelude.{Option, Some, None, Ok, Err}
use mathlib.Core.Path.{◌≡◌, refl, sym, ap, ◌∙◌}
use mathlib.Core.List.{List, [], ◌∷◌}
use Prim.Native.Nat.{ℕ, zero, suc, ◌+◌, ◌*◌, ◌-◌, ◌/◌, ◌≤◌, ◌<◌, ◌^◌}
use native.Mathlib.Omega.{arith}
use native.Mathlib.Numerals.{add-one}
use borrow.Author.Tests.{le-leb, lt-leb}
use lib.ListN.{length, get_or}
use lib.Seq.{slice, slice-cons, slice_empty}
use Rattle.meaning.proofs.Refusals.{refused}
use Rattle.meaning.specs.declared.Cell.{Cell}
use Rattle.meaning.specs.declared.SubAddress.{SubAddress}
use Rattle.meaning.specs.declared.VideoOffset.{VideoOffset}
use Rattle.meaning.specs.declared.Kind.{Kind}
use Rattle.meaning.specs.declared.Kind.TheVariants.{Parameter, Video}
use Rattle.meaning.specs.Words.{para_type, para_sub_type, sub_address, data24, words_of}
use Rattle.meaning.specs.Registers.{cells, cell, register_at, find_3d, find_video}
use Rattle.meaning.specs.Batch.{named}
use Rattle.meaning.specs.Grants.{Terms}
use Rattle.meaning.specs.State.{apply, apply_all, write_to}
use Rattle.meaning.specs.Positions.{after, goes, carries}
use Rattle.meaning.specs.declared.Reason.{Reason}
use Rattle.meaning.specs.Answers.{Answer, success, answer, no_register, number, reason_in}
use Rattle.meaning.specs.Reader.{value_reason, found_reason, word_reason}
use Rattle.meaning.proofs.Bytes.{length_words}
use Rattle.meaning.proofs.Table.{Of}
use Rattle.meaning.proofs.EachWrite.{Wide, found_3d, data_small}
use Rattle.registers.specs.Names.{offset_of, row_from}
use Rattle.registers.proofs.Names.{named_video, row_next}
use Rattle.rows_video.specs.Scalers.{Scaler, first, second}
use Rattle.headers.specs.declared.Group.{Group}
use Rattle.headers.specs.Told.{cell_in, IsGroup, Leads}
use Rattle.headers.proofs.Groups.{some_setting}
use Rattle.judging.specs.Judged.{reason_for, cell_for}
use Rattle.bodies.specs.declared.Asked.{Asked}
use Rattle.bodies.specs.Told.{Tells, Judges}
use Rattle.bodies.specs.Passes.{Passed, passed, answer_of, Comes, or_else, applied, body_from}

-- ---- a reason that is 0, and one that is not

pub else_on : {r : ℕ} (i : ℕ) (st : List ℕ) {more : Passed} → r ≡ 0 → or_else r i st more ≡ more
else_on i st e = rw e

pub else_stop : (r i : ℕ) (st : List ℕ) (more : Passed) → (r ≡ 0 → ⊥) → or_else r i st more ≡ passed r i st
else_stop zero i st more n = absurd (n refl)
else_stop (suc r) i st more n = refl

-- what a pass comes to
pub comes : {r p : ℕ} {st : List ℕ} {target : Passed} → passed r p st ≡ target → Comes (answer r p) st target
comes e = (ap answer_of e, ap (λ (x : Passed). x.state) e)

-- ---- a loop over the words up to a place: to read on from here is to read the whole

module _ (g : Terms) (ws : List ℕ) (target : Passed) (end : ℕ) (whole : end ≤ length ws) (kind : Kind) (st : List ℕ) (at : ℕ)
    (inv : body_from g at kind (slice at end ws) st ≡ target) where
  abbrev word : ℕ
  word = get_or ws at 0

  here : at < end → or_else (word_reason g kind word) at st (body_from g (at + 1) (after kind word) (slice (at + 1) end ws) (applied kind word st)) ≡ target
  unfolding body_from
  here l = rw (add-one at) (sym (ap (λ (x : List ℕ). body_from g at kind x st) (slice-cons at end ws 0 l whole)) ∙ inv)

  -- nothing speaks against the word, and what it writes is stored,
  pub body_on : at < end → {asked : Asked} → Tells g kind word asked → asked.verdict ≡ Ok tt → {stored : List ℕ} → stored ≡ apply st (record { cell = asked.cell; value = asked.value })
      → body_from g (at + 1) (after kind word) (slice (at + 1) end ws) stored ≡ target
  unfolding apply_all
  body_on l told z {stored} h =
      let fine : word_reason g kind word ≡ 0 = sym told.reason ∙ ap (reason_in {A = Unit}) z in
      let made : applied kind word st ≡ stored = ap (apply_all st) (told.write z) ∙ sym h in
      rw (← made) (sym (else_on at st fine) ∙ here l)

  -- or the word is refused,
  pub body_stop : at < end → {asked : Asked} → Tells g kind word asked → {r : Reason} → asked.verdict ≡ Err r → Comes (answer (number r) at) st target
  body_stop l told {r} e =
      let is : word_reason g kind word ≡ number r = sym told.reason ∙ ap (reason_in {A = Unit}) e in
      comes (ap (λ (x : ℕ). passed x at st) (sym is) ∙ sym (else_stop (word_reason g kind word) at st _ (λ z. refused r (sym is ∙ z))) ∙ here l)

  -- or no word is left
  pub body_done : at ≡ end → Comes (answer success end) st target
  unfolding body_from
  body_done e = rw (e, slice_empty end ws) at (comes inv)

-- ---- parameters of a group, from what the code reads of a word

-- what is asked of a value for a cell, or for none
asked_for : (g : Terms) (f : Option Cell) (d : ℕ) → reason_for g f d ≡ found_reason g no_register f d
asked_for g (Some c) d = refl
asked_for g None d = refl

-- where nothing speaks against it, there is a cell
write_for : (g : Terms) (f : Option Cell) (d : ℕ) → reason_for g f d ≡ 0 → write_to f d ≡ record { cell = cell_for f; value = d } ∷ []
write_for g (Some c) d z = refl
write_for g None d z = absurd (omega arith)

-- a cell that is told is one of the state, also where there is none
told_inside : (f : Option Cell) → Of (Wide 24) f → (cell_for f).0 < cells
told_inside (Some c) w = w.0
told_inside None w = omega arith

-- a parameter under a setting that names the group: the cell and the data by which code asks
module _ {G : Group} (a : SubAddress) (d : ℕ) (g : Terms) (s w : ℕ) (leads : Leads s G) (ea : a ≡ sub_address w) (ed : d ≡ data24 w) where
  is_named : named s w ≡ cell_in G a
  is_named = ap (find_3d (para_type s) (para_sub_type s)) (sym ea) ∙ leads.found a

  pub parameter_asked : {r : ℕ} → r ≡ reason_for g (cell_in G a) d → r ≡ word_reason g (Parameter s) w
  unfolding word_reason
  parameter_asked told = rw (is_named, sym ed) (told ∙ asked_for g (cell_in G a) d)

  -- and what it writes, where nothing speaks against it
  parameter_writes : reason_for g (cell_in G a) d ≡ 0 → write_to (goes (Parameter s) w) (carries (Parameter s) w) ≡ record { cell = cell_for (cell_in G a); value = d } ∷ []
  unfolding goes carries
  parameter_writes z = rw (is_named, sym ed) (write_for g (cell_in G a) d z)

-- the cell of a value is one of the state, whatever speaks against it
pub parameter_inside : {G : Group} (a : SubAddress) → IsGroup G → {c : Cell} → c ≡ cell_for (cell_in G a) → c.0 < cells
parameter_inside {G} a i e =
    let s = some_setting G i in
    rw e (told_inside (cell_in G a) (rw (s.1.found a) at (found_3d (para_type s.0) (para_sub_type s.0) a)))

-- what is told of each of them
module _ (Told : ℕ → ℕ → Asked → Type 0) (g : Terms) (s : ℕ) {G : Group} (leads : Leads s G) (first end : ℕ) (ws : List ℕ) where
  pub parameters_judge : ((k w : ℕ) (asked : Asked) → Told k w asked
      → (reason_in asked.verdict ≡ reason_for g (cell_in G (sub_address w)) (data24 w)) × (asked.cell ≡ cell_for (cell_in G (sub_address w))) × (asked.value ≡ data24 w))
      → Judges Told g (λ k. Parameter s) 0 first end ws
  unfolding after
  parameters_judge told = record {
    follows = λ k at x. refl;
    tells = λ k at asked x t.
        let is = told k _ asked t in
        record {
          reason = parameter_asked (sub_address (get_or ws at 0)) (data24 (get_or ws at 0)) g s (get_or ws at 0) leads refl refl is.0;
          write = λ z. rw (is.1, is.2) (parameter_writes (sub_address (get_or ws at 0)) (data24 (get_or ws at 0)) g s (get_or ws at 0) leads refl refl (sym is.0 ∙ ap (reason_in {A = Unit}) z));
        };
  }

-- a parameter's data bits are 24
pub data_narrow : (w : ℕ) {d : ℕ} → d ≡ data24 w → d < 2 ^ 24
data_narrow w e = rw e (data_small w)

-- ---- a run

-- the offset of the i-th word of a run
abbrev pub nth : VideoOffset → ℕ → VideoOffset
nth o i = record { 0 = o.0 + 4 * i }

pub first_offset : (o : VideoOffset) (at : ℕ) → Video (nth o (at - at)) ≡ Video o
first_offset o at = let e : o.0 + 4 * (at - at) ≡ o.0 = omega arith in ap (λ (x : ℕ). Video (record { 0 = x })) e

pub next_offset : (o : VideoOffset) (from at w : ℕ) → from ≤ at → after (Video (nth o (at - from))) w ≡ Video (nth o (at + 1 - from))
unfolding after
next_offset o from at w l = let e : o.0 + 4 * (at - from) + 4 ≡ o.0 + 4 * (at + 1 - from) = omega arith in ap (λ (x : ℕ). Video (record { 0 = x })) e

-- word number j of a run from cell c on, which is for cell d
module _ (g : Terms) (c j : ℕ) (low : 84 ≤ c) (high : c < cells) (row : j < row_from (cell c)) {d : ℕ} (is : d ≡ c + j) (w : ℕ) where
  found : find_video (nth (offset_of (cell c)) j) ≡ Some (cell d)
  found = rw is (row_next (offset_of (cell c)) (cell c) (named_video c low high) j row)

  pub word_asked : {r : ℕ} → r ≡ value_reason g (register_at (cell d)) w → r ≡ word_reason g (Video (nth (offset_of (cell c)) j)) w
  unfolding word_reason
  word_asked e = rw found e

-- ---- rows of video registers

-- so many registers stand in a row from one of the first three on,
pub row_overlay : (i : ℕ) → i < 3 → row_from (cell (84 + i)) ≡ 3 - i
unfolding row_from
row_overlay i h = let e : 87 - (84 + i) ≡ 3 - i = omega arith in rw (le-leb (84 + i) 86 (omega arith), e)

-- and from one of a scaler's seven
pub row_scaler : (c role i : ℕ) → Scaler c role → i < 7 → row_from (cell (c + i)) ≡ 7 - i
unfolding row_from
row_scaler _ _ i first h = let e : 94 - (87 + i) ≡ 7 - i = omega arith in rw (lt-leb (87 + i) 86 (omega arith), le-leb (87 + i) 93 (omega arith), e)
row_scaler _ _ i second h = let e : 101 - (94 + i) ≡ 7 - i = omega arith in rw (lt-leb (94 + i) 86 (omega arith), lt-leb (94 + i) 93 (omega arith), e)

-- ---- what is told of the words of a run

-- words from register number `index` on of a row of m registers, the first of them cell `base`
module _ (Told : ℕ → ℕ → Asked → Type 0) (g : Terms) (base m : ℕ) (low : 84 ≤ base) (high : base + m ≤ cells) (row : (i : ℕ) → i < m → row_from (cell (base + i)) ≡ m - i)
    (index first end : ℕ) (few : index + (end - first) ≤ m) (ws : List ℕ) where
  abbrev pub run_kind : ℕ → Kind
  run_kind k = Video (nth (offset_of (cell (base + index))) (k - index))

  -- each is judged by the rule of its own register, and goes there
  pub run_judges : ((k w : ℕ) (asked : Asked) → k < m → Told k w asked
      → (reason_in asked.verdict ≡ value_reason g (register_at (cell (base + k))) w) × (asked.cell ≡ cell (base + k)) × (asked.value ≡ w))
      → Judges Told g run_kind index first end ws
  unfolding goes carries
  run_judges told = record {
    follows = λ k at s. next_offset _ _ _ _ (omega arith);
    tells = λ k at asked s t.
        let is = told k _ asked (omega arith) t in
        let own : k - index < row_from (cell (base + index)) = rw (row index (omega arith)) (omega arith) in
        record {
          reason = word_asked g (base + index) (k - index) (omega arith) (omega arith) own {d = base + k} (omega arith) _ is.0;
          write = λ z. rw (found g (base + index) (k - index) (omega arith) (omega arith) own {d = base + k} (omega arith) (get_or ws at 0), is.1, is.2);
        };
  }

  -- so that the whole is read as a run from that register on
  pub run_read : {a : Answer} {left : List ℕ} (xs st : List ℕ) → ((kind : ℕ → Kind) → Judges Told g kind index first end ws → Comes a left (body_from g first (kind index) xs st))
      → ((k w : ℕ) (asked : Asked) → k < m → Told k w asked
      → (reason_in asked.verdict ≡ value_reason g (register_at (cell (base + k))) w) × (asked.cell ≡ cell (base + k)) × (asked.value ≡ w))
      → Comes a left (body_from g first (Video (offset_of (cell (base + index)))) xs st)
  run_read xs st read told = rw (first_offset (offset_of (cell (base + index))) index) at (read run_kind (run_judges told))

-- ---- places of a batch in bytes

-- a place among the whole words of a buffer is one among its words
pub among_words : (b : List ℕ) (end : ℕ) → end ≤ length b / 4 → end ≤ length (words_of b)
among_words b end h = omega (arith, length_words b)
