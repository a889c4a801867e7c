-- What is written for chosen cells of a state is permitted, writes those cells in order, and is as many words as they need, at most 184;
-- the writer's words are those for all marked cells.
-- Assumes nothing.
use mathlib.Core.Path.{◌≡◌, refl, sym, ap, ap₂, ◌∙◌}
use mathlib.Core.Bool.{Bool, true, false}
use mathlib.Core.List.{List, [], ◌∷◌, ◌++◌, append_assoc}
use Prim.Native.Nat.{ℕ, zero, suc, ◌+◌, ◌*◌, ◌≤◌, ◌<◌, ◌^◌}
use native.Mathlib.Omega.{arith}
use native.Mathlib.Nat.{zero-lt-suc, zero-add, suc-add, add-suc, add-zero, mul-le-mul_left, mul-suc}
use lib.Dec.{T, eqb, lit<}
use lib.ListN.{length, length-append}
use mir.Facts.{yes_and, yes_eqb}
use Rattle.laws.specs.Lists.{All, from, join}
use Rattle.laws.proofs.Lists.{all_append, all_map, all_join, length_join_append}
use Rattle.meaning.specs.declared.Cell.{Cell}
use Rattle.meaning.specs.declared.SubAddress.{SubAddress}
use Rattle.meaning.specs.declared.VideoOffset.{VideoOffset}
use Rattle.meaning.specs.Words.{Word, count, offset, video_offset, para_adr, para_os, para_type, para_sub_type, sub_address, data24}
use Rattle.meaning.specs.Registers.{cells, cell, register_at, Row, Group, Section, of_3d, of_video, target_group, stage, sample, overlay, scaler, sections, find_3d}
use Rattle.meaning.specs.Grants.{Terms}
use Rattle.meaning.specs.Batch.{offset_3d, type_allowed, allowed, named, ParameterStands, Packet, packet_3d, packet_video, Packet3D, PacketVideo}
use Rattle.meaning.specs.State.{value_at, mark_at, is_mark, marked, one, count_in, Write, write_to, writes_3d, writes_run, packet_writes, all_writes}
use Rattle.meaning.specs.Writer.{header_word, setting_word, if_so, parameters, packet_3d_of, packets_video, packets_in, packets_among, words_for, packets_of, written, most_written, count_rows, packet_need, need_in, need_among, need_for}
use Rattle.meaning.specs.Reasons.{MayHold, CellFine}
use Rattle.meaning.proofs.Packets.{never_both}
use Rattle.meaning.proofs.Table.{Row3D, RowVideo, Rows, GroupAt, SectionAt, rows_in, Sections, rows_among, table, all_rows}

-- the writes of the chosen cells among n from cell i on
unfoldable pub chosen_from : (Cell → Bool) → List ℕ → ℕ → ℕ → List Write
chosen_from chosen st i zero = []
chosen_from chosen st i (suc n) = if_so (chosen (cell i)) (record { cell = cell i; value = value_at st (cell i) }) (chosen_from chosen st (suc i) n)

-- each marked cell holds what it may
abbrev pub AllFine : Terms → List ℕ → Type 0
AllFine g st = (c : ℕ) → c < cells → CellFine g st (cell c)

-- so does each chosen one
abbrev pub ChosenFine : Terms → (Cell → Bool) → List ℕ → Type 0
ChosenFine g chosen st = (c : ℕ) → c < cells → T (chosen (cell c)) → MayHold g (cell c) (value_at st (cell c))

is_mark_lem : (m : ℕ) → T (is_mark m) → 0 < m
is_mark_lem zero t = absurd t
is_mark_lem (suc m) t = zero-lt-suc m

pub marked_fine : (g : Terms) (st : List ℕ) → AllFine g st → ChosenFine g (marked st) st
marked_fine g st ok c l t = ok c l (is_mark_lem (mark_at st (cell c)) t)

-- ---- lists with `if_so`

pub so_all {ℓ} : {A : Type ℓ} (P : A → Type 0) (b : Bool) (x : A) (xs : List A) → (T b → P x) → All P xs → All P (if_so b x xs)
so_all P false x xs h a = a
so_all P true x xs h a = (h tt, a)

-- a function that goes element by element
so_map {ℓ} : {A : Type ℓ} (f : List A → List Write) (each : A → List Write) → ((x : A) (xs : List A) → f (x ∷ xs) ≡ each x ++ f xs)
    → (b : Bool) (x : A) (w : Write) (xs : List A) (ws : List Write) → (T b → each x ≡ w ∷ []) → f xs ≡ ws → f (if_so b x xs) ≡ if_so b w ws
so_map f each step false x w xs ws h e = e
so_map f each step true x w xs ws h e = step x xs ∙ ap₂ (λ (a b : List Write). a ++ b) (h tt) e

pub so_length {ℓ} : {A : Type ℓ} (b : Bool) (x : A) (xs : List A) → length (if_so b x xs) ≡ one b + length xs
so_length false x xs = omega arith
so_length true x xs = omega arith

pub so_join {ℓ} : {A : Type ℓ} (b : Bool) (x : List A) (xs : List (List A)) → length (join (if_so b x xs)) ≡ length x * one b + length (join xs)
so_join false x xs = omega arith
so_join true x xs = omega (arith, length-append x (join xs))

pub so_append {ℓ} : {A : Type ℓ} (b : Bool) (x : A) (xs ys : List A) → if_so b x xs ++ ys ≡ if_so b x (xs ++ ys)
so_append false x xs ys = refl
so_append true x xs ys = refl

pub one_few : (b : Bool) → one b ≤ 1
one_few false = omega arith
one_few true = omega arith

pub chosen_add : (chosen : Cell → Bool) (st : List ℕ) (i n m : ℕ) → chosen_from chosen st i n ++ chosen_from chosen st (i + n) m ≡ chosen_from chosen st i (n + m)
unfolding chosen_from
chosen_add chosen st i zero m = rw (add-zero, zero-add)
chosen_add chosen st i (suc n) m =
    rw (suc-add n m, add-suc i n, ← suc-add i n)
    (so_append (chosen (cell i)) _ (chosen_from chosen st (suc i) n) _
    ∙ ap (if_so (chosen (cell i)) (record { cell = cell i; value = value_at st (cell i) })) (chosen_add chosen st (suc i) n m))

-- ---- the words that are put together, taken apart

sub : ℕ → SubAddress
sub n = record { 0 = n }

at_offset : ℕ → VideoOffset
at_offset n = record { 0 = n }

header_count : (n o : ℕ) → n < 65536 → o < 65536 → count (header_word n o) ≡ n
unfolding count
header_count n o l k = omega arith

header_offset : (n o : ℕ) → o < 65536 → offset (header_word n o) ≡ o
unfolding offset
header_offset n o k = omega arith

module _ (t u : ℕ) (lt : t < 256) (lu : u < 256) where
  setting_type : para_type (setting_word t u) ≡ t
  unfolding para_type
  setting_type = omega arith

  setting_sub_type : para_sub_type (setting_word t u) ≡ u
  unfolding para_sub_type
  setting_sub_type = omega arith

  pub setting_allowed : T (type_allowed t u) → T (allowed (setting_word t u))
  unfolding allowed para_adr para_os
  setting_allowed a =
      let zero_adr : para_adr (setting_word t u) ≡ 0 = omega arith in
      let zero_os : para_os (setting_word t u) ≡ 0 = omega arith in
      yes_and (eqb (para_adr (setting_word t u)) 0) _ (yes_eqb zero_adr)
      (yes_and (eqb (para_os (setting_word t u)) 0) _ (yes_eqb zero_os) (rw (setting_type, setting_sub_type) a))

  pub parameter_named : (a : SubAddress) (v : ℕ) → a.0 < 256 → v < 2 ^ 24 → named (setting_word t u) (a.0 * 2 ^ 24 + v) ≡ find_3d t u a
  unfolding sub_address sub
  parameter_named a v la lv =
      let name : sub_address (a.0 * 2 ^ 24 + v) ≡ a = ap sub (omega arith) in
      rw (setting_type, setting_sub_type, name)

pub parameter_data : (n v : ℕ) → v < 2 ^ 24 → data24 (n * 2 ^ 24 + v) ≡ v
unfolding data24
parameter_data n v l = omega arith

-- ---- what is written for chosen cells that hold what they may

-- a parameter, and a packet: permitted, and of 32-bit words
abbrev GoodParameter : Terms → ℕ → ℕ → Type 0
GoodParameter g s p = ParameterStands g s p × Word p

abbrev pub GoodPacket : Terms → List ℕ → Type 0
GoodPacket g p = Packet g p × All Word p

-- as many parameters as cells are chosen
pub parameters_length : (chosen : Cell → Bool) (st : List ℕ) (rs : List (Row SubAddress)) → length (parameters chosen st rs) ≡ count_rows chosen rs
unfolding parameters count_rows
parameters_length chosen st [] = refl
parameters_length chosen st (r ∷ rs) = so_length (chosen r.cell) _ (parameters chosen st rs) ∙ ap (λ (n : ℕ). one (chosen r.cell) + n) (parameters_length chosen st rs)

pub rows_few : {Name : Type 0} (chosen : Cell → Bool) (rs : List (Row Name)) → count_rows chosen rs ≤ length rs
unfolding count_rows
rows_few chosen [] = omega arith
rows_few chosen (r ∷ rs) = omega (arith, one_few (chosen r.cell), rows_few chosen rs)

pub all_writes_append : (ps qs : List (List ℕ)) → all_writes (ps ++ qs) ≡ all_writes ps ++ all_writes qs
unfolding all_writes
all_writes_append [] qs = refl
all_writes_append (p ∷ ps) qs =
    ap (λ (x : List Write). packet_writes p ++ x) (all_writes_append ps qs) ∙ sym (append_assoc (packet_writes p) (all_writes ps) (all_writes qs))

module _ (g : Terms) (chosen : Cell → Bool) (st : List ℕ) (ok : ChosenFine g chosen st) where
  -- ---- parameters

  value_fits : (i n : ℕ) → i < cells → (register_at (cell i)).width ≡ n → T (chosen (cell i)) → value_at st (cell i) < 2 ^ n
  value_fits i n l e m = rw e at (ok i l m).narrow

  module _ (t u : ℕ) (lt : t < 256) (lu : u < 256) where
    parameters_good : (i : ℕ) (rs : List (Row SubAddress)) → Rows (Row3D t u) i rs → All (GoodParameter g (setting_word t u)) (parameters chosen st rs)
    unfolding parameters
    parameters_good i [] a = tt
    parameters_good i (r ∷ rs) a =
        let row = a.0 in
        rw row.numbered
        (so_all (GoodParameter g (setting_word t u)) (chosen (cell i)) _ (parameters chosen st rs)
        (λ m.
        let l = value_fits i 24 row.high row.width m in (
          rw (parameter_named t u lt lu r.name (value_at st (cell i)) row.short l, parameter_data r.name.0 (value_at st (cell i)) l, row.found)
              (ok i row.high m).fits,
          omega (arith, row.short),
        ))
        (parameters_good (suc i) rs a.1))

    parameters_writes : (i : ℕ) (rs : List (Row SubAddress)) → Rows (Row3D t u) i rs
        → writes_3d (setting_word t u) (parameters chosen st rs) ≡ chosen_from chosen st i (length rs)
    unfolding parameters writes_3d chosen_from
    parameters_writes i [] a = refl
    parameters_writes i (r ∷ rs) a =
        let row = a.0 in
        rw row.numbered
        (so_map (writes_3d (setting_word t u)) (λ (p : ℕ). write_to (named (setting_word t u) p) (data24 p)) (λ x xs. refl) (chosen (cell i))
        (r.name.0 * 2 ^ 24 + value_at st (cell i)) (record { cell = cell i; value = value_at st (cell i) }) (parameters chosen st rs)
        (chosen_from chosen st (suc i) (length rs))
        (λ m.
        let l = value_fits i 24 row.high row.width m in
        rw (parameter_named t u lt lu r.name (value_at st (cell i)) row.short l, parameter_data r.name.0 (value_at st (cell i)) l, row.found))
        (parameters_writes (suc i) rs a.1))

  -- ---- the packet of a group

  packet_good : (s : ℕ) (ps : List ℕ) → T (allowed s) → Word s → length ps ≤ 112 → All (GoodParameter g s) ps → All (GoodPacket g) (packet_3d_of s ps)
  packet_good s [] t w l a = tt
  packet_good s (p ∷ ps) t w l a =
      let n = length (s ∷ p ∷ ps) in
      let e : count (header_word n offset_3d) ≡ n = header_count n offset_3d (omega arith) (lit< tt) in
      let c : Packet3D g (header_word n offset_3d) s (p ∷ ps) = record {
        bound = header_offset n offset_3d (lit< tt);
        low = omega arith;
        high = omega arith;
        whole = sym e;
        setting = t;
        parameters = all_map (GoodParameter g s) (ParameterStands g s) (λ x q. q.0) (p ∷ ps) a;
      } in
      ((packet_3d c, (omega arith, (w, all_map (GoodParameter g s) Word (λ x q. q.1) (p ∷ ps) a))), tt)

  packet_writes_lem : (s : ℕ) (ps : List ℕ) → all_writes (packet_3d_of s ps) ≡ writes_3d s ps ++ []
  unfolding all_writes packet_writes writes_3d
  packet_writes_lem s [] = refl
  packet_writes_lem s (p ∷ ps) = rw (header_offset (length (s ∷ p ∷ ps)) offset_3d (lit< tt))

  -- ---- packets of video cells

  module _ (i : ℕ) (r : Row VideoOffset) (row : RowVideo i r) where
    abbrev one_packet : List ℕ
    one_packet = header_word 1 r.name.0 ∷ value_at st (cell i) ∷ []

    one_offset : video_offset (header_word 1 r.name.0) ≡ r.name
    unfolding at_offset
    one_offset = ap at_offset (header_offset 1 r.name.0 row.short)

    one_good : T (chosen (cell i)) → GoodPacket g one_packet
    one_good m =
        let e : count (header_word 1 r.name.0) ≡ 1 = header_count 1 r.name.0 (lit< tt) row.short in
        let c : PacketVideo g (header_word 1 r.name.0) (value_at st (cell i) ∷ []) = record {
          low = omega arith;
          whole = sym e;
          run = (rw (one_offset, row.found) (ok i row.high m).fits, tt);
        } in
        (packet_video c, (omega (arith, row.short), (value_fits i 32 row.high row.width m, tt)))

    one_write : packet_writes one_packet ≡ record { cell = cell i; value = value_at st (cell i) } ∷ []
    unfolding packet_writes writes_run
    one_write =
        let other : eqb r.name.0 offset_3d ≡ _ = never_both r.name.0 (rw row.found tt) in
        rw (header_offset 1 r.name.0 row.short, other, row.found)

  video_good : (i : ℕ) (rs : List (Row VideoOffset)) → Rows RowVideo i rs → All (GoodPacket g) (packets_video chosen st rs)
  unfolding packets_video
  video_good i [] a = tt
  video_good i (r ∷ rs) a =
      rw a.0.numbered
      (so_all (GoodPacket g) (chosen (cell i)) (one_packet i r a.0) (packets_video chosen st rs) (one_good i r a.0) (video_good (suc i) rs a.1))

  video_writes : (i : ℕ) (rs : List (Row VideoOffset)) → Rows RowVideo i rs → all_writes (packets_video chosen st rs) ≡ chosen_from chosen st i (length rs)
  unfolding packets_video all_writes chosen_from
  video_writes i [] a = refl
  video_writes i (r ∷ rs) a =
      rw a.0.numbered
      (so_map all_writes packet_writes (λ x xs. refl) (chosen (cell i)) (one_packet i r a.0) (record { cell = cell i; value = value_at st (cell i) })
      (packets_video chosen st rs) (chosen_from chosen st (suc i) (length rs)) (λ m. one_write i r a.0) (video_writes (suc i) rs a.1))

  -- ---- sections

  section_good : (i : ℕ) (s : Section) → SectionAt i s → All (GoodPacket g) (packets_in chosen st s)
  section_good i (of_3d G) a =
      packet_good (setting_word G.type G.sub_type) (parameters chosen st G.rows)
      (setting_allowed G.type G.sub_type a.type a.sub_type a.permitted)
      (omega (arith, a.type, a.sub_type))
      (omega (arith, parameters_length chosen st G.rows, rows_few chosen G.rows, a.few))
      (parameters_good G.type G.sub_type a.type a.sub_type i G.rows a.rows)
  section_good i (of_video rs) a = video_good i rs a

  no_more : (ws : List Write) → ws ++ [] ≡ ws
  no_more [] = refl
  no_more (w ∷ ws) = ap (λ (x : List Write). w ∷ x) (no_more ws)

  section_writes : (i : ℕ) (s : Section) → SectionAt i s → all_writes (packets_in chosen st s) ≡ chosen_from chosen st i (rows_in s)
  section_writes i (of_3d G) a =
      packet_writes_lem (setting_word G.type G.sub_type) (parameters chosen st G.rows)
      ∙ no_more (writes_3d (setting_word G.type G.sub_type) (parameters chosen st G.rows))
      ∙ parameters_writes G.type G.sub_type a.type a.sub_type i G.rows a.rows
  section_writes i (of_video rs) a = video_writes i rs a

  pub sections_good : (i : ℕ) (ss : List Section) → Sections i ss → All (GoodPacket g) (packets_among chosen st ss)
  unfolding packets_among
  sections_good i [] a = tt
  sections_good i (s ∷ ss) a =
      all_append (GoodPacket g) (packets_in chosen st s) (packets_among chosen st ss) (section_good i s a.0) (sections_good (i + rows_in s) ss a.1)

  pub sections_writes : (i : ℕ) (ss : List Section) → Sections i ss → all_writes (packets_among chosen st ss) ≡ chosen_from chosen st i (rows_among ss)
  unfolding packets_among rows_among all_writes chosen_from
  sections_writes i [] a = refl
  sections_writes i (s ∷ ss) a =
      all_writes_append (packets_in chosen st s) (packets_among chosen st ss)
      ∙ ap₂ (λ (x y : List Write). x ++ y) (section_writes i s a.0) (sections_writes (i + rows_in s) ss a.1)
      ∙ chosen_add chosen st i (rows_in s) (rows_among ss)

-- ---- the whole state

good_packets : (g : Terms) (st : List ℕ) → AllFine g st → All (GoodPacket g) (packets_of st)
unfolding packets_of
good_packets g st ok = sections_good g (marked st) st (marked_fine g st ok) 0 sections table

pub written_permitted : (g : Terms) (st : List ℕ) → AllFine g st → All (Packet g) (packets_of st)
written_permitted g st ok = all_map (GoodPacket g) (Packet g) (λ p q. q.0) (packets_of st) (good_packets g st ok)

pub written_words : (g : Terms) (st : List ℕ) → AllFine g st → All Word (written st)
unfolding written words_for packets_of
written_words g st ok = all_join Word (packets_of st) (all_map (GoodPacket g) (All Word) (λ p q. q.1) (packets_of st) (good_packets g st ok))

pub written_writes : (g : Terms) (st : List ℕ) → AllFine g st → all_writes (packets_of st) ≡ chosen_from (marked st) st 0 cells
unfolding packets_of
written_writes g st ok = sections_writes g (marked st) st (marked_fine g st ok) 0 sections table ∙ ap (chosen_from (marked st) st 0) all_rows

-- ---- how many words that is

module _ (chosen : Cell → Bool) where
  module _ (st : List ℕ) where
    packet_length : (s : ℕ) (ps : List ℕ) → length (join (packet_3d_of s ps)) ≡ packet_need (length ps)
    unfolding packet_need
    packet_length s [] = refl
    packet_length s (p ∷ ps) = omega (arith, length-append (header_word (length (s ∷ p ∷ ps)) offset_3d ∷ s ∷ p ∷ ps) [])

    video_length : (rs : List (Row VideoOffset)) → length (join (packets_video chosen st rs)) ≡ 2 * count_rows chosen rs
    unfolding packets_video count_rows
    video_length [] = refl
    video_length (r ∷ rs) =
        omega (arith, so_join (chosen r.cell) (header_word 1 r.name.0 ∷ value_at st r.cell ∷ []) (packets_video chosen st rs), video_length rs)

    section_length : (s : Section) → length (join (packets_in chosen st s)) ≡ need_in chosen s
    section_length (of_3d G) = packet_length (setting_word G.type G.sub_type) (parameters chosen st G.rows) ∙ ap packet_need (parameters_length chosen st G.rows)
    section_length (of_video rs) = video_length rs

    pub sections_length : (ss : List Section) → length (join (packets_among chosen st ss)) ≡ need_among chosen ss
    unfolding packets_among need_among
    sections_length [] = refl
    sections_length (s ∷ ss) =
        length_join_append (packets_in chosen st s) (packets_among chosen st ss) ∙ ap₂ (λ (x y : ℕ). x + y) (section_length s) (sections_length ss)

    -- the words for chosen cells are as many as they need
    pub need_is_length : length (words_for chosen st) ≡ need_for chosen
    unfolding words_for need_for
    need_is_length = sections_length sections

  -- two for each type and sub-type, one for each 3D cell, two for each video cell
  abbrev room_in : Section → ℕ
  room_in (of_3d G) = 2 + length G.rows
  room_in (of_video rs) = 2 * length rs

  room_among : List Section → ℕ
  room_among [] = 0
  room_among (s ∷ ss) = room_in s + room_among ss

  need_few : (n : ℕ) → packet_need n ≤ 2 + n
  unfolding packet_need
  need_few zero = omega arith
  need_few (suc n) = omega arith

  section_room : (s : Section) → need_in chosen s ≤ room_in s
  section_room (of_3d G) = omega (arith, need_few (count_rows chosen G.rows), rows_few chosen G.rows)
  section_room (of_video rs) = omega (arith, rows_few chosen rs)

  sections_room : (ss : List Section) → need_among chosen ss ≤ room_among ss
  unfolding need_among room_among
  sections_room [] = omega arith
  sections_room (s ∷ ss) = omega (arith, section_room s, sections_room ss)

  all_room : room_among sections ≡ most_written
  unfolding room_among sections target_group stage sample overlay scaler from
  all_room = refl

  -- W4 "No state needs more than 184 words."
  pub need_at_most : need_for chosen ≤ most_written
  unfolding need_for
  need_at_most = omega (arith, sections_room sections, all_room)

pub written_at_most : (st : List ℕ) → length (written st) ≤ most_written
unfolding written
written_at_most st = omega (arith, need_is_length (marked st) st, need_at_most (marked st))

-- ---- counts by cell number

pub count_add : (chosen : Cell → Bool) (i n m : ℕ) → count_in chosen i n + count_in chosen (i + n) m ≡ count_in chosen i (n + m)
unfolding count_in
count_add chosen i zero m =
    let here : i + 0 ≡ i = omega arith in
    let all : 0 + m ≡ m = omega arith in
    rw (here, all) (omega arith)
count_add chosen i (suc n) m = rw (suc-add n m, add-suc i n, ← suc-add i n) (omega (arith, count_add chosen (suc i) n m))

pub count_few : (chosen : Cell → Bool) (i n : ℕ) → count_in chosen i n ≤ n
unfolding count_in
count_few chosen i zero = omega arith
count_few chosen i (suc n) = omega (arith, one_few (chosen (cell i)), count_few chosen (suc i) n)

-- of groups that have so many cells each and follow one another, each lies where all do
pub in_series : (first rows many n end : ℕ) → first + rows * many ≤ end → n < many → first + rows * n + rows ≤ end
in_series first rows many n end all less = omega (arith, mul-le-mul_left rows less, mul-suc rows n)

-- the cells of rows that are numbered from i on
rows_count : {Name : Type 0} (chosen : Cell → Bool) (P : ℕ → Row Name → Type 0) → ((j : ℕ) (r : Row Name) → P j r → r.cell ≡ cell j)
    → (i : ℕ) (rs : List (Row Name)) → Rows P i rs → count_rows chosen rs ≡ count_in chosen i (length rs)
unfolding count_rows count_in
rows_count chosen P is i [] a = refl
rows_count chosen P is i (r ∷ rs) a = rw (is i r a.0, rows_count chosen P is (suc i) rs a.1)

pub count_3d : (chosen : Cell → Bool) (i : ℕ) (G : Group) → GroupAt i G → count_rows chosen G.rows ≡ count_in chosen i (length G.rows)
count_3d chosen i G a = rows_count chosen (Row3D G.type G.sub_type) (λ j r x. x.numbered) i G.rows a.rows

pub count_video : (chosen : Cell → Bool) (i : ℕ) (rs : List (Row VideoOffset)) → Rows RowVideo i rs → count_rows chosen rs ≡ count_in chosen i (length rs)
count_video chosen i rs a = rows_count chosen RowVideo (λ j r x. x.numbered) i rs a
