-- What whole permitted packets start with, some permitted batch starts with: one packet more writes a pair that is granted. So the place
-- of any refusal is the length of the longest beginning of the batch that some permitted batch begins with.
-- Assumes nothing.
use Rattle.std.specs.Prelude.{Some}
use mathlib.Core.Path.{◌≡◌, refl, sym, ap, ◌∙◌, subst}
use mathlib.Core.Logic.{◌≢◌}
use mathlib.Core.Bool.{Bool, true, false, cond}
use mathlib.Core.List.{List, [], ◌∷◌, ◌++◌, append_assoc, append-nil}
use Prim.Native.Nat.{ℕ, zero, suc, ◌+◌, ◌*◌, ◌/◌, ◌≤◌, ◌<◌, ◌^◌}
use native.Mathlib.Omega.{arith}
use borrow.Author.Tests.{eqb-true, eqb-false}
use lib.Dec.{T, eqb, lit<}
use lib.Bits.{and_comm, and_zero_l}
use lib.ListN.{length, take}
use lib.Seq.{take-length}
use Rattle.laws.specs.Lists.{All, every, some, from, join}
use Rattle.laws.proofs.Lists.{all_append, join_append}
use Rattle.meaning.specs.declared.Memory.TheVariants.{Either, Only}
use Rattle.meaning.specs.Words.{Word, bits, count, offset, para_adr, para_os, para_type, para_sub_type}
use Rattle.meaning.specs.Registers.{cells, location, target_group, stage, sample, overlay, scaler, sections, find, find_among, find_3d, register_among, register_in, register_at}
use Rattle.meaning.specs.Grants.{Terms, terms_of, grant_fine, grants_fine, granted}
use Rattle.meaning.specs.Batch.{Fits, named, allowed_types, type_allowed, allowed, Packet, packet_3d, Packet3D, Cut, HoldableTarget, HoldableScaler}
use Rattle.meaning.specs.State.{value_at, mark_at, well_formed, Write, writes_3d, packet_writes, apply_all, all_writes}
use Rattle.meaning.specs.Pair.{target_cell, location_cell, memory_of, pair_fine, pair_kept, Begins, Longest}
use Rattle.meaning.specs.Positions.{writes_of}
use Rattle.meaning.specs.Answers.{Answer, answer}
use Rattle.meaning.specs.Reader.{unless, batch_answer, paired_answer, read_answer}
use Rattle.meaning.proofs.Reading.{batch_permitted, batch_length}
use Rattle.meaning.proofs.Places.{Started, refusal_stops}
use Rattle.meaning.proofs.Samples.{samples_of}
use Rattle.meaning.proofs.Writing.{parameter_named, parameter_data, all_writes_append}
use Rattle.meaning.proofs.States.{Formed, formed_iff, last_holds}
use Rattle.meaning.proofs.Exactly.{read_batch}
use Rattle.meaning.proofs.Round.{packets_low}
use Rattle.meaning.proofs.Fitter.{granted_iff, inside_rules}
use Rattle.meaning.proofs.Pairs.{Low, pair_iff, fine_kept}
use Rattle.pairing.proofs.Entry.{memory_marked}
use Rattle.pairing.proofs.Kept.{each_fine}

-- a value for cell 1 whose address is granted in a memory that cell 2 can name
record Mend (g : Terms) : Type 0 where
  value : ℕ
  memory : ℕ
  narrow : value < 2 ^ 24
  named : memory ≤ 1
  somewhere : T (granted g.grants Either 1 (value * 256))
  there : T (granted g.grants (Only memory) 1 (value * 256))

-- D3 "a granted address that its registers can hold": of the target
mend_of : (g : Terms) → T (every grant_fine g.grants) → HoldableTarget g → Mend g
mend_of g fine h =
    let v = h.address / 256 in
    let e : h.address ≡ v * 256 = omega (arith, h.multiple) in
    let t : T (granted g.grants Either 1 (v * 256)) = subst (λ (a : ℕ). T (granted g.grants Either 1 a)) e h.allows in
    let i = (granted_iff g.grants Either 1 (v * 256)).0 t in
    let a = i.admits in
    let m = i.grant.memory in
    record {
      value = v;
      memory = m;
      narrow = omega (arith, h.small);
      named = (inside_rules g.grants fine i).memory;
      somewhere = t;
      there = (granted_iff g.grants (Only m) 1 (v * 256)).1
          (record { grant = i.grant; listed = i.listed; admits = record { lies = refl; role_is = a.role_is; from = a.from; to = a.to } });
    }

-- ---- the packet

abbrev word50 : ℕ → ℕ
word50 v = 0x50 * 2 ^ 24 + v

abbrev word51 : ℕ → ℕ
word51 m = 0x51 * 2 ^ 24 + m * 2 ^ 20

abbrev mending : ℕ → ℕ → List ℕ
mending v m = 0x0003043C ∷ 0x00010000 ∷ word50 v ∷ word51 m ∷ []

abbrev written50 : ℕ → Write
written50 v = record { cell = target_cell; value = v }

abbrev written51 : ℕ → Write
written51 m = record { cell = location_cell; value = m * 2 ^ 20 }

found_50 : find_3d 0x01 0x00 (record { 0 = 0x50 }) ≡ Some target_cell
unfolding find_3d find_among find sections target_group stage sample overlay scaler from
found_50 = refl

found_51 : find_3d 0x01 0x00 (record { 0 = 0x51 }) ≡ Some location_cell
unfolding find_3d find_among find sections target_group stage sample overlay scaler from
found_51 = refl

fits_50 : (g : Terms) (v : ℕ) → T (granted g.grants Either 1 (v * 256)) → Fits g (register_at target_cell) v
unfolding register_at register_in register_among sections target_group stage sample overlay scaler from
fits_50 g v t = record { clear = and_comm v 0 ∙ and_zero_l v; value = tt; granted = t }

fits_51 : (g : Terms) (m : ℕ) → m ≤ 1 → Fits g (register_at location_cell) (m * 2 ^ 20)
unfolding register_at register_in register_among sections target_group stage sample overlay scaler from location
fits_51 g zero l = record { clear = refl; value = tt; granted = tt }
fits_51 g (suc zero) l = record { clear = refl; value = tt; granted = tt }
fits_51 g (suc (suc m)) l = absurd (omega arith)

module _ (g : Terms) (M : Mend g) where
  abbrev v : ℕ
  v = M.value

  abbrev m : ℕ
  m = M.memory

  small : m * 2 ^ 20 < 2 ^ 24
  small = omega (arith, M.named)

  named_50 : named 0x00010000 (word50 v) ≡ Some target_cell
  named_50 = parameter_named 0x01 0x00 (lit< tt) (lit< tt) (record { 0 = 0x50 }) v (lit< tt) M.narrow ∙ found_50

  named_51 : named 0x00010000 (word51 m) ≡ Some location_cell
  named_51 = parameter_named 0x01 0x00 (lit< tt) (lit< tt) (record { 0 = 0x51 }) (m * 2 ^ 20) (lit< tt) small ∙ found_51

  mending_permitted : Packet g (mending v m)
  unfolding offset count allowed allowed_types type_allowed para_adr para_os para_type para_sub_type some
  mending_permitted =
      let c : Packet3D g 0x0003043C 0x00010000 (word50 v ∷ word51 m ∷ []) = record {
        bound = refl;
        low = lit< tt;
        high = lit< tt;
        whole = refl;
        setting = tt;
        parameters = (
          rw (named_50, parameter_data 0x50 v M.narrow) (fits_50 g v M.somewhere),
          (rw (named_51, parameter_data 0x51 (m * 2 ^ 20) small) (fits_51 g m M.named), tt),
        );
      } in
      packet_3d c

  mending_writes : all_writes (mending v m ∷ []) ≡ written50 v ∷ written51 m ∷ []
  unfolding all_writes packet_writes writes_3d offset
  mending_writes = rw (named_50, parameter_data 0x50 v M.narrow, named_51, parameter_data 0x51 (m * 2 ^ 20) small)

  mending_words : All Word (mending v m)
  mending_words = (lit< tt, (lit< tt, (omega (arith, M.narrow), (omega (arith, small), tt))))

  -- ---- after it the pair is fine

  mended_fine : (st : List ℕ) → Formed st → (before : List Write) → Low before → T (pair_fine g (apply_all st (before ++ written50 v ∷ written51 m ∷ [])))
  mended_fine st f before low =
      let left = apply_all st (before ++ written50 v ∷ written51 m ∷ []) in
      let one : 1 < cells = lit< tt in
      let two : 2 < cells = lit< tt in
      let first = last_holds st f before (written50 v) (written51 m ∷ [])
      (all_append (λ (w : Write). w.cell.0 < cells) before _ low (one, (two, tt))) (λ e. omega arith, tt) in
      let second = last_holds st f (before ++ written50 v ∷ []) (written51 m) []
      (all_append (λ (w : Write). w.cell.0 < cells) (before ++ written50 v ∷ []) _
      (all_append (λ (w : Write). w.cell.0 < cells) before _ low (one, tt)) (two, tt)) tt in
      let same : (before ++ written50 v ∷ []) ++ written51 m ∷ [] ≡ before ++ written50 v ∷ written51 m ∷ [] = append_assoc before _ _ in
      let held : (value_at left location_cell ≡ m * 2 ^ 20) × (mark_at left location_cell ≡ 1) = rw same at second in
      let names : memory_of left ≡ m = memory_marked left (omega (arith, held.1)) ∙ ap (bits 21 20) held.0 ∙ omega (arith, M.named) in
      (pair_iff g left).1 (λ k. rw (names, first.0) M.there)

  -- ---- the completion

  begins_of : (st : List ℕ) → Formed st → {ws : List ℕ} → Started g ws → Begins g st ws
  begins_of st f {ws} s =
      let ps = s.cut.packets in
      let joined : join (ps ++ mending v m ∷ []) ≡ ws ++ (s.more ++ mending v m) =
      join_append ps (mending v m ∷ []) ∙ ap (λ (l : List ℕ). l ++ mending v m) s.cut.joined ∙ append_assoc ws s.more (mending v m) in
      let low : Low (all_writes ps) = packets_low g ps s.cut.permitted in
      let wrote : all_writes (ps ++ mending v m ∷ []) ≡ all_writes ps ++ written50 v ∷ written51 m ∷ [] =
      all_writes_append ps (mending v m ∷ []) ∙ ap (λ (l : List Write). all_writes ps ++ l) mending_writes in
      record {
        more = s.more ++ mending v m;
        words = all_append Word s.more (mending v m) s.words mending_words;
        permitted = record {
          cut = record { packets = ps ++ mending v m ∷ []; joined = joined; permitted = all_append (Packet g) ps _ s.cut.permitted (mending_permitted, tt) };
          pair = fine_kept g st _ (rw wrote (mended_fine st f (all_writes ps) low));
        };
      }

-- and back
started_of : {g : Terms} {st ws : List ℕ} → Begins g st ws → Started g ws
started_of b = record { more = b.more; words = b.words; cut = b.permitted.cut }

-- whole packets start with themselves
started_whole : (g : Terms) (ws : List ℕ) → Cut g ws → Started g (take (length ws) ws)
started_whole g ws c = record { more = []; words = tt; cut = subst (Cut g) (sym (append-nil (take (length ws) ws) ∙ take-length ws)) c }

-- ---- the place

module _ (batch grants st : List ℕ) (s : T (well_formed st)) (l : T (grants_fine grants)) where
  abbrev terms : Terms
  terms = terms_of grants

  abbrev words : Answer
  words = batch_answer terms batch

  module _ (h1 : HoldableTarget terms) (h2 : HoldableScaler terms 2) (h3 : HoldableScaler terms 3) where
    begun : {ws : List ℕ} → Started terms ws → Begins terms st ws
    begun = begins_of terms (mend_of terms (each_fine grants l) h1) st ((formed_iff st).0 s)

    -- by whether a word is refused or the pair is not kept
    longest_by : (b c : Bool) → eqb words.reason 0 ≡ c → Longest terms st batch (cond c (answer (unless b 14 0) words.place) words).place
    longest_by b true e =
        let z = eqb-true words.reason 0 e in
        rw (batch_length terms batch z)
        (record { within = omega arith; begins = begun (started_whole terms batch ((batch_permitted terms batch).0 z)); longest = λ k m d. m })
    longest_by b false e =
        let stops = refusal_stops terms (samples_of terms h2 h3) batch (eqb-false words.reason 0 e) in
        record { within = stops.within; begins = begun stops.started; longest = λ n m d. stops.longest n m (started_of d) }

    -- D3 "a refusal's place is the length of the longest beginning of the batch that some permitted batch begins with"
    pub refusal_longest : (read_answer batch grants st).reason ≢ 0 → Longest terms st batch (read_answer batch grants st).place
    unfolding paired_answer
    refusal_longest z = rw (read_batch batch grants st s l) (longest_by (pair_kept terms st (writes_of batch)) (eqb words.reason 0) refl)
