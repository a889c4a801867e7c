-- The states that some permitted batch reaches from the empty one are those that the writer takes.
-- Assumes nothing.
use Rattle.std.specs.Prelude.{Option, Some, None}
use mathlib.Core.Path.{◌≡◌, refl, ap, ◌∙◌}
use mathlib.Core.Bool.{Bool, true, false, ◌&&◌, cond}
use mathlib.Core.List.{List}
use mathlib.Core.Logic.{◌↔◌}
use Prim.Native.Nat.{ℕ, zero, suc, ◌+◌, ◌≤◌, ◌<◌, ◌^◌}
use native.Mathlib.Omega.{arith}
use native.Mathlib.Decide.{ℕ_discrete}
use borrow.Author.Tests.{eqb-true}
use lib.Dec.{T, eqb, ltb}
use mir.Facts.{and_yes, yes_and, ltb_yes, yes_ltb, eqb_yes, yes_eqb}
use Rattle.laws.specs.Lists.{All, join}
use Rattle.laws.proofs.Lists.{all_unit}
use Rattle.laws.proofs.Tests.{implies_iff}
use Rattle.meaning.specs.Answers.{Answer}
use Rattle.meaning.specs.declared.Cell.{Cell}
use Rattle.meaning.specs.Words.{Word}
use Rattle.meaning.specs.Registers.{cells, cell, register_at}
use Rattle.meaning.specs.Grants.{Terms, terms_of}
use Rattle.meaning.specs.Batch.{Packet, Cut}
use Rattle.meaning.specs.State.{value_at, mark_at, well_formed, empty, Write, apply_all, all_writes}
use Rattle.meaning.specs.Pair.{pair_fine, Takes, Reached}
use Rattle.meaning.specs.Positions.{writes_of}
use Rattle.meaning.specs.Reader.{value_reason, read_answer, read_leaves}
use Rattle.meaning.specs.Writer.{words_for, packets_of, written, writable, lowest_bad}
use Rattle.meaning.specs.Reasons.{CellFine, Writable}
use Rattle.meaning.proofs.Verdicts.{fits_fine}
use Rattle.meaning.proofs.Bytes.{settle_done}
use Rattle.meaning.proofs.EachWrite.{each_write}
use Rattle.meaning.proofs.Writes.{writes_of_cut}
use Rattle.meaning.proofs.Exactly.{read_told, accepted_parts, accepted_cut}
use Rattle.meaning.proofs.Writing.{written_permitted, written_words, written_writes}
use Rattle.meaning.proofs.States.{Formed, formed_iff, Sound, FineWrite, sound_writes, formed_writes, empty_sound, rebuilt}
use Rattle.meaning.proofs.Pairs.{fine_kept, kept_fine, empty_unmarked}

-- ---- there and back

-- permitted packets write what cells may hold
pub packets_fine : (g : Terms) (ps : List (List ℕ)) → All (Packet g) ps → All Word (join ps) → All (FineWrite g) (all_writes ps)
packets_fine g =
    each_write g (FineWrite g) Word
    (λ c v l n s. record { low = l.0; fine = record { narrow = rw l.1 n; fits = s } })
    (λ c v l n s. record { low = l.0; fine = record { narrow = rw l.1 n; fits = s } })

pub packets_low : (g : Terms) (ps : List (List ℕ)) → All (Packet g) ps → All (λ w. w.cell.0 < cells) (all_writes ps)
packets_low g ps a = each_write g (λ (w : Write). w.cell.0 < cells) (λ (w : ℕ). Unit {0}) (λ c v l n s. l.0) (λ c v l n s. l.0) ps a (all_unit (join ps))

pub reached_sound : (g : Terms) (st : List ℕ) → Reached g st → Sound g st
reached_sound g st r =
    let t = r.takes in
    let c = t.permitted.cut in
    let ps = c.packets in
    let w : All Word (join ps) = rw c.joined t.words in
    rw t.leaves at (sound_writes g empty (all_writes ps) (packets_fine g ps c.permitted w) (empty_sound g))

-- a batch that wrote neither cell of the pair left the target unmarked
pub reached_pair : (g : Terms) (st : List ℕ) → Reached g st → T (pair_fine g st)
reached_pair g st r =
    let t = r.takes in
    let c = t.permitted.cut in
    rw t.leaves at (kept_fine g empty (all_writes c.packets) (packets_low g c.packets c.permitted) empty_unmarked t.permitted.pair)

pub sound_takes : (g : Terms) (st : List ℕ) → Sound g st → T (pair_fine g st) → Takes g (written st) st
unfolding written words_for packets_of
sound_takes g st s p =
    let leaves : apply_all empty (all_writes (packets_of st)) ≡ st = ap (apply_all empty) (written_writes g st s.fine) ∙ rebuilt st s.formed in
    record {
      words = written_words g st s.fine;
      permitted = record {
        cut = record { packets = packets_of st; joined = refl; permitted = written_permitted g st s.fine };
        pair = fine_kept g empty (all_writes (packets_of st)) (rw leaves p);
      };
      leaves = leaves;
    }

-- the states that some batch reaches from empty: well-formed, and each marked cell holds what it may
pub reached_iff : (g : Terms) (st : List ℕ) → Reached g st ↔ (T (well_formed st) × ((c : ℕ) → c < cells → Writable g st (cell c)))
reached_iff g st = (
  λ r. let s = reached_sound g st r in ((formed_iff st).1 s.formed, λ c l. record { value = s.fine c l; pair = λ e. reached_pair g st r }),
  λ p. record {
    batch = written st;
    takes = sound_takes g st (record { formed = (formed_iff st).0 p.0; fine = λ c l. (p.1 c l).value }) ((p.1 1 (omega arith)).pair refl);
  },
)

-- ---- what the reader leaves

-- of an accepted batch, by any cut of it
pub left_by_lem : (batch grants st : List ℕ) → (read_answer batch grants st).reason ≡ 0 → (c : Cut (terms_of grants) batch)
    → read_leaves batch grants st ≡ apply_all st (all_writes c.packets)
unfolding read_leaves
left_by_lem batch grants st e c = settle_done (read_answer batch grants st) _ st e ∙ ap (apply_all st) (writes_of_cut (terms_of grants) batch c)

left_formed : (batch st : List ℕ) (g : Terms) (a : Answer) → (a.reason ≡ 0 → Cut g batch) → (b : Bool) → eqb a.reason 0 ≡ b → Formed st
    → Formed (cond b (apply_all st (writes_of batch)) st)
left_formed batch st g a cut true e f =
    let c = cut (eqb-true a.reason 0 e) in
    rw (writes_of_cut g batch c) (formed_writes st (all_writes c.packets) (packets_low g c.packets c.permitted) f)
left_formed batch st g a cut false e f = f

pub accepted_formed : (batch grants st : List ℕ) → (read_answer batch grants st).reason ≡ 0 → Formed st
accepted_formed batch grants st e = (formed_iff st).0 (accepted_parts batch grants st (read_told batch grants st) e).0

pub leaves_formed : (batch grants st : List ℕ) → Formed st → Formed (read_leaves batch grants st)
unfolding read_leaves
leaves_formed batch grants st f =
    left_formed batch st (terms_of grants) (read_answer batch grants st) (accepted_cut batch grants st) (eqb (read_answer batch grants st).reason 0) refl f

-- ---- the lowest cell that the writer refuses

pub writable_iff : (g : Terms) (st : List ℕ) (c : Cell) → T (writable g st c) ↔ CellFine g st c
unfolding writable
writable_iff g st c =
    let v = value_at st c in
    let fits = fits_fine g (register_at c) v in
    let imp = implies_iff (ltb 0 (mark_at st c)) (ltb v (2 ^ (register_at c).width) && eqb (value_reason g (register_at c) v) 0) in (
      λ t m. let p = and_yes (ltb v (2 ^ (register_at c).width)) _ (imp.0 t (yes_ltb m)) in record { narrow = ltb_yes p.0; fits = fits.1 (eqb_yes p.1) },
      λ f. imp.1 (λ m. let h = f (ltb_yes m) in yes_and (ltb v (2 ^ (register_at c).width)) _ (yes_ltb h.narrow) (yes_eqb (fits.0 h.fits))),
    )

-- what the search among n cells from i on tells
pub record LowestIs (g : Terms) (st : List ℕ) (i n c : ℕ) : Type 0 where
  pub from : i ≤ c
  pub to : c < i + n
  pub bad : ¬ CellFine g st (cell c)
  pub before : (d : ℕ) → i ≤ d → d < c → CellFine g st (cell d)

abbrev pub Lowest : Terms → List ℕ → ℕ → ℕ → Option Cell → Type 0
Lowest g st i n (Some c) = LowestIs g st i n c.0
Lowest g st i n None = (c : ℕ) → i ≤ c → c < i + n → CellFine g st (cell c)

lowest_here : (g : Terms) (st : List ℕ) (i n : ℕ) (b : Bool) (more : Option Cell) → writable g st (cell i) ≡ b → Lowest g st (suc i) n more
    → Lowest g st i (suc n) (cond b more (Some (cell i)))
lowest_here g st i n false more e h =
    record { from = omega arith; to = omega arith; bad = λ f. rw e at ((writable_iff g st (cell i)).1 f); before = λ d l k. absurd (omega arith) }
lowest_here g st i n true (Some c) e h =
    record {
      from = omega (arith, h.from);
      to = omega (arith, h.to);
      bad = h.bad;
      before = λ d l k. elim (ℕ_discrete d i) [ yes z ↦ rw z ((writable_iff g st (cell i)).0 (rw e tt)) | no z ↦ h.before d (omega arith) k ];
    }
lowest_here g st i n true None e h =
    λ c l k. elim (ℕ_discrete c i) [ yes z ↦ rw z ((writable_iff g st (cell i)).0 (rw e tt)) | no z ↦ h c (omega arith) (omega arith) ]

pub lowest_told : (g : Terms) (st : List ℕ) (i n : ℕ) → Lowest g st i n (lowest_bad g st i n)
unfolding lowest_bad
lowest_told g st i zero = λ c l k. absurd (omega arith)
lowest_told g st i (suc n) = lowest_here g st i n (writable g st (cell i)) (lowest_bad g st (suc i) n) refl (lowest_told g st (suc i) n)
