-- The writes of one state's marked cells, over another; and a write of what a cell may hold keeps a state sound.
-- Assumes nothing.
use mathlib.Core.Path.{◌≡◌, refl, sym, subst, ◌∙◌}
use mathlib.Core.List.{List, [], ◌∷◌, ◌++◌}
use mathlib.Core.Logic.{◌↔◌, ◌≢◌}
use Prim.Native.Nat.{ℕ, zero, suc, ◌+◌, ◌-◌, ◌≤◌, ◌<◌}
use native.Mathlib.Omega.{arith}
use native.Mathlib.Decide.{ℕ_discrete, dec_lt}
use lib.Dec.{T, leb, eqb}
use lib.ListN.{length, get_or, set, length-set, length-replicate, get_or-replicate}
use lib.Seq.{get_or-set_same, get_or-set_other, ext_get_or}
use mir.Facts.{and_yes, yes_and, leb_yes, yes_leb, eqb_yes, yes_eqb}
use Rattle.laws.specs.Lists.{All}
use Rattle.laws.proofs.Lists.{every_from, from_every, all_split, all_map, all_both}
use Rattle.laws.proofs.Tests.{implies_iff}
use Rattle.meaning.specs.declared.Cell.{Cell}
use Rattle.meaning.specs.Registers.{cells, cell}
use Rattle.meaning.specs.Grants.{Terms}
use Rattle.meaning.specs.State.{state_words, value_at, mark_at, cell_formed, well_formed, empty, Write, apply, apply_all, is_mark, marked}
use Rattle.meaning.specs.Writer.{if_so}
use Rattle.meaning.specs.Reasons.{MayHold}
use Rattle.meaning.proofs.Writing.{chosen_from, AllFine}

-- ---- well-formed, as facts

pub record Formed (st : List ℕ) : Type 0 where
  pub size : length st ≡ state_words
  pub mark : (c : ℕ) → c < cells → mark_at st (cell c) ≤ 1
  pub clear : (c : ℕ) → c < cells → mark_at st (cell c) ≡ 0 → value_at st (cell c) ≡ 0

cell_formed_iff : (st : List ℕ) (c : Cell) → T (cell_formed st c) ↔ ((mark_at st c ≤ 1) × (mark_at st c ≡ 0 → value_at st c ≡ 0))
unfolding cell_formed
cell_formed_iff st c =
    let unmarked = implies_iff (eqb (mark_at st c) 0) (eqb (value_at st c) 0) in (
      λ t. let p = and_yes (leb (mark_at st c) 1) _ t in (leb_yes p.0, λ z. eqb_yes (unmarked.0 p.1 (yes_eqb z))),
      λ p. yes_and (leb (mark_at st c) 1) _ (yes_leb p.0) (unmarked.1 (λ z. yes_eqb (p.1 (eqb_yes z)))),
    )

pub formed_iff : (st : List ℕ) → T (well_formed st) ↔ Formed st
unfolding well_formed
formed_iff st = (
  λ t.
      let p = and_yes (eqb (length st) state_words) _ t in
      let each = every_from (λ (n : ℕ). cell_formed st (cell n)) 0 cells p.1 in
      record {
        size = eqb_yes p.0;
        mark = λ c l. ((cell_formed_iff st (cell c)).0 (each c (omega arith) l)).0;
        clear = λ c l. ((cell_formed_iff st (cell c)).0 (each c (omega arith) l)).1;
      },
  λ f. yes_and (eqb (length st) state_words) _ (yes_eqb f.size)
      (from_every (λ (n : ℕ). cell_formed st (cell n)) 0 cells (λ c l k. (cell_formed_iff st (cell c)).1 (f.mark c k, f.clear c k))),
)

-- ---- one write

module _ (st : List ℕ) (n : length st ≡ state_words) (c v : ℕ) (l : c < cells) where
  abbrev next : List ℕ
  next = set (set st c v) (cells + c) 1

  next_length : length next ≡ state_words
  next_length = length-set (set st c v) (cells + c) 1 ∙ length-set st c v ∙ n

  value_same : value_at next (cell c) ≡ v
  value_same = get_or-set_other (set st c v) (cells + c) c 1 0 (λ e. omega arith) ∙ get_or-set_same st c v 0 (omega arith)

  pub mark_same : mark_at next (cell c) ≡ 1
  mark_same = get_or-set_same (set st c v) (cells + c) 1 0 (omega (arith, length-set st c v))

  value_other : (d : ℕ) → d < cells → d ≢ c → value_at next (cell d) ≡ value_at st (cell d)
  value_other d k e = get_or-set_other (set st c v) (cells + c) d 1 0 (λ f. omega arith) ∙ get_or-set_other st c d v 0 e

  pub mark_other : (d : ℕ) → d ≢ c → mark_at next (cell d) ≡ mark_at st (cell d)
  mark_other d e = get_or-set_other (set st c v) (cells + c) (cells + d) 1 0 (λ f. e (omega arith)) ∙ get_or-set_other st c (cells + d) v 0 (λ f. omega arith)

-- ---- the marked cells of one state, written over another

-- cur is b laid over a below cell i, and a from there on
pub record Upto (a b cur : List ℕ) (i : ℕ) : Type 0 where
  pub size : length cur ≡ state_words
  pub done : (c : ℕ) → c < i → c < cells → 0 < mark_at b (cell c) → (value_at cur (cell c) ≡ value_at b (cell c)) × (mark_at cur (cell c) ≡ mark_at b (cell c))
  pub else : (c : ℕ) → c < cells → (c < i → ¬ 0 < mark_at b (cell c)) → (value_at cur (cell c) ≡ value_at a (cell c)) × (mark_at cur (cell c) ≡ mark_at a (cell c))

upto_skip : (a b cur : List ℕ) (i : ℕ) → mark_at b (cell i) ≡ 0 → Upto a b cur i → Upto a b cur (suc i)
upto_skip a b cur i z u =
    record {
      size = u.size;
      done = λ c k l m. elim (ℕ_discrete c i) [ yes e ↦ absurd (omega (arith, rw e at m)) | no e ↦ u.done c (omega arith) l m ];
      else = λ c l h. u.else c l (λ k. h (omega arith));
    }

upto_write : (a b cur : List ℕ) (i : ℕ) → i < cells → mark_at b (cell i) ≡ 1 → Upto a b cur i
    → Upto a b (set (set cur i (value_at b (cell i))) (cells + i) 1) (suc i)
upto_write a b cur i l z u =
    let n = u.size in
    let v = value_at b (cell i) in
    record {
      size = next_length cur n i v l;
      done = λ c k m q. elim (ℕ_discrete c i) [
        | yes e ↦ rw e (value_same cur n i v l, mark_same cur n i v l ∙ sym z)
        | no e ↦ let d = u.done c (omega arith) m q in (value_other cur n i v l c m e ∙ d.0, mark_other cur n i v l c e ∙ d.1)
      ];
      else = λ c m h.
          let e : c ≢ i = λ f. h (omega arith) (rw f (omega arith)) in
          let d = u.else c m (λ k. h (omega arith)) in
          (value_other cur n i v l c m e ∙ d.0, mark_other cur n i v l c e ∙ d.1);
    }

-- cell i by its mark m, and then the others
upto_one : (a b cur : List ℕ) (i : ℕ) (ws : List Write) (m : ℕ) → Formed b → i < cells → mark_at b (cell i) ≡ m → Upto a b cur i
    → ((now : List ℕ) → Upto a b now (suc i) → Upto a b (apply_all now ws) cells)
    → Upto a b (apply_all cur (if_so (is_mark m) (record { cell = cell i; value = value_at b (cell i) }) ws)) cells
unfolding apply_all apply
upto_one a b cur i ws zero f l e u more = more cur (upto_skip a b cur i e u)
upto_one a b cur i ws (suc m) f l e u more = more _ (upto_write a b cur i l (omega (arith, f.mark i l)) u)

upto_all : (a b cur : List ℕ) (i n : ℕ) → Formed b → i + n ≡ cells → Upto a b cur i → Upto a b (apply_all cur (chosen_from (marked b) b i n)) cells
unfolding apply_all chosen_from
upto_all a b cur i zero f e u = subst (Upto a b cur) (omega arith) u
upto_all a b cur i (suc n) f e u =
    upto_one a b cur i (chosen_from (marked b) b (suc i) n) (mark_at b (cell i)) f (omega arith) refl u (λ now q. upto_all a b now (suc i) n f (omega arith) q)

-- the writes of b's marked cells leave b where it is marked, and a elsewhere
pub laid_over : (a b : List ℕ) → length a ≡ state_words → Formed b → Upto a b (apply_all a (chosen_from (marked b) b 0 cells)) cells
laid_over a b n f = upto_all a b a 0 cells f refl (record { size = n; done = λ c k l m. absurd (omega arith); else = λ c l h. (refl, refl) })

-- a cell of no mark
pub unmarked : (m : ℕ) → ¬ 0 < m → m ≡ 0
unmarked zero h = refl
unmarked (suc m) h = absurd (h (omega arith))

-- a state is its values and marks
pub same_cells : (x y : List ℕ) → length x ≡ state_words → length y ≡ state_words
    → ((c : ℕ) → c < cells → (value_at x (cell c) ≡ value_at y (cell c)) × (mark_at x (cell c) ≡ mark_at y (cell c))) → x ≡ y
same_cells x y n m h =
    ext_get_or 0 x y (n ∙ sym m)
    (λ j k. elim (dec_lt j cells) [
      | yes l ↦ (h j l).0
      | no q ↦
          let e : cells + (j - cells) ≡ j = omega arith in
          let l : j - cells < cells = omega (arith, n) in
          subst (λ (i : ℕ). get_or x i 0 ≡ get_or y i 0) e (h (j - cells) l).1
    ])

-- over a state that marks no cell but those of b, they leave b itself
pub laid_exactly : (a b : List ℕ) → Formed a → Formed b → ((c : ℕ) → c < cells → 0 < mark_at a (cell c) → 0 < mark_at b (cell c))
    → apply_all a (chosen_from (marked b) b 0 cells) ≡ b
laid_exactly a b fa fb h =
    let over = laid_over a b fa.size fb in
    same_cells (apply_all a (chosen_from (marked b) b 0 cells)) b over.size fb.size
    (λ c l. elim (dec_lt 0 (mark_at b (cell c))) [
      | yes k ↦ over.done c l l k
      | no k ↦
          let was = over.else c l (λ i. k) in
          let z = unmarked (mark_at a (cell c)) (λ m. k (h c l m)) in
          let y = unmarked (mark_at b (cell c)) k in
          (was.0 ∙ fa.clear c l z ∙ sym (fb.clear c l y), was.1 ∙ z ∙ sym y)
    ])

empty_at : (i : ℕ) → i < state_words → get_or empty i 0 ≡ 0
unfolding empty
empty_at i l = get_or-replicate state_words i 0 0 l

empty_length : length empty ≡ state_words
unfolding empty
empty_length = length-replicate {A = ℕ} state_words 0

-- the empty state, as facts
empty_formed : Formed empty
empty_formed =
    record {
      size = empty_length;
      mark = λ c l. omega (arith, empty_at (cells + c) (omega arith));
      clear = λ c l z. empty_at c (omega arith);
    }

-- the writes of the marked cells rebuild the state
pub rebuilt : (st : List ℕ) → Formed st → apply_all empty (chosen_from (marked st) st 0 cells) ≡ st
rebuilt st f = laid_exactly empty st empty_formed f (λ c l m. absurd (omega (arith, empty_at (cells + c) (omega arith))))

-- ---- every reached state

pub record Sound (g : Terms) (st : List ℕ) : Type 0 where
  pub formed : Formed st
  pub fine : AllFine g st

pub record FineWrite (g : Terms) (w : Write) : Type 0 where
  pub low : w.cell.0 < cells
  pub fine : MayHold g w.cell w.value

formed_write : (st : List ℕ) (w : Write) → w.cell.0 < cells → Formed st → Formed (apply st w)
unfolding apply
formed_write st w l f =
    let n = f.size in
    let c = w.cell.0 in
    let v = w.value in
    record {
      size = next_length st n c v l;
      mark = λ d k. elim (ℕ_discrete d c) [
        | yes e ↦ rw e (omega (arith, mark_same st n c v l))
        | no e ↦ omega (arith, mark_other st n c v l d e, f.mark d k)
      ];
      clear = λ d k z. elim (ℕ_discrete d c) [
        | yes e ↦ absurd (omega (arith, mark_same st n c v l, rw e at z))
        | no e ↦ value_other st n c v l d k e ∙ f.clear d k (sym (mark_other st n c v l d e) ∙ z)
      ];
    }

pub formed_writes : (st : List ℕ) (ws : List Write) → All (λ w. w.cell.0 < cells) ws → Formed st → Formed (apply_all st ws)
unfolding apply_all
formed_writes st [] a f = f
formed_writes st (w ∷ ws) a f = formed_writes (apply st w) ws a.1 (formed_write st w a.0 f)

-- as many words as before
pub length_applied : (st : List ℕ) (ws : List Write) → length (apply_all st ws) ≡ length st
unfolding apply_all apply
length_applied st [] = refl
length_applied st (w ∷ ws) = length_applied (apply st w) ws ∙ length-set (set st w.cell.0 w.value) (cells + w.cell.0) 1 ∙ length-set st w.cell.0 w.value

-- P of the number and the value of each marked cell
abbrev pub Each : (ℕ → ℕ → Type 0) → List ℕ → Type 0
Each P st = (c : ℕ) → c < cells → 0 < mark_at st (cell c) → P c (value_at st (cell c))

each_after : (P : ℕ → ℕ → Type 0) (st : List ℕ) (w : Write) → w.cell.0 < cells → P w.cell.0 w.value → length st ≡ state_words → Each P st → Each P (apply st w)
unfolding apply
each_after P st w l p n h d k m =
    let c = w.cell.0 in
    let v = w.value in
    elim (ℕ_discrete d c) [
      | yes e ↦ rw (e, value_same st n c v l) p
      | no e ↦ rw (value_other st n c v l d k e) (h d k (omega (arith, mark_other st n c v l d e)))
    ]

-- what every marked cell has, and every write, the marked cells have after the writes
pub each_after_all : (P : ℕ → ℕ → Type 0) (st : List ℕ) (ws : List Write) → All (λ w. w.cell.0 < cells) ws → All (λ w. P w.cell.0 w.value) ws → length st ≡ state_words
    → Each P st → Each P (apply_all st ws)
unfolding apply_all
each_after_all P st [] a b n h = h
each_after_all P st (w ∷ ws) a b n h =
    each_after_all P (apply st w) ws a.1 b.1 (length_applied st (w ∷ []) ∙ n) (each_after P st w a.0 b.0 n h)

pub sound_writes : (g : Terms) (st : List ℕ) (ws : List Write) → All (FineWrite g) ws → Sound g st → Sound g (apply_all st ws)
sound_writes g st ws a s =
    let low = all_map (FineWrite g) (λ (w : Write). w.cell.0 < cells) (λ w f. f.low) ws a in
    let fine = all_map (FineWrite g) (λ (w : Write). MayHold g (cell w.cell.0) w.value) (λ w f. f.fine) ws a in
    record {
      formed = formed_writes st ws low s.formed;
      fine = each_after_all (λ (c v : ℕ). MayHold g (cell c) v) st ws low fine s.formed.size s.fine;
    }

pub empty_sound : (g : Terms) → Sound g empty
empty_sound g = record { formed = empty_formed; fine = λ c l m. absurd (omega (arith, empty_at (cells + c) (omega arith))) }

-- ---- what writes leave alone, and what they leave

pub untouched : (i : ℕ) (st : List ℕ) (ws : List Write) → All (λ w. (i ≢ w.cell.0) × (i ≢ cells + w.cell.0)) ws
    → get_or (apply_all st ws) i 0 ≡ get_or st i 0
unfolding apply_all apply
untouched i st [] a = refl
untouched i st (w ∷ ws) a =
    untouched i (apply st w) ws a.1
    ∙ get_or-set_other (set st w.cell.0 w.value) (cells + w.cell.0) i 1 0 a.0.1
    ∙ get_or-set_other st w.cell.0 i w.value 0 a.0.0

pub applied_append : (st : List ℕ) (xs ys : List Write) → apply_all st (xs ++ ys) ≡ apply_all (apply_all st xs) ys
unfolding apply_all
applied_append st [] ys = refl
applied_append st (x ∷ xs) ys = applied_append (apply st x) xs ys

pub empty_well_formed : T (well_formed empty)
empty_well_formed = (formed_iff empty).1 empty_formed

-- the last write to a cell
pub last_holds : (st : List ℕ) → Formed st → (before : List Write) (w : Write) (later : List Write)
    → All (λ x. x.cell.0 < cells) (before ++ w ∷ later) → All (λ x. x.cell.0 ≢ w.cell.0) later
    → (value_at (apply_all st (before ++ w ∷ later)) w.cell ≡ w.value) × (mark_at (apply_all st (before ++ w ∷ later)) w.cell ≡ 1)
unfolding apply_all apply
last_holds st f before w later cs other =
    let parts = all_split (λ (x : Write). x.cell.0 < cells) before (w ∷ later) cs in
    let c = w.cell.0 in
    let l : c < cells = parts.1.0 in
    let n : length (apply_all st before) ≡ state_words = (formed_writes st before parts.0 f).size in
    let now = apply (apply_all st before) w in
    let low = all_both (λ (x : Write). x.cell.0 < cells) (λ (x : Write). x.cell.0 ≢ c) (λ (x : Write). (c ≢ x.cell.0) × (c ≢ cells + x.cell.0))
    (λ x k ne. (λ e. ne (sym e), λ e. omega arith)) later parts.1.1 other in
    let high = all_both (λ (x : Write). x.cell.0 < cells) (λ (x : Write). x.cell.0 ≢ c)
    (λ (x : Write). (cells + c ≢ x.cell.0) × (cells + c ≢ cells + x.cell.0)) (λ x k ne. (λ e. omega arith, λ e. ne (omega arith))) later parts.1.1 other in
    rw (applied_append st before (w ∷ later)) (
      untouched c now later low ∙ value_same (apply_all st before) n c w.value l,
      untouched (cells + c) now later high ∙ mark_same (apply_all st before) n c w.value l,
    )
