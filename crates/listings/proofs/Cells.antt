-- The texts of k lines and the states that have them.
-- Assumes nothing.
use mathlib.Core.Path.{◌≡◌, refl, sym, ap, ◌∙◌}
use mathlib.Core.Bool.{Bool, true, false}
use mathlib.Core.List.{List, [], ◌∷◌, ◌++◌}
use mathlib.Core.Logic.{◌≢◌}
use Prim.Native.Nat.{ℕ, zero, suc, ◌+◌, ◌≤◌, ◌<◌, ◌^◌}
use native.Mathlib.Omega.{arith}
use lib.ListN.{length, set, length-set}
use lib.Seq.{get_or-set_same, get_or-set_other}
use Rattle.laws.specs.Lists.{All, join}
use Rattle.laws.proofs.Lists.{all_map}
use Rattle.meaning.specs.declared.Cell.{Cell}
use Rattle.meaning.specs.Registers.{cells, cell, register_at}
use Rattle.meaning.specs.State.{state_words, value_at, mark_at, marked, Write, apply, apply_all}
use Rattle.meaning.specs.Writer.{if_so}
use Rattle.meaning.proofs.Writing.{chosen_from}
use Rattle.meaning.proofs.States.{untouched}
use Rattle.meaning.specs.ListingReader.{Line, form_of, write_of}
use Rattle.listings.proofs.Tells.{This, this, that}
use Rattle.listings.proofs.Lines.{adds, InLines}
use Rattle.listings.proofs.Texts.{text_of, text_follows, text_writes, OfValue, follows_text}

-- ---- from a state to its lines

abbrev pub write_at : Cell → ℕ → Write
write_at c v = record { cell = c; value = v }

abbrev pub lines_by : List ℕ → List Line → List (List ℕ)
lines_by st [] = []
lines_by st (l ∷ ls) = if_so (marked st l.cell) (text_of l (value_at st l.cell)) (lines_by st ls)

abbrev pub writes_by : List ℕ → List Line → List Write
writes_by st [] = []
writes_by st (l ∷ ls) = if_so (marked st l.cell) (write_at l.cell (value_at st l.cell)) (writes_by st ls)

past_line : (l : Line) (ls : List Line) (k : ℕ) (xs : List ℕ) (ws : List Write) → InLines ls k xs ws → InLines (l ∷ ls) k xs ws
past_line l ls zero xs ws i = i
past_line l ls (suc k) xs ws i = that i

marked_in : (l : Line) (ls : List Line) (b : Bool) (v : ℕ) (ts : List (List ℕ)) (ws : List Write) → v < 16 ^ l.digits → InLines ls (length ts) (join ts) ws
    → InLines (l ∷ ls) (length (if_so b (text_of l v) ts)) (join (if_so b (text_of l v) ts)) (if_so b (write_at l.cell v) ws)
marked_in l ls false v ts ws h i = past_line l ls (length ts) (join ts) ws i
marked_in l ls true v ts ws h i =
    this (record {
      front = text_of l v;
      rest = join ts;
      later = ws;
      follows = text_follows l v;
      texts = i;
      parts = refl;
      all = ap (λ (w : Write). w ∷ ws) (sym (text_writes l v (join ts) h));
    })

pub lines_in_lem : (st : List ℕ) (ls : List Line) → All (λ l. value_at st l.cell < 16 ^ l.digits) ls
    → InLines ls (length (lines_by st ls)) (join (lines_by st ls)) (writes_by st ls)
lines_in_lem st [] a = (refl, refl)
lines_in_lem st (l ∷ ls) a = marked_in l ls (marked st l.cell) (value_at st l.cell) (lines_by st ls) (writes_by st ls) a.0 (lines_in_lem st ls a.1)

-- ---- lines in cell order

pub record LineAt (i : ℕ) (l : Line) : Type 0 where
  pub numbered : l.cell ≡ cell i
  pub wide : 16 ^ l.digits ≡ 2 ^ (register_at (cell i)).width
  pub high : i < cells

abbrev pub Numbered : ℕ → List Line → Type 0
Numbered i [] = Unit {0}
Numbered i (l ∷ ls) = LineAt i l × Numbered (suc i) ls

pub writes_marked : (st : List ℕ) (i : ℕ) (ls : List Line) → Numbered i ls → writes_by st ls ≡ chosen_from (marked st) st i (length ls)
unfolding chosen_from
writes_marked st i [] a = refl
writes_marked st i (l ∷ ls) a = rw (a.0.numbered, writes_marked st (suc i) ls a.1)

-- a write into one of the cells from i on, of a value that fits
pub record Fit (i : ℕ) (w : Write) : Type 0 where
  pub from : i ≤ w.cell.0
  pub high : w.cell.0 < cells
  pub low : w.value < 2 ^ (register_at w.cell).width

fit_later : (i : ℕ) (ws : List Write) → All (Fit (suc i)) ws → All (Fit i) ws
fit_later i = all_map (Fit (suc i)) (Fit i) (λ w f. record { from = omega (arith, f.from); high = f.high; low = f.low })

-- what a line writes
module _ (i : ℕ) (l : Line) (a : LineAt i l) {L : List ℕ → List Write → Type 0} {xs : List ℕ} {ws : List Write} (h : This (form_of l) (adds l) L xs ws) where
  pub its : OfValue l h.front
  its = follows_text l h.front h.follows

  pub its_text : xs ≡ text_of l its.value ++ h.rest
  its_text = h.parts ∙ ap (λ (x : List ℕ). x ++ h.rest) its.same

  pub its_writes : ws ≡ write_at (cell i) its.value ∷ h.later
  its_writes =
      h.all ∙ ap (λ (x : List ℕ). write_of l x ∷ h.later) its_text
      ∙ ap (λ (w : Write). w ∷ h.later) (text_writes l its.value h.rest its.low ∙ ap (λ (c : Cell). write_at c its.value) a.numbered)

  its_fit : Fit i (write_at (cell i) its.value)
  its_fit = record { from = omega arith; high = a.high; low = rw a.wide at its.low }

pub writes_fit : (i : ℕ) (ls : List Line) (k : ℕ) (xs : List ℕ) (ws : List Write) → Numbered i ls → InLines ls k xs ws → All (Fit i) ws
writes_fit i ls zero xs ws a h = rw h.1 tt
writes_fit i [] (suc k) xs ws a h = absurd h
writes_fit i (l ∷ ls) (suc k) xs ws a (this h) =
    rw (its_writes i l a.0 h) (its_fit i l a.0 h, fit_later i h.later (writes_fit (suc i) ls k h.rest h.later a.1 h.texts))
writes_fit i (l ∷ ls) (suc k) xs ws a (that m) = fit_later i ws (writes_fit (suc i) ls (suc k) xs ws a.1 m)

-- ---- from lines to the state that they leave

-- no cell from i on is marked
pub record Clear (cur : List ℕ) (i : ℕ) : Type 0 where
  pub size : length cur ≡ state_words
  pub mark : (c : ℕ) → i ≤ c → c < cells → mark_at cur (cell c) ≡ 0

clear_later : (cur : List ℕ) (i : ℕ) → Clear cur i → Clear cur (suc i)
clear_later cur i c = record { size = c.size; mark = λ d l h. c.mark d (omega arith) h }

none_marked : (cur : List ℕ) (i : ℕ) (ls : List Line) → Numbered i ls → Clear cur i → lines_by cur ls ≡ []
none_marked cur i [] a c = refl
none_marked cur i (l ∷ ls) a c = rw (a.0.numbered, c.mark i (omega arith) a.0.high) (none_marked cur (suc i) ls a.1 (clear_later cur i c))

-- later writes leave cell i alone
mark_stays : (cur : List ℕ) (i : ℕ) (ws : List Write) → i < cells → All (Fit (suc i)) ws → mark_at (apply_all cur ws) (cell i) ≡ mark_at cur (cell i)
mark_stays cur i ws l a =
    untouched (cells + i) cur ws
    (all_map (Fit (suc i)) (λ (w : Write). (cells + i ≢ w.cell.0) × (cells + i ≢ cells + w.cell.0))
    (λ w f. (λ e. omega (arith, f.high), λ e. omega (arith, f.from))) ws a)

value_stays : (cur : List ℕ) (i : ℕ) (ws : List Write) → i < cells → All (Fit (suc i)) ws → value_at (apply_all cur ws) (cell i) ≡ value_at cur (cell i)
value_stays cur i ws l a =
    untouched i cur ws
    (all_map (Fit (suc i)) (λ (w : Write). (i ≢ w.cell.0) × (i ≢ cells + w.cell.0)) (λ w f. (λ e. omega (arith, f.from), λ e. omega arith)) ws a)

-- one write
module _ (cur : List ℕ) (i v : ℕ) (c : Clear cur i) (l : i < cells) where
  abbrev after : List ℕ
  after = set (set cur i v) (cells + i) 1

  after_clear : Clear after (suc i)
  after_clear = record {
    size = length-set (set cur i v) (cells + i) 1 ∙ length-set cur i v ∙ c.size;
    mark = λ d h k.
        get_or-set_other (set cur i v) (cells + i) (cells + d) 1 0 (λ e. omega arith) ∙ get_or-set_other cur i (cells + d) v 0 (λ e. omega arith)
        ∙ c.mark d (omega arith) k;
  }

  after_mark : mark_at after (cell i) ≡ 1
  after_mark = get_or-set_same (set cur i v) (cells + i) 1 0 (omega (arith, length-set cur i v, c.size))

  after_value : value_at after (cell i) ≡ v
  after_value = get_or-set_other (set cur i v) (cells + i) i 1 0 (λ e. omega arith) ∙ get_or-set_same cur i v 0 (omega (arith, c.size))

-- these lines are those of the state
pub record Back (st : List ℕ) (ls : List Line) (k : ℕ) (xs : List ℕ) : Type 0 where
  pub text : join (lines_by st ls) ≡ xs
  pub count : length (lines_by st ls) ≡ k

back_unmarked : (st : List ℕ) (i : ℕ) (l : Line) (ls : List Line) (k : ℕ) (xs : List ℕ) → LineAt i l → mark_at st (cell i) ≡ 0 → Back st ls k xs → Back st (l ∷ ls) k xs
back_unmarked st i l ls k xs a e b = record { text = rw (a.numbered, e) b.text; count = rw (a.numbered, e) b.count }

back_marked : (st : List ℕ) (i : ℕ) (l : Line) (ls : List Line) (k v : ℕ) (xs : List ℕ) → LineAt i l → mark_at st (cell i) ≡ 1 → value_at st (cell i) ≡ v → Back st ls k xs
    → Back st (l ∷ ls) (suc k) (text_of l v ++ xs)
back_marked st i l ls k v xs a e f b =
    record { text = rw (a.numbered, e, f) (ap (λ (x : List ℕ). text_of l v ++ x) b.text); count = rw (a.numbered, e) (ap suc b.count) }

back_as : (cur : List ℕ) (ls : List Line) (k : ℕ) {xs ys : List ℕ} {ws vs : List Write} → xs ≡ ys → ws ≡ vs → Back (apply_all cur vs) ls k ys → Back (apply_all cur ws) ls k xs
back_as cur ls k e f b = rw (e, f) b

pub lines_back : (i : ℕ) (ls : List Line) (k : ℕ) (xs : List ℕ) (ws : List Write) (cur : List ℕ) → Numbered i ls → Clear cur i → InLines ls k xs ws
    → Back (apply_all cur ws) ls k xs
unfolding apply_all apply
lines_back i ls zero xs ws cur a c h =
    let e = none_marked cur i ls a c in
    rw (h.0, h.1) (record { text = ap join e; count = ap length e })
lines_back i [] (suc k) xs ws cur a c h = absurd h
lines_back i (l ∷ ls) (suc k) xs ws cur a c (this h) =
    let v = (its i l a.0 h).value in
    let now = set (set cur i v) (cells + i) 1 in
    let cl = after_clear cur i v c a.0.high in
    let fit = writes_fit (suc i) ls k h.rest h.later a.1 h.texts in
    back_as cur (l ∷ ls) (suc k) (its_text i l a.0 h) (its_writes i l a.0 h)
    (back_marked (apply_all now h.later) i l ls k v h.rest a.0
    (mark_stays now i h.later a.0.high fit ∙ after_mark cur i v c a.0.high)
    (value_stays now i h.later a.0.high fit ∙ after_value cur i v c a.0.high)
    (lines_back (suc i) ls k h.rest h.later now a.1 cl h.texts))
lines_back i (l ∷ ls) (suc k) xs ws cur a c (that m) =
    let fit = writes_fit (suc i) ls (suc k) xs ws a.1 m in
    back_unmarked (apply_all cur ws) i l ls (suc k) xs a.0 (mark_stays cur i ws a.0.high fit ∙ c.mark i (omega arith) a.0.high)
    (lines_back (suc i) ls (suc k) xs ws cur a.1 (clear_later cur i c) m)
