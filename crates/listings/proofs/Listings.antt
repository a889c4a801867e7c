-- The listings are the texts that the reading is about; and so what it answers.
-- Assumes nothing.
use mathlib.Core.Path.{◌≡◌, refl, sym, ap, ap₂, ◌∙◌}
use mathlib.Core.Bool.{Bool, true, ◌&&◌}
use mathlib.Core.List.{List, [], ◌∷◌, ◌++◌, map}
use Prim.Native.Nat.{ℕ, zero, suc, ◌+◌, ◌-◌, ◌≤◌, ◌<◌, ◌^◌}
use native.Mathlib.Omega.{arith}
use native.Mathlib.Decide.{dec_lt}
use native.Mathlib.Nat.{one-le-pow}
use lib.Dec.{T, eqb, ltb}
use lib.ListN.{length, get_or-replicate, length-replicate}
use mir.Facts.{and_yes, eqb_yes, ltb_yes}
use Rattle.laws.specs.Lists.{All, from, join}
use Rattle.laws.proofs.Lists.{all_map}
use Rattle.meaning.specs.declared.Cell.{Cell}
use Rattle.meaning.specs.Registers.{cells, first_video, end_video, cell, register_at, register_in, register_among, target_group, stage, sample, overlay, scaler, sections}
use Rattle.meaning.specs.State.{state_words, value_at, mark_at, marked, empty, Write, apply_all}
use Rattle.meaning.specs.Writer.{if_so}
use Rattle.meaning.specs.Text.{ascii}
use Rattle.meaning.specs.Lister.{decimal, cell_lines, listing}
use Rattle.meaning.specs.Listings.{Listable, Listed}
use Rattle.meaning.specs.ListingReader.{Line, table_lines}
use Rattle.meaning.proofs.Writing.{chosen_from, so_append}
use Rattle.meaning.proofs.States.{Formed, formed_iff, formed_writes, each_after_all, empty_well_formed}
use Rattle.lines.specs.Lines.{cell_line_3d, cell_line_video}
use Rattle.lister.specs.Listed as By
use Rattle.lister.proofs.Rows.{in_cell_order}
use Rattle.listings.specs.Lines.{line_for, lines_from}
use Rattle.listings.proofs.Tells.{this, that}
use Rattle.listings.proofs.Lines.{InLines, few}
use Rattle.listings.proofs.Numbers.{by_number, line_cell, width_3d, text_3d, text_video}
use Rattle.listings.proofs.Table.{lines_101}
use Rattle.listings.proofs.Count.{InText}
use Rattle.listings.proofs.Decimals.{decimal_first, first_counted}
use Rattle.listings.proofs.Texts.{text_of, fixed_follows, follows_fixed}
use Rattle.listings.proofs.Cells.{lines_by, lines_in_lem, Numbered, writes_marked, Fit, writes_fit, Clear, lines_back}

-- ---- the table, line by line

line_test : ℕ → Line → Bool
line_test i l = eqb l.cell.0 i && (eqb (16 ^ l.digits) (2 ^ (register_at (cell i)).width) && ltb i cells)

lines_test : ℕ → List Line → Bool
lines_test i [] = true
lines_test i (l ∷ ls) = line_test i l && lines_test (suc i) ls

numbered_of : (i : ℕ) (ls : List Line) → T (lines_test i ls) → Numbered i ls
unfolding lines_test line_test
numbered_of i [] t = tt
numbered_of i (l ∷ ls) t =
    let p = and_yes (line_test i l) _ t in
    let a = and_yes (eqb l.cell.0 i) _ p.0 in
    let b = and_yes (eqb (16 ^ l.digits) (2 ^ (register_at (cell i)).width)) _ a.1 in
    (record { numbered = ap cell (eqb_yes a.0); wide = eqb_yes b.0; high = ltb_yes b.1 }, numbered_of (suc i) ls p.1)

tested : T (lines_test 0 table_lines)
unfolding lines_test line_test table_lines sections target_group stage sample overlay scaler from register_at register_in register_among
tested = tt

pub table_numbered : Numbered 0 table_lines
table_numbered = numbered_of 0 table_lines tested

-- ---- the listing's lines are those of the table

-- the value of a line's cell fits
abbrev Narrow : List ℕ → Line → Type 0
Narrow st l = value_at st l.cell < 16 ^ l.digits

-- the lines of n cells from cell i on, whatever the line of one cell is called
cells_lines : (line : Cell → ℕ → List ℕ) (st : List ℕ) (i n : ℕ) → ((c : ℕ) → i ≤ c → c < i + n → line (cell c) (value_at st (cell c)) ≡ text_of (line_for c) (value_at st (cell c)))
    → By.lines_from line st i n ≡ lines_by st (map line_for (from i n))
unfolding By.lines_from from
cells_lines line st i zero same = refl
cells_lines line st i (suc n) same =
    rw (line_cell i)
    (ap₂ (if_so (marked st (cell i))) (same i (omega arith) (omega arith)) (cells_lines line st (suc i) n (λ c l h. same c (omega arith) (omega arith))))

by_append : (st : List ℕ) (ls ms : List Line) → lines_by st (ls ++ ms) ≡ lines_by st ls ++ lines_by st ms
by_append st [] ms = refl
by_append st (l ∷ ls) ms =
    ap (if_so (marked st l.cell) (text_of l (value_at st l.cell))) (by_append st ls ms)
    ∙ sym (so_append (marked st l.cell) (text_of l (value_at st l.cell)) (lines_by st ls) (lines_by st ms))

two_kinds : table_lines ≡ map line_for (from 0 first_video) ++ map line_for (from first_video (end_video - first_video))
unfolding lines_from from
two_kinds = by_number

lines_of : (st : List ℕ) → ((c : ℕ) → c < cells → value_at st (cell c) < 2 ^ (register_at (cell c)).width) → cell_lines st ≡ lines_by st table_lines
lines_of st h =
    rw (in_cell_order st, two_kinds)
    (ap₂ (λ (x y : List (List ℕ)). x ++ y)
    (cells_lines cell_line_3d st 0 first_video (λ c l k. text_3d c (value_at st (cell c)) k (rw (width_3d c k) at (h c (omega arith)))))
    (cells_lines cell_line_video st first_video (end_video - first_video) (λ c l k. text_video c (value_at st (cell c)) l))
    ∙ sym (by_append st (map line_for (from 0 first_video)) (map line_for (from first_video (end_video - first_video)))))

-- ---- from a state to its listing

narrow_lines : (st : List ℕ) (i : ℕ) (ls : List Line) → Numbered i ls → ((c : ℕ) → c < cells → value_at st (cell c) < 2 ^ (register_at (cell c)).width) → All (Narrow st) ls
narrow_lines st i [] a h = tt
narrow_lines st i (l ∷ ls) a h = (rw (a.0.numbered, a.0.wide) (h i a.0.high), narrow_lines st (suc i) ls a.1 h)

head_parts : (n : ℕ) (zs : List ℕ) → ascii "cells=" ++ (decimal n ++ (ascii "\n" ++ zs)) ≡ ascii "cells=" ++ (decimal n ++ 10 ∷ zs)
head_parts n zs = refl

pub listing_in : (st : List ℕ) → Listable st → InText (listing st) (chosen_from (marked st) st 0 cells)
unfolding listing
listing_in st h =
    let a = narrow_lines st 0 table_lines table_numbered h.narrow in
    let e = lines_of st h.narrow in
    let i : InLines table_lines (length (cell_lines st)) (join (cell_lines st)) (chosen_from (marked st) st 0 cells) =
    rw (e, ← lines_101, ← writes_marked st 0 table_lines table_numbered) (lines_in_lem st table_lines a) in
    let l : length (cell_lines st) ≤ cells = rw lines_101 at (few table_lines (length (cell_lines st)) (join (cell_lines st)) (chosen_from (marked st) st 0 cells) i) in
    this (record {
      front = ascii "cells=";
      rest = decimal (length (cell_lines st)) ++ 10 ∷ join (cell_lines st);
      later = chosen_from (marked st) st 0 cells;
      follows = fixed_follows (ascii "cells=");
      texts = decimal_first (length (cell_lines st)) (join (cell_lines st)) (chosen_from (marked st) st 0 cells) l i;
      parts = refl;
      all = refl;
    })

-- ---- and back

empty_length : length empty ≡ state_words
unfolding empty
empty_length = length-replicate {A = ℕ} state_words 0

empty_clear : Clear empty 0
unfolding empty
empty_clear = record { size = empty_length; mark = λ c l h. get_or-replicate state_words (cells + c) 0 0 (omega arith) }

abbrev AllNarrow : List ℕ → Type 0
AllNarrow st = (c : ℕ) → c < cells → value_at st (cell c) < 2 ^ (register_at (cell c)).width

some2 : (w : ℕ) → 0 < 2 ^ w
some2 w = omega (arith, one-le-pow w 2 (omega arith))

-- values that fit, written into the empty state
narrow_writes : (ws : List Write) → All (Fit 0) ws → Formed (apply_all empty ws) → AllNarrow (apply_all empty ws)
narrow_writes ws fit f c l = elim (dec_lt 0 (mark_at (apply_all empty ws) (cell c))) [
  | yes m ↦
      each_after_all (λ (d v : ℕ). v < 2 ^ (register_at (cell d)).width) empty ws (all_map (Fit 0) (λ (w : Write). w.cell.0 < cells) (λ w x. x.high) ws fit)
      (all_map (Fit 0) (λ (w : Write). w.value < 2 ^ (register_at (cell w.cell.0)).width) (λ w x. x.low) ws fit) empty_length
      (λ d k n. absurd (omega (arith, empty_clear.mark d (omega arith) k))) c l m
  | no n ↦ rw (f.clear c l (omega arith)) (some2 (register_at (cell c)).width)
]

-- what k lines and the count in front of them write is a state whose listing they are
lines_listed : (k : ℕ) (zs : List ℕ) (ws : List Write) → InLines table_lines k zs ws → Listed (ascii "cells=" ++ (decimal k ++ 10 ∷ zs)) (apply_all empty ws)
unfolding listing
lines_listed k zs ws i =
    let st = apply_all empty ws in
    let fit = writes_fit 0 table_lines k zs ws table_numbered i in
    let f = formed_writes empty ws (all_map (Fit 0) (λ (w : Write). w.cell.0 < cells) (λ w x. x.high) ws fit) ((formed_iff empty).0 empty_well_formed) in
    let n = narrow_writes ws fit f in
    let b = lines_back 0 table_lines k zs ws empty table_numbered empty_clear i in
    let e : cell_lines (apply_all empty ws) ≡ lines_by (apply_all empty ws) table_lines = lines_of (apply_all empty ws) n in
    record {
      state = record { formed = (formed_iff (apply_all empty ws)).1 f; narrow = n };
      same = rw (e, b.text, b.count);
    }

pub in_listed : (xs : List ℕ) (ws : List Write) → InText xs ws → Listed xs (apply_all empty ws)
in_listed xs ws (this h) =
    let c = first_counted h.rest h.later h.texts in
    let f : h.front ≡ ascii "cells=" = follows_fixed (ascii "cells=") h.front h.follows in
    let e : xs ≡ ascii "cells=" ++ (decimal c.count ++ 10 ∷ c.rest) = h.parts ∙ ap₂ (λ (x y : List ℕ). x ++ y) f c.parts in
    let l = lines_listed c.count c.rest h.later c.lines in
    let r = rw (← e) at l in
    rw h.all r
in_listed xs ws (that m) = absurd m
