-- The loop over the lines: to read on from here is to read all lines.
-- Assumes nothing.
use Rattle.std.specs.Prelude.{Some, None}
use Rattle.std.proofs.lemmas.Option.{none-some}
use mathlib.Core.Path.{◌≡◌, refl, ap, ◌∙◌}
use mathlib.Core.List.{List, [], ◌∷◌}
use mathlib.Core.Logic.{◌≢◌}
use Prim.Native.Nat.{ℕ, zero, suc, ◌+◌, ◌-◌, ◌≤◌, ◌<◌}
use native.Mathlib.Omega.{arith}
use lib.ListN.{length, drop, get_or, set, drop_of_length-le, length-drop, length-set}
use lib.Seq.{drop-drop, drop-cons}
use Rattle.meaning.specs.Registers.{cells, first_video, cell}
use Rattle.meaning.specs.State.{state_words, apply, apply_all}
use Rattle.meaning.specs.Answers.{Answer, success, not_listing, answer}
use Rattle.meaning.specs.Lister.{hex}
use Rattle.meaning.specs.ListingReader.{form_of, table_lines, Outcome, refused, further, with, read_lines}
use Rattle.listings.specs.Lines.{name_3d, name_video, line_for, lines_from, furthest_of}
use Rattle.listings.proofs.Forms.{along_within}
use Rattle.listings.proofs.Numbers.{by_number, line_3d_lem, line_video_lem}
use Rattle.listings.proofs.Here.{form, here_whole, read_found, read_none}
use Rattle.line_reader.specs.declared.Line.{Line}
use Rattle.line_reader.specs.Read.{LineAt}

-- ---- how long a line is

pub width_3d : (c : ℕ) → c < first_video → 26 ≡ length (form_of (line_for c))
unfolding name_3d hex
width_3d c l = rw (line_3d_lem c l)

pub width_video : (c : ℕ) → first_video ≤ c → 22 ≡ length (form_of (line_for c))
unfolding name_video hex
width_video c l = rw (line_video_lem c l)

-- no text goes further along a line than it is long
pub furthest_within : (n c : ℕ) (xs : List ℕ) → furthest_of c n xs ≤ length xs
unfolding furthest_of
furthest_within zero c xs = omega arith
furthest_within (suc n) c xs = omega (arith, (along_within (form c) xs).1, furthest_within n (suc c) xs)

-- ---- no line is wanted

read_end : (c : ℕ) → read_lines (lines_from c) 0 [] ≡ record { answer = answer success 0; writes = [] }
unfolding read_lines
read_end c = refl

read_more : (c x : ℕ) (xs : List ℕ) → read_lines (lines_from c) 0 (x ∷ xs) ≡ refused 0
unfolding read_lines
read_more c x xs = refl

-- ---- the loop

module _ (text : List ℕ) (start n : ℕ) (st₀ : List ℕ) where
  abbrev all : Outcome
  all = read_lines table_lines n (drop start text)

  -- the answer is that for all lines, and the state what they all leave
  abbrev pub Done : Answer → List ℕ → Type 0
  Done a st = (a ≡ (further start all).answer) × (st ≡ apply_all st₀ all.writes)

  -- `left` lines are wanted from `at` on, of the cells from c on
  pub record Lined (at left c : ℕ) (st : List ℕ) : Type 0 where
    pub inside : at ≤ length text
    pub enough : c + left ≤ cells
    pub size : length st ≡ state_words
    pub told : (further at (read_lines (lines_from c) left (drop at text))).answer ≡ (further start all).answer
    pub state : apply_all st (read_lines (lines_from c) left (drop at text)).writes ≡ apply_all st₀ all.writes

  pub lined_start : start ≤ length text → n ≤ cells → length st₀ ≡ state_words → Lined start n 0 st₀
  lined_start l k s = record { inside = l; enough = omega arith; size = s; told = rw by_number; state = rw by_number }

  module _ {at left c : ℕ} {st : List ℕ} (g : Lined at left c st) where
    -- a reading from here on gives the answer
    gives : (r : Outcome) → read_lines (lines_from c) left (drop at text) ≡ r → ((further at r).answer ≡ (further start all).answer) × (apply_all st r.writes ≡ apply_all st₀ all.writes)
    gives r e = (rw e at g.told, rw e at g.state)

    stops : (p : ℕ) → read_lines (lines_from c) left (drop at text) ≡ refused p → Done (answer not_listing (at + p)) st
    unfolding apply_all
    stops p e = gives (refused p) e

    -- all are read, and the text is at its end
    pub lined_end : left ≡ 0 → at ≡ length text → Done (answer success at) st
    unfolding apply_all
    lined_end z e =
        let d : drop at text ≡ [] = drop_of_length-le text {i = at} (omega arith) in
        let p = gives (record { answer = answer success 0; writes = [] }) (rw (z, d) (read_end c)) in
        let y : at + 0 ≡ at = omega arith in
        (rw y at p.0, p.1)

    -- or is not
    pub lined_more : left ≡ 0 → at ≢ length text → {a : Answer} → a ≡ answer not_listing at → Done a st
    lined_more z e a =
        let d = drop-cons text at 0 (omega (arith, g.inside)) in
        let p = stops 0 (rw (z, d) (read_more c (get_or text at 0) (drop (suc at) text))) in
        let y : at + 0 ≡ at = omega arith in
        (a ∙ (rw y at p.0), p.1)

    module _ (some : left ≢ 0) where
      abbrev k : ℕ
      k = left - 1

      one_more : left ≡ suc k
      one_more = omega arith

      -- no line that may stand here does
      pub lined_none : LineAt (drop at text) c (cells + 1 - left) None → {far : ℕ} → far ≡ furthest_of c (cells + 1 - left - c) (drop at text) → {a : Answer} → a ≡ answer not_listing (at + far) → Done a st
      lined_none line f e =
          let r : read_lines (lines_from c) left (drop at text) ≡ refused (furthest_of c (cells + 1 - left - c) (drop at text)) =
          ap (λ (x : ℕ). read_lines (lines_from c) x (drop at text)) one_more ∙ read_none (drop at text) k (cells + 1 - left - c) c (omega (arith, g.enough)) (λ d u l h x. none-some _ (line.only d u l (omega arith) x)) in
          let p = stops _ r in
          (e ∙ ap (λ (x : ℕ). answer not_listing (at + x)) f ∙ p.0, p.1)

      -- one does
      module _ {l : Line} (line : LineAt (drop at text) c (cells + 1 - left) (Some l)) where
        abbrev found : ℕ
        found = l.cell

        abbrev v : ℕ
        v = l.value

        pub found_low : found < cells
        found_low = omega (arith, line.found.1.0)

        here : (c ≤ found) × (found < cells + 1 - left)
        here = (line.found.0, line.found.1.0)

        pub line_inside : {w : ℕ} → w ≡ length (form_of (line_for found)) → at + w ≤ length text
        line_inside e =
            omega (arith, (along_within (form found) (drop at text)).1, here_whole (drop at text) found found_low v line.found.1.1, length-drop at text, g.inside)

        pub lined_next : {w : ℕ} → w ≡ length (form_of (line_for found)) → Lined (at + w) (left - 1) (found + 1) (set (set st found v) (cells + found) 1)
        unfolding apply_all apply
        lined_next {w} e =
            let rest = read_lines (lines_from (found + 1)) (left - 1) (drop (at + w) text) in
            let r : read_lines (lines_from c) left (drop at text) ≡ further w (with (record { cell = cell found; value = v }) rest) =
            ap (λ (x : ℕ). read_lines (lines_from c) x (drop at text)) one_more
            ∙ read_found (drop at text) k c found v here.0 (omega (arith, here.1)) line.found.1.1
            ∙ rw (← e, drop-drop w at text) in
            let p = gives _ r in
            let place : at + w + rest.answer.place ≡ at + (w + rest.answer.place) = omega arith in
            record {
              inside = line_inside e;
              enough = omega (arith, here.1);
              size = length-set (set st found v) (cells + found) 1 ∙ length-set st found v ∙ g.size;
              told = ap (answer rest.answer.reason) place ∙ p.0;
              state = p.1;
            }
