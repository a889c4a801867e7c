-- The line of a cell at the front of a text, and what the reading of lines then comes to: it is read, or how far a text goes along one.
-- Assumes nothing.
use mathlib.Core.Path.{◌≡◌, refl, sym, ap, ◌∙◌}
use mathlib.Core.Bool.{Bool, true, false, cond}
use mathlib.Core.Logic.{◌≢◌}
use mathlib.Core.List.{List, [], ◌∷◌, ◌++◌, map}
use Prim.Native.Nat.{ℕ, zero, suc, ◌+◌, ◌-◌, ◌/◌, ◌≤◌, ◌<◌, ◌^◌, max}
use native.Mathlib.Omega.{arith}
use native.Mathlib.Decide.{dec_lt, ℕ_discrete}
use borrow.Author.Tests.{eq-eqb, ne_eqb, le-leb, lt-leb}
use lib.Dec.{T, eqb}
use lib.ListN.{length, drop, take-append-drop}
use mir.Facts.{and_yes, eqb_yes, yes_eqb}
use Rattle.laws.specs.Lists.{every, from}
use Rattle.laws.proofs.Tests.{holds_of}
use Rattle.meaning.specs.Registers.{cells, first_video, cell, register_at}
use Rattle.meaning.specs.State.{Write}
use Rattle.meaning.specs.Lister.{digit, hex}
use Rattle.meaning.specs.ListingReader.{Slot, fixed, any_digit, Line, along, form_of, write_of, Outcome, refused, further, with, at_least, read_lines}
use Rattle.listings.specs.Lines.{name_3d, name_video, name_text, line_text, LineHere, line_for, lines_from, furthest_of}
use Rattle.listings.proofs.Forms.{follows_length, whole_follows, follows_whole, apart, apart_along}
use Rattle.listings.proofs.Lines.{all_apart}
use Rattle.listings.proofs.Numbers.{by_number, lines_next, lines_left, line_3d_lem, line_video_lem, line_cell, width_3d, width_video}
use Rattle.listings.proofs.Table.{lines_apart}
use Rattle.listings.proofs.Texts.{text_of, text_follows, text_writes, follows_text}

-- ---- a line's text and its form

-- so many values as its free digits tell fit
pub digits_width : (c : ℕ) → c < cells → 16 ^ (line_for c).digits ≡ 2 ^ (register_at (cell c)).width
digits_width c l = elim (dec_lt c first_video) [
  | yes h ↦ rw (line_3d_lem c h, width_3d c h)
  | no h ↦ rw (line_video_lem c (omega arith), width_video c (omega arith) l)
]

line_text_3d : (c v : ℕ) → c < first_video → v < 2 ^ 24 → line_text c v ≡ text_of (line_for c) v
unfolding name_text name_3d hex digit
line_text_3d c v l h =
    let a : v / 268435456 ≡ 0 = omega arith in
    let b : v / 16777216 ≡ 0 = omega arith in
    rw (line_3d_lem c l, le-leb c 83 (omega arith), a, b)

line_text_video : (c v : ℕ) → first_video ≤ c → line_text c v ≡ text_of (line_for c) v
unfolding name_text name_video hex
line_text_video c v l = rw (line_video_lem c l, lt-leb c 83 (omega arith))

pub line_text_lem : (c v : ℕ) → c < cells → v < 2 ^ (register_at (cell c)).width → line_text c v ≡ text_of (line_for c) v
line_text_lem c v l n = elim (dec_lt c first_video) [
  | yes h ↦ line_text_3d c v h (rw (width_3d c h) at n)
  | no h ↦ line_text_video c v (omega arith)
]

abbrev pub form : ℕ → List Slot
form c = form_of (line_for c)

-- the length of a line
pub form_length : (c v : ℕ) → length (text_of (line_for c) v) ≡ length (form c)
form_length c v = follows_length (text_follows (line_for c) v)

module _ (xs : List ℕ) (c : ℕ) (l : c < cells) where
  -- a line that stands there is along its form to the end, and writes its value
  module _ (v : ℕ) (h : LineHere xs c v) where
    text : line_text c v ≡ text_of (line_for c) v
    text = line_text_lem c v l h.narrow

    split : xs ≡ text_of (line_for c) v ++ drop (length (line_text c v)) xs
    split = sym (take-append-drop (length (line_text c v)) xs) ∙ ap (λ (x : List ℕ). x ++ drop (length (line_text c v)) xs) (h.same ∙ text)

    pub here_whole : along (form c) xs ≡ length (form c)
    here_whole = ap (along (form c)) split ∙ follows_whole (text_follows (line_for c) v) _

    pub here_writes : write_of (line_for c) xs ≡ record { cell = cell c; value = v }
    here_writes =
        ap (write_of (line_for c)) split ∙ text_writes (line_for c) v _ (rw (digits_width c l) h.narrow)
        ∙ ap (λ x. record { cell = x; value = v }) (line_cell c)

  -- and the other way round
  pub whole_here : along (form c) xs ≡ length (form c) → (v : ℕ) × LineHere xs c v
  whole_here e =
      let o = follows_text (line_for c) _ (whole_follows (form c) xs e) in
      let low : o.value < 2 ^ (register_at (cell c)).width = rw (digits_width c l) at o.low in
      let t = line_text_lem c o.value l low in
      let n : length (line_text c o.value) ≡ length (form c) = ap length t ∙ form_length c o.value in
      (o.value, record { narrow = low; same = rw n (o.same ∙ sym t) })

-- ---- no text has the lines of two cells

apart_turned : (f g : List Slot) → T (apart f g) → T (apart g f)
unfolding apart
apart_turned [] g t = absurd t
apart_turned (any_digit ∷ f) g t = absurd t
apart_turned (fixed a ∷ f) [] t = absurd t
apart_turned (fixed a ∷ f) (any_digit ∷ g) t = absurd t
apart_turned (fixed a ∷ f) (fixed b ∷ g) t = by (eqb a b) refl (eqb b a) refl t (apart_turned f g)
  where
    by : (p : Bool) → eqb a b ≡ p → (q : Bool) → eqb b a ≡ q → T (cond p (apart f g) true) → (T (apart f g) → T (apart g f)) → T (cond q (apart g f) true)
    by p ep false eq t more = tt
    by true ep true eq t more = more t
    by false ep true eq t more =
        let same : a ≡ b = sym (eqb_yes (holds_of eq)) in
        let yes : T (eqb a b) = yes_eqb same in
        absurd (rw ep at yes)

every_cell : (f : Line → Bool) (i n c : ℕ) → T (every f (map line_for (from i n))) → i ≤ c → c < i + n → T (f (line_for c))
unfolding every from
every_cell f i zero c t l h = absurd (omega arith)
every_cell f i (suc n) c t l h =
    let both = and_yes (f (line_for i)) _ t in
    elim (ℕ_discrete c i) [ yes e ↦ rw e both.0 | no e ↦ every_cell f (suc i) n c both.1 (omega arith) (omega arith) ]

all_apart_lem : (i n c d : ℕ) → T (all_apart (map line_for (from i n))) → i ≤ c → c < d → d < i + n → T (apart (form c) (form d))
unfolding all_apart from
all_apart_lem i zero c d t l k h = absurd (omega arith)
all_apart_lem i (suc n) c d t l k h =
    let both = and_yes (every (λ g. apart (form i) (form_of g)) (map line_for (from (suc i) n))) _ t in
    elim (ℕ_discrete c i) [
      | yes e ↦ rw e (every_cell (λ g. apart (form i) (form_of g)) (suc i) n d both.0 (omega arith) (omega arith))
      | no e ↦ all_apart_lem (suc i) n c d both.1 (omega arith) k (omega arith)
    ]

cells_apart : (c d : ℕ) → c < d → d < cells → T (apart (form c) (form d))
unfolding lines_from
cells_apart c d k h = all_apart_lem 0 cells c d (rw by_number at lines_apart) (omega arith) k (omega arith)

-- ---- one cell more

read_here : (l : Line) (ls : List Line) (k : ℕ) (xs : List ℕ) → k ≤ length ls → along (form_of l) xs ≡ length (form_of l)
    → read_lines (l ∷ ls) (suc k) xs ≡ further (length (form_of l)) (with (write_of l xs) (read_lines ls k (drop (length (form_of l)) xs)))
unfolding read_lines
read_here l ls k xs h w = rw (w, le-leb k (length ls) h, eq-eqb (length (form_of l)) (length (form_of l)) refl)

read_past : (l : Line) (ls : List Line) (k : ℕ) (xs : List ℕ) → k ≤ length ls → along (form_of l) xs ≢ length (form_of l)
    → read_lines (l ∷ ls) (suc k) xs ≡ at_least (along (form_of l) xs) (read_lines ls (suc k) xs)
unfolding read_lines
read_past l ls k xs h w = rw (le-leb k (length ls) h, ne_eqb (along (form_of l) xs) (length (form_of l)) w)

-- fewer cells are left than lines wanted
read_few : (ls : List Line) (k : ℕ) (xs : List ℕ) → length ls ≤ k → read_lines ls (suc k) xs ≡ refused 0
unfolding read_lines
read_few [] k xs h = refl
read_few (l ∷ ls) k xs h = rw (lt-leb k (length ls) (omega arith))

-- ---- the lines from cell c on, of which k + 1 are wanted

module _ (xs : List ℕ) (k : ℕ) where
  enough : (c : ℕ) → c + suc k ≤ cells → k ≤ length (lines_from (c + 1))
  enough c l = omega (arith, lines_left (c + 1))

  -- how far the line of a cell goes along that of another
  shorter : (c d v : ℕ) → c < d → d < cells → LineHere xs d v → (along (form c) xs < length (form c)) × (along (form c) xs < length (form d))
  shorter c d v k l h = apart_along (form d) (form c) xs (apart_turned (form c) (form d) (cells_apart c d k l)) (here_whole xs d l v h)

  passed_over : (m n : ℕ) (w : Write) (r : Outcome) → m ≤ n → at_least m (further n (with w r)) ≡ further n (with w r)
  passed_over m n w r l = let e : max m (n + r.answer.place) ≡ n + r.answer.place = omega arith in rw e

  -- the line of the n-th cell from here stands there
  found_behind : (n c v : ℕ) → c + n + suc k ≤ cells → LineHere xs (c + n) v
      → read_lines (lines_from c) (suc k) xs
      ≡ further (length (form (c + n))) (with (record { cell = cell (c + n); value = v }) (read_lines (lines_from (c + n + 1)) k (drop (length (form (c + n))) xs)))
  found_behind zero c v l h =
      let e : c + 0 ≡ c = omega arith in
      let h' : LineHere xs c v = rw e at h in
      rw (e, lines_next c (omega arith), ← here_writes xs c (omega arith) v h') (read_here (line_for c) (lines_from (c + 1)) k xs (enough c (omega arith)) (here_whole xs c (omega arith) v h'))
  found_behind (suc n) c v l h =
      let e : c + suc n ≡ c + 1 + n = omega arith in
      let h' : LineHere xs (c + 1 + n) v = rw e at h in
      let s = shorter c (c + 1 + n) v (omega arith) (omega arith) h' in
      rw (e, lines_next c (omega arith))
      (read_past (line_for c) (lines_from (c + 1)) k xs (enough c (omega arith)) (λ z. omega (arith, s.0))
      ∙ ap (at_least (along (form c) xs)) (found_behind n (c + 1) v (omega arith) h')
      ∙ passed_over _ _ _ _ (omega (arith, s.1)))

  pub read_found : (c d v : ℕ) → c ≤ d → d + suc k ≤ cells → LineHere xs d v
      → read_lines (lines_from c) (suc k) xs ≡ further (length (form d)) (with (record { cell = cell d; value = v }) (read_lines (lines_from (d + 1)) k (drop (length (form d)) xs)))
  read_found c d v l m h =
      let e : c + (d - c) ≡ d = omega arith in
      rw e at (found_behind (d - c) c v (omega arith) (rw e h))

  -- none of the n lines that may stand there does
  pub read_none : (n c : ℕ) → c + n + k ≡ cells → ((d v : ℕ) → c ≤ d → d < c + n → ¬ LineHere xs d v) → read_lines (lines_from c) (suc k) xs ≡ refused (furthest_of c n xs)
  unfolding furthest_of
  read_none zero c e none = read_few (lines_from c) k xs (omega (arith, lines_left c))
  read_none (suc n) c e none =
      let s : suc c ≡ c + 1 = omega arith in
      rw (lines_next c (omega arith), s)
      (read_past (line_for c) (lines_from (c + 1)) k xs (enough c (omega arith)) (λ z. let h = whole_here xs c (omega arith) z in none c h.0 (omega arith) (omega arith) h.1)
      ∙ ap (at_least (along (form c) xs)) (read_none n (c + 1) (omega arith) (λ d v l h. none d v (omega arith) (omega arith))))
