-- A line from its name and its value; and why it is none.
-- Assumes nothing.
use Rattle.std.specs.Prelude.{Option, Some, None}
use mathlib.Core.Path.{◌≡◌, refl, sym, ap, ap₂, ◌∙◌}
use mathlib.Core.List.{List, ◌++◌, append_assoc}
use Prim.Native.Nat.{ℕ, ◌+◌, ◌≤◌, ◌<◌, ◌^◌}
use native.Mathlib.Omega.{arith}
use native.Mathlib.Decide.{dec_lt}
use lib.ListN.{length, take, drop, length-append, length-take}
use lib.Seq.{take-add, take-take, take_at, drop_at}
use Rattle.meaning.specs.Registers.{cells, first_video, cell, register_at}
use Rattle.meaning.specs.Lister.{hex}
use Rattle.lines.specs.Lines.{value_text}
use Rattle.listings.specs.Lines.{name_text, line_text, LineHere}
use Rattle.listings.proofs.Numbers.{width_3d, width_video, value_word}
use Rattle.line_reader.specs.declared.Name.{Name}
use Rattle.line_reader.specs.declared.Line.{Line}
use Rattle.line_reader.specs.Read.{Stands, NoneStands, NameAt, NoName, LineAt}
use Rattle.line_reader.proofs.Names.{length_3d, length_video}
use Rattle.line_reader.proofs.Values.{standing}

value_length : (v : ℕ) → length (value_text v) ≡ 14
unfolding hex
value_length v = refl

line_length : (c v : ℕ) → length (line_text c v) ≡ length (name_text c) + 14
line_length c v = length-append (name_text c) (value_text v) ∙ ap (λ (n : ℕ). length (name_text c) + n) (value_length v)

-- ---- a line that stands there has its name there, and its value behind it

module _ (xs : List ℕ) (d u : ℕ) (h : LineHere xs d u) where
  abbrev name_end : ℕ
  name_end = length (name_text d)

  whole : take (name_end + 14) xs ≡ name_text d ++ value_text u
  whole = rw (← line_length d u) h.same

  pub here_long : name_end + 14 ≤ length xs
  here_long = omega (arith, ap length whole, length-take (name_end + 14) xs, line_length d u)

  pub here_name : take name_end xs ≡ name_text d
  here_name = sym (take-take name_end (name_end + 14) xs (omega arith)) ∙ ap (take name_end) whole ∙ take_at (name_text d) (value_text u) name_end refl

  pub here_value : take 14 (drop name_end xs) ≡ value_text u
  here_value =
      let s = standing (name_end + 14) xs _ whole in
      let d' : drop name_end xs ≡ value_text u ++ drop (name_end + 14) xs =
      ap (drop name_end) (s ∙ append_assoc (name_text d) (value_text u) _) ∙ drop_at (name_text d) _ name_end refl in
      ap (take 14) d' ∙ take_at (value_text u) _ 14 (value_length u)

-- a name is short
pub name_ends : (xs : List ℕ) {n : Name} → NameAt xs n → n.end ≤ 12
name_ends xs {n} name = elim (dec_lt n.cell first_video) [
  | yes h ↦ omega (arith, name.long, length_3d n.cell h)
  | no h ↦ omega (arith, name.long, length_video n.cell (omega arith))
]

-- ---- the answers

module _ (xs : List ℕ) (first end : ℕ) (in_table : end ≤ cells) where
  -- none, where no line can stand
  refuted : ((d u : ℕ) → first ≤ d → d < end → LineHere xs d u → ⊥) → LineAt xs first end None
  refuted never = record { found = tt; only = λ d u a b h. absurd (never d u a b h) }

  pub too_short : length xs < 22 → LineAt xs first end None
  too_short l = refuted (λ d u a b h. elim (dec_lt d first_video) [
    | yes k ↦ omega (arith, here_long xs d u h, length_3d d k)
    | no k ↦ omega (arith, here_long xs d u h, length_video d (omega arith))
  ])

  pub no_name : NoName xs → LineAt xs first end None
  no_name none = refuted (λ d u a b h. none d (omega arith) (here_name xs d u h))

  module _ {n : Name} (name : NameAt xs n) where
    its : (d u : ℕ) → d < end → LineHere xs d u → n.cell ≡ d
    its d u b h = name.only d (omega arith) (here_name xs d u h)

    its_end : (d u : ℕ) → d < end → LineHere xs d u → n.end ≡ length (name_text d)
    its_end d u b h = name.long ∙ ap (λ (x : ℕ). length (name_text x)) (its d u b h)

    pub before_first : n.cell < first → LineAt xs first end None
    before_first l = refuted (λ d u a b h. omega (arith, its d u b h))

    pub past_end : end ≤ n.cell → LineAt xs first end None
    past_end l = refuted (λ d u a b h. omega (arith, its d u b h))

    pub by_no_room : length xs < n.end + 14 → LineAt xs first end None
    by_no_room l = refuted (λ d u a b h. omega (arith, here_long xs d u h, its_end d u b h))

    pub no_value : NoneStands value_text 14 (drop n.end xs) → LineAt xs first end None
    no_value none = refuted (λ d u a b h. none u (value_word d u (omega arith) h.narrow) (rw (its_end d u b h) (here_value xs d u h)))

    module _ {value : ℕ} (stands : Stands value_text 14 (drop n.end xs) value) where
      same_value : (d u : ℕ) → d < end → LineHere xs d u → value ≡ u
      same_value d u b h = stands.only u (value_word d u (omega arith) h.narrow) (rw (its_end d u b h) (here_value xs d u h))

      pub too_wide : n.cell < first_video → 16777215 < value → LineAt xs first end None
      too_wide k w = refuted (λ d u a b h.
          let k' : d < first_video = omega (arith, its d u b h) in
          omega (arith, same_value d u b h, rw (width_3d d k') at h.narrow))

      module _ (from : first ≤ n.cell) (low : n.cell < end) where
        line_of : value < 2 ^ (register_at (cell n.cell)).width → LineAt xs first end (Some (record { cell = n.cell; value = value }))
        line_of narrow = record {
          found = (
            from,
            (
              low,
              record {
                narrow = narrow;
                same = rw (line_length n.cell value, ← name.long) (take-add n.end 14 xs ∙ ap₂ (λ (x y : List ℕ). x ++ y) name.same stands.same);
              },
            ),
          );
          only = λ d u a b h. ap₂ (λ (c v : ℕ). Some (record { cell = c; value = v })) (its d u b h) (same_value d u b h);
        }

        pub line_3d_lem : n.cell < first_video → value ≤ 16777215 → LineAt xs first end (Some (record { cell = n.cell; value = value }))
        line_3d_lem k w = line_of (rw (width_3d n.cell k) (omega arith))

        pub line_video_lem : first_video ≤ n.cell → LineAt xs first end (Some (record { cell = n.cell; value = value }))
        line_video_lem k = line_of (rw (width_video n.cell k (omega arith)) stands.word)

-- ---- one line at most

pub line_once : (xs : List ℕ) (first end : ℕ) (r s : Option Line) → LineAt xs first end r → LineAt xs first end s → r ≡ s
line_once xs first end (Some l) s p q = sym (q.only l.cell l.value p.found.0 p.found.1.0 p.found.1.1)
line_once xs first end None (Some m) p q = p.only m.cell m.value q.found.0 q.found.1.0 q.found.1.1
line_once xs first end None None p q = refl
