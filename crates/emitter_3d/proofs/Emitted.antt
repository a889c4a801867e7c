-- The words as they are emitted are the words of the table's sections.
-- Assumes nothing.
use mathlib.Core.Path.{◌≡◌, refl, sym, ap, ap₂, ◌∙◌}
use mathlib.Core.List.{List, [], ◌∷◌, ◌++◌, map, append_assoc}
use Prim.Native.Nat.{ℕ, zero, suc, ◌+◌, ◌*◌, ◌-◌, ◌^◌}
use native.Mathlib.Omega.{arith}
use native.Mathlib.Nat.{add-zero, add-suc}
use lib.ListN.{length}
use Rattle.laws.specs.Lists.{join, from}
use Rattle.laws.proofs.Lists.{join_append}
use Rattle.meaning.specs.declared.SubAddress.{SubAddress}
use Rattle.meaning.specs.Registers.{cell, Row, Group, Section, of_3d, target_group, stage, sample, stage_section, sample_section, sections_3d}
use Rattle.meaning.specs.State.{value_at, marked}
use Rattle.meaning.specs.Writer.{setting_word, parameters, packet_3d_of, packets_in, packets_among}
use Rattle.meaning.proofs.Writing.{so_append}
use Rattle.emitter_3d.specs.Emitted.{words_of_sections, parameter_of, parameters_from, packet_words, target_words, series_from, many}
use Rattle.emitter_3d.proofs.Runs.{in_row}

-- rows whose cells go on from number c, and their sub-addresses from a
abbrev OnFrom : ℕ → ℕ → List (Row SubAddress) → Type 0
OnFrom c a [] = Unit {0}
OnFrom c a (r ∷ rs) = (r.cell ≡ cell c) × (r.name ≡ record { 0 = a }) × OnFrom (suc c) (suc a) rs

module _ (st : List ℕ) where
  -- ---- the rows of a group

  first_parameter : (r : Row SubAddress) (rs : List (Row SubAddress)) → parameters (marked st) st (r ∷ rs) ≡ parameter_of st r.cell r.name ++ parameters (marked st) st rs
  unfolding parameters parameter_of
  first_parameter r rs = sym (so_append (marked st r.cell) (r.name.0 * 2 ^ 24 + value_at st r.cell) [] (parameters (marked st) st rs))

  rows_on : (c a : ℕ) (rs : List (Row SubAddress)) → OnFrom c a rs → parameters (marked st) st rs ≡ parameters_from st c a (length rs)
  unfolding parameters_from parameters
  rows_on c a [] on = refl
  rows_on c a (r ∷ rs) on = first_parameter r rs ∙ rw (on.0, on.1, rows_on (suc c) (suc a) rs on.2)

  target_words_lem : join (packets_in (marked st) st (of_3d target_group)) ≡ target_words st
  unfolding target_words target_group
  target_words_lem = ap (packet_words (setting_word 0x01 0x00)) (first_parameter _ _ ∙ ap (λ (ps : List ℕ). parameter_of st (cell 0) (record { 0 = 0x3F }) ++ ps) (rows_on 1 0x50 _ (refl, refl, (refl, refl, (refl, refl, tt)))))

  -- ---- a series, by what each of its groups emits

  series_words : (f : ℕ → Group) (first rows low sub : ℕ)
      → ((k : ℕ) → packets_in (marked st) st (of_3d (f k)) ≡ packet_3d_of (setting_word 0x02 (sub + k)) (parameters_from st (first + rows * k) low rows))
      → (i n : ℕ) → words_of_sections st (map (λ k. of_3d (f k)) (from i n)) ≡ series_from st first rows low sub i n
  unfolding from packets_among series_from
  series_words f first rows low sub each i zero = refl
  series_words f first rows low sub each i (suc n) =
      join_append (packets_in (marked st) st (of_3d (f i))) (packets_among (marked st) st (map (λ k. of_3d (f k)) (from (suc i) n)))
      ∙ ap₂ (λ (p : List (List ℕ)) (more : List ℕ). join p ++ more) (each i) (series_words f first rows low sub each (suc i) n)

  stages_words : words_of_sections st (map stage_section (from 0 many)) ≡ series_from st 4 2 0x50 0x00 0 many
  unfolding stage
  stages_words =
      series_words stage 4 2 0x50 0x00
      (λ k. ap (packet_3d_of (setting_word 0x02 (0x00 + k))) (rows_on (4 + 2 * k) 0x50 (stage k).rows (refl, refl, (ap cell (omega arith), refl, tt)))) 0 many

  samples_words : words_of_sections st (map sample_section (from 0 many)) ≡ series_from st 36 3 0x30 0x20 0 many
  unfolding sample
  samples_words =
      series_words sample 36 3 0x30 0x20
      (λ k.
      ap (packet_3d_of (setting_word 0x02 (0x20 + k)))
      (rows_on (36 + 3 * k) 0x30 (sample k).rows (refl, refl, (ap cell (omega arith), refl, (ap cell (omega arith), refl, tt))))) 0 many

  -- ---- sections one after another

  packets_append : (ss ts : List Section) → packets_among (marked st) st (ss ++ ts) ≡ packets_among (marked st) st ss ++ packets_among (marked st) st ts
  unfolding packets_among
  packets_append [] ts = refl
  packets_append (s ∷ ss) ts =
      ap (λ (ps : List (List ℕ)). packets_in (marked st) st s ++ ps) (packets_append ss ts)
      ∙ sym (append_assoc (packets_in (marked st) st s) (packets_among (marked st) st ss) (packets_among (marked st) st ts))

  pub both : (ss ts : List Section) → words_of_sections st (ss ++ ts) ≡ words_of_sections st ss ++ words_of_sections st ts
  both ss ts = ap join (packets_append ss ts) ∙ join_append (packets_among (marked st) st ss) (packets_among (marked st) st ts)

  pub words_3d : words_of_sections st sections_3d ≡ target_words st ++ (series_from st 4 2 0x50 0x00 0 many ++ series_from st 36 3 0x30 0x20 0 many)
  unfolding packets_among
  words_3d =
      join_append (packets_in (marked st) st (of_3d target_group)) (packets_among (marked st) st (map stage_section (from 0 many) ++ map sample_section (from 0 many)))
      ∙ ap₂ (λ (a b : List ℕ). a ++ b) target_words_lem
      (both (map stage_section (from 0 many)) (map sample_section (from 0 many)) ∙ ap₂ (λ (a b : List ℕ). a ++ b) stages_words samples_words)

  -- ---- the loops' words, number by number

  -- row k of those from cell c and sub-address a on
  abbrev pub row_at : ℕ → ℕ → ℕ → List ℕ
  row_at c a k = parameter_of st (cell (c + k)) (record { 0 = a + k })

  rows_from : (c a k n : ℕ) → parameters_from st (c + k) (a + k) n ≡ in_row (row_at c a) k n
  unfolding parameters_from in_row
  rows_from c a k zero = refl
  rows_from c a k (suc n) =
      ap (λ (ps : List ℕ). row_at c a k ++ ps) (rw (← add-suc c k, ← add-suc a k) (rows_from c a (suc k) n))

  pub rows_row : (c a n : ℕ) → parameters_from st c a n ≡ in_row (row_at c a) 0 (n - 0)
  rows_row c a n = let all : n - 0 ≡ n = omega arith in rw all (rw (add-zero c, add-zero a) at (rows_from c a 0 n))

  -- group n of a series
  abbrev pub group_at : ℕ → ℕ → ℕ → ℕ → ℕ → List ℕ
  group_at first rows low sub n = packet_words (setting_word 0x02 (sub + n)) (parameters_from st (first + rows * n) low rows)

  pub series_row : (first rows low sub i n : ℕ) → series_from st first rows low sub i n ≡ in_row (group_at first rows low sub) i n
  unfolding series_from in_row
  series_row first rows low sub i zero = refl
  series_row first rows low sub i (suc n) = ap (λ (more : List ℕ). group_at first rows low sub i ++ more) (series_row first rows low sub (suc i) n)
