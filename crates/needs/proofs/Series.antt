-- The need of a packet, of a series group by group, and of the table's sections series by series.
-- Assumes nothing.
use mathlib.Core.Path.{◌≡◌, refl, ap, ap₂, ◌∙◌}
use mathlib.Core.Bool.{Bool}
use mathlib.Core.List.{List, [], ◌∷◌, ◌++◌, map}
use Prim.Native.Nat.{ℕ, zero, suc, ◌+◌, ◌*◌, ◌-◌, ◌≤◌, ◌<◌}
use native.Mathlib.Omega.{arith}
use native.Mathlib.Nat.{add-zero, mul-suc}
use lib.ListN.{length}
use Rattle.laws.specs.Lists.{from}
use Rattle.meaning.specs.declared.Cell.{Cell}
use Rattle.meaning.specs.declared.VideoOffset.{VideoOffset}
use Rattle.meaning.specs.Registers.{first_video, end_video, Row, Group, Section, of_3d, of_video, target_group, stage, sample, overlay, scaler, sections_3d, sections_video, stage_section, sample_section, sections}
use Rattle.meaning.specs.State.{count_in}
use Rattle.meaning.specs.Writer.{packet_need, need_in, need_among, need_for}
use Rattle.meaning.proofs.Table.{Sections, rows_in, rows_among, table}
use Rattle.meaning.proofs.Writing.{count_add, count_3d, count_video}
use Rattle.needs.specs.Series.{series_need}

-- ---- a packet

pub need_none : (n : ℕ) → n ≡ 0 → 0 ≡ packet_need n
unfolding packet_need
need_none n e = rw e

pub need_some : (n : ℕ) → (n ≡ 0 → ⊥) → n + 2 ≡ packet_need n
unfolding packet_need
need_some zero p = absurd (p refl)
need_some (suc n) p = omega arith

pub need_few : (n : ℕ) → packet_need n ≤ n + 2
unfolding packet_need
need_few zero = omega arith
need_few (suc n) = omega arith

-- the sections that begin a list of them, and those that go on
split : (i : ℕ) (ss ts : List Section) → Sections i (ss ++ ts) → Sections i ss × Sections (i + rows_among ss) ts
unfolding rows_among
split i [] ts a = (tt, rw (add-zero i) a)
split i (s ∷ ss) ts a =
    let more = split (i + rows_in s) ss ts a.1 in
    let there : i + rows_in s + rows_among ss ≡ i + (rows_in s + rows_among ss) = omega arith in
    ((a.0, more.0), rw there at more.1)

module _ (chosen : Cell → Bool) where
  -- ---- a series, one group after another

  pub series_next : (first rows i last : ℕ) → i < last
      → series_need chosen first rows i (last - i) ≡ packet_need (count_in chosen (first + rows * i) rows) + series_need chosen first rows (i + 1) (last - (i + 1))
  unfolding series_need
  series_next first rows i last l =
      let e : last - i ≡ suc (last - suc i) = omega arith in
      let s : i + 1 ≡ suc i = omega arith in
      rw (e, s)

  pub series_none : (first rows i n : ℕ) → n ≡ 0 → series_need chosen first rows i n ≡ 0
  unfolding series_need
  series_none first rows i n e = rw e

  -- ---- sections

  both : (ss ts : List Section) → need_among chosen (ss ++ ts) ≡ need_among chosen ss + need_among chosen ts
  unfolding need_among
  both [] ts = omega arith
  both (s ∷ ss) ts = omega (arith, both ss ts)

  -- groups of so many rows each that follow one another in the table
  series : (f : ℕ → Group) (first rows : ℕ) → ((k : ℕ) → length (f k).rows ≡ rows) → (i n : ℕ)
      → Sections (first + rows * i) (map (λ k. of_3d (f k)) (from i n)) → need_among chosen (map (λ k. of_3d (f k)) (from i n)) ≡ series_need chosen first rows i n
  unfolding from need_among series_need
  series f first rows long i zero a = refl
  series f first rows long i (suc n) a =
      let next : first + rows * i + rows_in (of_3d (f i)) ≡ first + rows * suc i = omega (arith, long i, mul-suc rows i) in
      let here = count_3d chosen (first + rows * i) (f i) a.0 ∙ ap (count_in chosen (first + rows * i)) (long i) in
      ap₂ (λ (x y : ℕ). x + y) (ap packet_need here) (series f first rows long (suc i) n (rw next at a.1))

  -- rows of video registers that follow one another
  videos : (i : ℕ) (rss : List (List (Row VideoOffset))) → Sections i (map of_video rss) → need_among chosen (map of_video rss) ≡ 2 * count_in chosen i (rows_among (map of_video rss))
  unfolding need_among rows_among count_in
  videos i [] a = refl
  videos i (rs ∷ rss) a =
      omega (
        arith,
        count_video chosen i rs a.0,
        videos (i + length rs) rss a.1,
        count_add chosen i (length rs) (rows_among (map of_video rss)),
      )

-- ---- the table's sections

-- of 3D registers, of which the target's is the first, and of video registers
parts : Sections 0 sections_3d × Sections first_video sections_video
unfolding sections rows_among target_group stage sample from
parts = split 0 sections_3d sections_video table

-- the stages and the samples
groups : Sections 4 (map stage_section (from 0 16)) × Sections 36 (map sample_section (from 0 16))
unfolding rows_among target_group stage from
groups = split 4 (map stage_section (from 0 16)) (map sample_section (from 0 16)) parts.0.1

module _ (chosen : Cell → Bool) where
  target_need : need_in chosen (of_3d target_group) ≡ series_need chosen 0 4 0 1
  unfolding need_among from target_group
  target_need = omega (arith, series chosen (λ k. target_group) 0 4 (λ k. refl) 0 1 (parts.0.0, tt))

  stages_need : need_among chosen (map stage_section (from 0 16)) ≡ series_need chosen 4 2 0 16
  unfolding stage
  stages_need = series chosen stage 4 2 (λ k. refl) 0 16 groups.0

  samples_need : need_among chosen (map sample_section (from 0 16)) ≡ series_need chosen 36 3 0 16
  unfolding sample
  samples_need = series chosen sample 36 3 (λ k. refl) 0 16 groups.1

  pub need_3d : need_among chosen sections_3d ≡ series_need chosen 0 4 0 1 + series_need chosen 4 2 0 16 + series_need chosen 36 3 0 16
  unfolding need_among
  need_3d = omega (arith, target_need, both chosen (map stage_section (from 0 16)) (map sample_section (from 0 16)), stages_need, samples_need)

  video_need : need_among chosen sections_video ≡ 2 * count_in chosen first_video (end_video - first_video)
  unfolding rows_among overlay scaler
  video_need = videos chosen first_video (overlay ∷ scaler 87 0x2000 2 ∷ scaler 94 0x3000 3 ∷ []) parts.1

  pub need_all : need_for chosen ≡ need_among chosen sections_3d + 2 * count_in chosen first_video (end_video - first_video)
  unfolding need_for sections
  need_all = both chosen sections_3d sections_video ∙ ap (λ (n : ℕ). need_among chosen sections_3d + n) video_need
