-- The words of the video cells as they are emitted are those of the table's video sections; with the 3D groups' they are all.
-- Assumes nothing.
use mathlib.Core.Path.{◌≡◌, refl, sym, ap, ap₂, ◌∙◌}
use mathlib.Core.Bool.{Bool}
use mathlib.Core.List.{List, [], ◌∷◌, ◌++◌, map, map-append}
use Prim.Native.Nat.{ℕ, ◌+◌, ◌-◌, ◌≤◌, ◌<◌}
use native.Mathlib.Omega.{arith}
use lib.Dec.{T, ltb}
use lib.ListN.{length, length-append}
use mir.Facts.{ltb_yes}
use Rattle.laws.specs.Lists.{join, every, from}
use Rattle.laws.proofs.Lists.{join_append, every_from}
use Rattle.meaning.specs.declared.Cell.{Cell}
use Rattle.meaning.specs.declared.VideoOffset.{VideoOffset}
use Rattle.meaning.specs.Registers.{cell, first_video, end_video, Row, of_video, overlay, scaler, sections_3d, sections_video, sections}
use Rattle.meaning.specs.State.{value_at, mark_at, marked}
use Rattle.meaning.specs.Writer.{header_word, if_so, packets_video, packets_among, words_for, written}
use Rattle.meaning.proofs.Writing.{so_append}
use Rattle.registers.specs.Names.{offset_of}
use Rattle.emitter_3d.specs.Emitted.{words_of_sections}
use Rattle.emitter_3d.proofs.Cells.{so_marked}
use Rattle.emitter_3d.proofs.Runs.{in_row}
use Rattle.emitter_3d.proofs.Emitted.{both}
use Rattle.emitter.specs.Videos.{video_words}

-- ---- one cell, by its mark

module _ (st : List ℕ) (c : Cell) where
  pub video_none : mark_at st c ≡ 0 → video_words st c.0 ≡ []
  unfolding video_words
  video_none e = rw e

  pub video_one : (mark_at st c ≡ 0 → ⊥) → video_words st c.0 ≡ header_word 1 (offset_of c).0 ∷ value_at st c ∷ []
  unfolding video_words
  video_one n = ap join (so_marked (mark_at st c) _ n)

-- an offset fits its field of a header
short : ℕ → Bool
short c = ltb (offset_of (cell c)).0 65536

tested_short : T (every short (from first_video (end_video - first_video)))
unfolding every from short offset_of
tested_short = tt

pub offset_short : (c : Cell) → first_video ≤ c.0 → c.0 < end_video → (offset_of c).0 < 65536
unfolding short
offset_short c l h = ltb_yes (every_from short first_video (end_video - first_video) tested_short c.0 l (omega arith))

module _ (st : List ℕ) where
  -- ---- rows of video registers

  abbrev video_rows : List (List (Row VideoOffset))
  video_rows = overlay ∷ scaler 87 0x2000 2 ∷ scaler 94 0x3000 3 ∷ []

  -- the words of one of them
  abbrev of_row : Row VideoOffset → List ℕ
  of_row r = join (if_so (marked st r.cell) (header_word 1 r.name.0 ∷ value_at st r.cell ∷ []) [])

  row_words : (rs : List (Row VideoOffset)) → join (packets_video (marked st) st rs) ≡ join (map of_row rs)
  unfolding packets_video
  row_words [] = refl
  row_words (r ∷ rs) =
      ap join (sym (so_append (marked st r.cell) (header_word 1 r.name.0 ∷ value_at st r.cell ∷ []) [] (packets_video (marked st) st rs)))
      ∙ join_append (if_so (marked st r.cell) _ []) (packets_video (marked st) st rs)
      ∙ ap (λ (more : List ℕ). of_row r ++ more) (row_words rs)

  rows_words : (rss : List (List (Row VideoOffset))) → words_of_sections st (map of_video rss) ≡ join (map of_row (join rss))
  unfolding packets_among
  rows_words [] = refl
  rows_words (rs ∷ rss) =
      join_append (packets_video (marked st) st rs) (packets_among (marked st) st (map of_video rss))
      ∙ ap₂ (λ (a b : List ℕ). a ++ b) (row_words rs) (rows_words rss)
      ∙ sym (ap join (map-append of_row rs (join rss)) ∙ join_append (map of_row rs) (map of_row (join rss)))

  -- each bears the offset of its cell
  tabled : join (map of_row (join video_rows)) ≡ in_row (video_words st) first_video (end_video - first_video)
  unfolding in_row video_words offset_of overlay scaler
  tabled = refl

  pub video_row : words_of_sections st sections_video ≡ in_row (video_words st) first_video (end_video - first_video)
  video_row = rows_words video_rows ∙ tabled

  -- ---- the table's two parts

  pub written_parts : written st ≡ words_of_sections st sections_3d ++ words_of_sections st sections_video
  unfolding written words_for sections
  written_parts = both st sections_3d sections_video

  pub written_length : length (written st) ≡ length (words_of_sections st sections_3d) + length (words_of_sections st sections_video)
  written_length = ap length written_parts ∙ length-append (words_of_sections st sections_3d) (words_of_sections st sections_video)
