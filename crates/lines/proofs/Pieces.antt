-- Texts stored piece by piece, each behind the one before it, are the whole text; and how wide a line is.
-- Assumes nothing.
use mathlib.Core.Path.{◌≡◌, refl, ap, ◌∙◌}
use mathlib.Core.List.{List, ◌++◌}
use Prim.Native.Nat.{ℕ, ◌+◌, ◌/◌}
use native.Mathlib.Numerals.{towards_suc}
use lib.ListN.{length}
use lib.Seq.{sets}
use Rattle.meaning.specs.declared.Cell.{Cell}
use Rattle.meaning.specs.declared.SubAddress.{SubAddress}
use Rattle.meaning.specs.declared.VideoOffset.{VideoOffset}
use Rattle.meaning.specs.Text.{ascii}
use Rattle.meaning.specs.Lister.{hex, line_3d, line_video}
use Rattle.lines.specs.Lines.{value_text, cell_line_3d, cell_line_video}
use Rattle.lines.proofs.Stores.{behind}
use Rattle.lines.proofs.Digits.{four_digits, eight_digits}

module _ (l : List ℕ) (at : ℕ) where
  -- eight digits
  by_pairs : (a b c d : ℕ) → sets (sets (sets (sets l at (hex 2 a)) (at + 2) (hex 2 b)) (at + 4) (hex 2 c)) (at + 6) (hex 2 d) ≡ sets l at (hex 2 a ++ (hex 2 b ++ (hex 2 c ++ hex 2 d)))
  unfolding hex
  by_pairs a b c d = simp towards_suc

  pub word_pieces : (w : ℕ)
      → sets (sets (sets (sets l at (hex 2 (w / 0x1000000))) (at + 2) (hex 2 (w / 0x10000))) (at + 4) (hex 2 (w / 0x100))) (at + 6) (hex 2 w) ≡ sets l at (hex 8 w)
  word_pieces w = by_pairs (w / 0x1000000) (w / 0x10000) (w / 0x100) w ∙ ap (sets l at) (eight_digits w)

  -- the second half of a line
  pub value_pieces : (v : ℕ) → sets (sets (sets l at (ascii " val=")) (at + 5) (hex 8 v)) (at + 13) (ascii "\n") ≡ sets l at (value_text v)
  unfolding hex
  value_pieces v = behind l at (at + 13) (ascii " val=" ++ hex 8 v) (ascii "\n") (behind l at (at + 5) (ascii " val=") (hex 8 v) refl refl) refl

  -- a 3D line
  pub line_3d_pieces : (t u : ℕ) (a : SubAddress) (v : ℕ)
      → sets (sets (sets (sets (sets l at (ascii "reg=")) (at + 4) (hex 2 t ++ ascii ".")) (at + 7) (hex 2 u ++ ascii ".")) (at + 10) (hex 2 a.0)) (at + 12) (value_text v)
      ≡ sets l at (line_3d t u a v)
  unfolding hex
  line_3d_pieces t u a v =
      let type = ascii "reg=" ++ (hex 2 t ++ ascii ".") in
      let both = type ++ (hex 2 u ++ ascii ".") in
      behind l at (at + 12) (both ++ hex 2 a.0) (value_text v)
      (behind l at (at + 10) both (hex 2 a.0)
      (behind l at (at + 7) type (hex 2 u ++ ascii ".")
      (behind l at (at + 4) (ascii "reg=") (hex 2 t ++ ascii ".") refl refl) refl) refl) refl

  -- a video line
  line_video_by_pairs : (a b : ℕ) (v : ℕ)
      → sets (sets (sets (sets l at (ascii "reg=")) (at + 4) (hex 2 a)) (at + 6) (hex 2 b)) (at + 8) (value_text v)
      ≡ sets l at (ascii "reg=" ++ ((hex 2 a ++ hex 2 b) ++ value_text v))
  unfolding hex
  line_video_by_pairs a b v = simp towards_suc

  pub line_video_pieces : (o : VideoOffset) (v : ℕ)
      → sets (sets (sets (sets l at (ascii "reg=")) (at + 4) (hex 2 (o.0 / 0x100))) (at + 6) (hex 2 o.0)) (at + 8) (value_text v) ≡ sets l at (line_video o v)
  line_video_pieces o v = line_video_by_pairs (o.0 / 0x100) o.0 v ∙ ap (λ (x : List ℕ). sets l at (ascii "reg=" ++ (x ++ value_text v))) (four_digits o.0)

-- each kind of line has one width
pub wide_3d : (c : Cell) (v : ℕ) → length (cell_line_3d c v) ≡ 26
unfolding hex cell_line_3d
wide_3d c v = refl

pub wide_video : (c : Cell) (v : ℕ) → length (cell_line_video c v) ≡ 22
unfolding hex cell_line_video
wide_video c v = refl
