-- Four bytes and the word that they are; words one behind the other.
-- Assumes nothing.
use mathlib.Core.Path.{◌≡◌, refl, sym, ap, ◌∙◌}
use mathlib.Core.List.{List, [], ◌∷◌}
use Prim.Native.Nat.{ℕ, suc, ◌+◌, ◌≤◌, ◌<◌}
use native.Mathlib.Omega.{arith}
use lib.ListN.{length, take, drop, get_or}
use lib.Seq.{drop-cons, drop-drop, take-add}
use Rattle.laws.specs.Lists.{All}
use Rattle.meaning.specs.Words.{Byte, Word, word_of, words_of, bytes_of}
use Rattle.meaning.proofs.Bytes.{words_bytes, bytes_words}
use Rattle.line_reader.specs.Read.{Four}

cut : (t : List ℕ) (at i : ℕ) → at + i < length t → drop (at + i) t ≡ get_or t (at + i) 0 ∷ drop (at + suc i) t
cut t at i l = let e : at + suc i ≡ suc (at + i) = omega arith in drop-cons t (at + i) 0 l ∙ rw e

module _ (t : List ℕ) (at : ℕ) (l : at + 4 ≤ length t) where
  abbrev byte : ℕ → ℕ
  byte i = get_or t (at + i) 0

  front : take 4 (drop at t) ≡ get_or t at 0 ∷ byte 1 ∷ byte 2 ∷ byte 3 ∷ []
  front =
      let z : at + 0 ≡ at = omega arith in
      let a : drop at t ≡ get_or t at 0 ∷ drop (at + 1) t = rw z at (cut t at 0 (omega arith)) in
      rw (a, cut t at 1 (omega arith), cut t at 2 (omega arith), cut t at 3 (omega arith))

  pub four_of : {w : ℕ} → Byte (get_or t at 0) → Byte (byte 1) → Byte (byte 2) → Byte (byte 3) → w ≡ word_of (get_or t at 0) (byte 1) (byte 2) (byte 3) → Four t at w
  four_of a b c d e =
      record {
        word = omega arith;
        same = front ∙ sym (bytes_words (get_or t at 0 ∷ byte 1 ∷ byte 2 ∷ byte 3 ∷ []) (a, (b, (c, (d, tt)))) refl) ∙ ap (λ (x : ℕ). bytes_of (x ∷ [])) (sym e);
      }

-- words of the same bytes are the same
pub bytes_once : (us vs : List ℕ) → All Word us → All Word vs → bytes_of us ≡ bytes_of vs → us ≡ vs
bytes_once us vs a b e = sym (words_bytes us a) ∙ ap words_of e ∙ words_bytes vs b

-- a word further on is one of what is left
pub four_on : (t : List ℕ) (at n : ℕ) {w : ℕ} → Four t (at + n) w → take 4 (drop n (drop at t)) ≡ bytes_of (w ∷ [])
four_on t at n f = ap (take 4) (drop-drop n at t) ∙ f.same

pub two_words : (xs : List ℕ) (a b : ℕ) → take 4 xs ≡ bytes_of (a ∷ []) → take 4 (drop 4 xs) ≡ bytes_of (b ∷ []) → take 8 xs ≡ bytes_of (a ∷ b ∷ [])
two_words xs a b p q = take-add 4 4 xs ∙ rw (p, q)

pub three_words : (xs : List ℕ) (a b c : ℕ) → take 4 xs ≡ bytes_of (a ∷ []) → take 4 (drop 4 xs) ≡ bytes_of (b ∷ []) → take 4 (drop 8 xs) ≡ bytes_of (c ∷ [])
    → take 12 xs ≡ bytes_of (a ∷ b ∷ c ∷ [])
three_words xs a b c p q r = take-add 8 4 xs ∙ rw (two_words xs a b p q, r)
