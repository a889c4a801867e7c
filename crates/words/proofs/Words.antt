-- A word at a place: the four bytes that it is read from, and the four that it is stored in.
-- Assumes nothing.
use mathlib.Core.Path.{◌≡◌, refl, ap}
use mathlib.Core.List.{List, [], ◌∷◌}
use Prim.Native.Nat.{ℕ, zero, suc, ◌+◌, ◌*◌, ◌≤◌}
use native.Mathlib.Omega.{arith}
use lib.ListN.{length, get_or, set}
use lib.Seq.{sets}
use Rattle.meaning.specs.Words.{Word, word_of, words_of, bytes_of}
use Rattle.meaning.proofs.Bytes.{words_bytes}

-- the bytes of the next word lie four places on
pub four_on : (k : ℕ) → suc k * 4 ≡ suc (suc (suc (suc (k * 4))))
four_on k = omega arith

-- the same of the byte j of that word
four_on_by : (k j : ℕ) → suc k * 4 + j ≡ suc (suc (suc (suc (k * 4 + j))))
four_on_by k j = omega arith

-- a word that is read
pub word_at : (l : List ℕ) (i : ℕ) → i * 4 + 4 ≤ length l
    → get_or (words_of l) i 0 ≡ word_of (get_or l (i * 4) 0) (get_or l (i * 4 + 1) 0) (get_or l (i * 4 + 2) 0) (get_or l (i * 4 + 3) 0)
word_at [] i h = absurd (omega arith)
word_at (a ∷ []) i h = absurd (omega arith)
word_at (a ∷ b ∷ []) i h = absurd (omega arith)
word_at (a ∷ b ∷ c ∷ []) i h = absurd (omega arith)
word_at (a ∷ b ∷ c ∷ d ∷ l) zero h = refl
word_at (a ∷ b ∷ c ∷ d ∷ l) (suc k) h = rw (four_on_by k 1, four_on_by k 2, four_on_by k 3, four_on k) (word_at l k (omega arith))

-- a word that is stored
pub words_set : (l : List ℕ) (i w : ℕ) → i * 4 + 4 ≤ length l → Word w → words_of (sets l (i * 4) (bytes_of (w ∷ []))) ≡ set (words_of l) i w
words_set [] i w h f = absurd (omega arith)
words_set (a ∷ []) i w h f = absurd (omega arith)
words_set (a ∷ b ∷ []) i w h f = absurd (omega arith)
words_set (a ∷ b ∷ c ∷ []) i w h f = absurd (omega arith)
words_set (a ∷ b ∷ c ∷ d ∷ l) zero w h f = ap (λ (x : List ℕ). get_or x 0 0 ∷ words_of l) (words_bytes (w ∷ []) (f, tt))
words_set (a ∷ b ∷ c ∷ d ∷ l) (suc k) w h f = rw (four_on k) (ap (λ (x : List ℕ). word_of a b c d ∷ x) (words_set l k w (omega arith) f))
