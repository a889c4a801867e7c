-- Words that go into bytes and come back: what a program that has read a state knows of its bytes.
-- Assumes nothing.
use mathlib.Core.Path.{◌≡◌, refl, sym, ap, ◌∙◌}
use mathlib.Core.List.{List, [], ◌∷◌}
use Prim.Native.Nat.{ℕ, zero, suc, ◌+◌, ◌<◌}
use native.Mathlib.Omega.{arith}
use lib.Dec.{T}
use lib.ListN.{length, get_or}
use Rattle.meaning.specs.Words.{Word, words_of, bytes_of}
use Rattle.meaning.specs.Registers.{cells, cell}
use Rattle.meaning.specs.State.{mark_at, well_formed}
use Rattle.meaning.proofs.Bytes.{words_bytes, length_words, length_bytes}
use Rattle.meaning.proofs.States.{formed_iff}

word_again : (ws : List ℕ) (i : ℕ) → Word (get_or ws i 0) → get_or (words_of (bytes_of ws)) i 0 ≡ get_or ws i 0
word_again [] i l = refl
word_again (w ∷ ws) zero l = ap (λ (x : List ℕ). get_or x 0 0) (words_bytes (w ∷ []) (l, tt))
word_again (w ∷ ws) (suc i) l = word_again ws i l

length_again : (ws : List ℕ) → length (words_of (bytes_of ws)) ≡ length ws
length_again ws = omega (arith, length_words (bytes_of ws), length_bytes ws)

-- a well-formed state is well-formed again: its marks are 0 and 1, and so are words
pub formed_again : (st : List ℕ) → T (well_formed st) → T (well_formed (words_of (bytes_of st)))
formed_again st t =
    let f = (formed_iff st).0 t in
    let same : (c : ℕ) → c < cells → mark_at (words_of (bytes_of st)) (cell c) ≡ mark_at st (cell c) = λ c l. word_again st (cells + c) (omega (arith, f.mark c l)) in
    (formed_iff (words_of (bytes_of st))).1
    (record {
      size = length_again st ∙ f.size;
      mark = λ c l. omega (arith, same c l, f.mark c l);
      clear = λ c l z. let none = f.clear c l (sym (same c l) ∙ z) in word_again st c (omega (arith, none)) ∙ none;
    })
