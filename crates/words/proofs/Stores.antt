-- Words stored in bytes: one run after another, a word before a run, over the front of a buffer; and what is stored one by one in a loop.
-- Assumes nothing.
use mathlib.Core.Path.{◌≡◌, refl, sym, ap, ◌∙◌}
use mathlib.Core.List.{List, [], ◌∷◌, ◌++◌}
use Prim.Native.Nat.{ℕ, zero, suc, ◌+◌, ◌*◌, ◌/◌, ◌≤◌, ◌<◌}
use native.Mathlib.Omega.{arith}
use native.Mathlib.Numerals.{add-one}
use lib.ListN.{length, get_or, set}
use lib.Seq.{sets, length-sets, slice, slice-cons}
use Rattle.laws.specs.Lists.{over}
use Rattle.laws.proofs.Stores.{sets_behind, sets_over}
use Rattle.meaning.specs.Words.{bytes_of}
use Rattle.meaning.proofs.Bytes.{length_bytes}
use Rattle.words.specs.Stores.{put_words}

-- no words change nothing
pub put_none : (b : List ℕ) (at : ℕ) → put_words b at [] ≡ b
unfolding put_words
put_none b at = refl

-- stores keep the length
pub length_put : (b : List ℕ) (at : ℕ) (ws : List ℕ) → length (put_words b at ws) ≡ length b
unfolding put_words
length_put b at ws = length-sets b (at * 4) (bytes_of ws)

-- the bytes of words after words
bytes_append : (u v : List ℕ) → bytes_of (u ++ v) ≡ bytes_of u ++ bytes_of v
bytes_append [] v = refl
bytes_append (w ∷ u) v = ap (λ (l : List ℕ). get_or (bytes_of (w ∷ [])) 0 0 ∷ get_or (bytes_of (w ∷ [])) 1 0 ∷ get_or (bytes_of (w ∷ [])) 2 0 ∷ get_or (bytes_of (w ∷ [])) 3 0 ∷ l) (bytes_append u v)

-- a second run that starts where the first ends makes one run with it
pub put_append : (b : List ℕ) (at : ℕ) (u v : List ℕ) → put_words (put_words b at u) (at + length u) v ≡ put_words b at (u ++ v)
unfolding put_words
put_append b at u v =
    sets_behind b (at * 4) ((at + length u) * 4) (bytes_of u) (bytes_of v) (omega (arith, length_bytes u))
    ∙ ap (sets b (at * 4)) (sym (bytes_append u v))

-- ---- stores at different places

-- two stores, either way round
set_swap : (l : List ℕ) (i j x y : ℕ) → i < j → set (set l j y) i x ≡ set (set l i x) j y
set_swap [] i j x y h = refl
set_swap (a ∷ l) zero zero x y h = absurd (omega arith)
set_swap (a ∷ l) zero (suc j) x y h = refl
set_swap (a ∷ l) (suc i) zero x y h = absurd (omega arith)
set_swap (a ∷ l) (suc i) (suc j) x y h = ap (λ (r : List ℕ). a ∷ r) (set_swap l i j x y (omega arith))

-- a store before a run of stores, either way round
set_before : (l : List ℕ) (i j x : ℕ) (vs : List ℕ) → i < j → set (sets l j vs) i x ≡ sets (set l i x) j vs
set_before l i j x [] h = refl
set_before l i j x (v ∷ vs) h = set_before (set l j v) i (suc j) x vs (omega arith) ∙ ap (λ (r : List ℕ). sets r (suc j) vs) (set_swap l i j x v h)

-- a run of stores before another
sets_before : (l : List ℕ) (i j : ℕ) (us vs : List ℕ) → i + length us ≤ j → sets (sets l j vs) i us ≡ sets (sets l i us) j vs
sets_before l i j [] vs h = refl
sets_before l i j (u ∷ us) vs h = ap (λ (r : List ℕ). sets r (suc i) us) (set_before l i j u vs (omega arith)) ∙ sets_before (set l i u) (suc i) j us vs (omega arith)

pub put_before : (b : List ℕ) (i j : ℕ) (us vs : List ℕ) → i + length us ≤ j → put_words (put_words b j vs) i us ≡ put_words (put_words b i us) j vs
unfolding put_words
put_before b i j us vs h = sets_before b (i * 4) (j * 4) (bytes_of us) (bytes_of vs) (omega (arith, length_bytes us))

-- ---- from the front on

-- where there is room, the words' bytes stand over the front
pub put_over : (ws b : List ℕ) → length ws ≤ length b / 4 → put_words b 0 ws ≡ over (bytes_of ws) b
unfolding put_words
put_over ws b room = sets_over (bytes_of ws) b (omega (arith, length_bytes ws))

-- a loop that stores the words of a list one after another: to store what is left is to store all
pub word_stored : (s b done : List ℕ) (n i : ℕ) → i < n → n ≤ length s → put_words b i (slice i n s) ≡ done
    → put_words (put_words b i (get_or s i 0 ∷ [])) (i + 1) (slice (i + 1) n s) ≡ done
word_stored s b done n i l h inv =
    rw (add-one i) (ap (λ (k : ℕ). put_words (put_words b i (get_or s i 0 ∷ [])) k (slice (suc i) n s)) (sym (add-one i))
    ∙ put_append b i (get_or s i 0 ∷ []) (slice (suc i) n s) ∙ sym (ap (put_words b i) (slice-cons i n s 0 l h)) ∙ inv)
