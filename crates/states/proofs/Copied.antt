-- The two loops that copy a state, out of bytes and back: to store what is left, over what stands there now, leaves what all of it leaves.
-- Assumes nothing.
use Rattle.std.proofs.Common.{◌≡◌, ℕ, ◌+◌, ◌/◌, ◌<◌, ◌≤◌, List, [], ◌++◌, length, get_or, drop, set, sym, ap, ◌∙◌, append-nil, add-one, arith, drop_of_length-le, take_all, drop-cons}
use lib.Seq.{sets, slice, slice_empty}
use Rattle.laws.specs.Lists.{over}
use Rattle.laws.proofs.Stores.{sets_over}
use Rattle.meaning.specs.Words.{bytes_of}
use Rattle.words.specs.Stores.{put_words}
use Rattle.words.proofs.Stores.{put_none, put_over}

-- ---- over a list of the same length

-- what is left of s from place i on, stored over d, leaves s
abbrev pub Leaves : List ℕ → List ℕ → ℕ → Type 0
Leaves s d i = sets d i (drop i s) ≡ s

pub at_first : (s d : List ℕ) → length s ≡ length d → Leaves s d 0
at_first s d e =
    let full : length d ≤ length s = omega arith in
    sets_over s d (omega arith) ∙ ap (λ (x : List ℕ). s ++ x) (drop_of_length-le d full) ∙ append-nil s

pub one_copied : (s d : List ℕ) (i v : ℕ) → i < length s → v ≡ get_or s i 0 → Leaves s d i → Leaves s (set d i v) (i + 1)
one_copied s d i v l e inv = rw (add-one i, e) (sym (ap (sets d i) (drop-cons s i 0 l)) ∙ inv)

pub all_copied : (s d : List ℕ) (i : ℕ) → length s ≤ i → Leaves s d i → d ≡ s
all_copied s d i l inv = let none : drop i s ≡ [] = drop_of_length-le s l in sym (ap (sets d i) none) ∙ inv

-- ---- n words over the front of bytes; a turn of it is `word_stored`

pub before_stores : (s b : List ℕ) (n : ℕ) → length s ≡ n → n ≤ length b / 4 → put_words b 0 (slice 0 n s) ≡ over (bytes_of s) b
before_stores s b n e room = rw (take_all n s (omega arith)) (put_over s b (omega arith))

pub all_stored : (s b done : List ℕ) (n i : ℕ) → i ≡ n → put_words b i (slice i n s) ≡ done → b ≡ done
all_stored s b done n i e inv = let none : slice i n s ≡ [] = rw e (slice_empty n s) in sym (ap (put_words b i) none ∙ put_none b i) ∙ inv
