-- A stretch of words of one packet's body: what stands after it, and what it writes.
-- Assumes nothing.
use mathlib.Core.Path.{◌≡◌, sym, ap, ◌∙◌}
use mathlib.Core.List.{List, [], ◌∷◌, ◌++◌, append_assoc}
use Prim.Native.Nat.{ℕ, zero, suc, ◌-◌, ◌≤◌, ◌<◌, ◌^◌}
use native.Mathlib.Omega.{arith}
use borrow.Author.Tests.{eq-eqb, ne_eqb}
use lib.ListN.{length}
use Rattle.meaning.specs.declared.Kind.{Kind}
use Rattle.meaning.specs.declared.Kind.TheVariants.{Setting, Video}
use Rattle.meaning.specs.Words.{count, offset}
use Rattle.meaning.specs.Batch.{offset_3d}
use Rattle.meaning.specs.State.{Write, write_to}
use Rattle.meaning.specs.Positions.{kind_of, after, next_kind, next_left, goes, carries, write_at, writes_in, writes_from}

-- the kind of the next word, after words of a packet's body
unfoldable pub after_all : Kind → List ℕ → Kind
after_all kind [] = kind
after_all kind (w ∷ ws) = after_all (after kind w) ws

-- the writes of a stretch, then of what follows it
pub stretch_writes : (kind : Kind) (k : ℕ) (xs ys : List ℕ) → length xs ≤ k
    → writes_from kind k (xs ++ ys) ≡ writes_in kind xs ++ writes_from (after_all kind xs) (k - length xs) ys
unfolding writes_from writes_in write_at next_kind next_left after_all
stretch_writes kind k [] ys l = ap (λ (n : ℕ). writes_from kind n ys) (omega arith)
stretch_writes kind zero (x ∷ xs) ys l = absurd (omega arith)
stretch_writes kind (suc k) (x ∷ xs) ys l =
    ap (λ (m : List Write). write_to (goes kind x) (carries kind x) ++ m)
    (stretch_writes (after kind x) k xs ys (omega arith)
    ∙ ap (λ (n : ℕ). writes_in (after kind x) xs ++ writes_from (after_all (after kind x) xs) n ys) (omega arith))
    ∙ sym (append_assoc (write_to (goes kind x) (carries kind x)) _ _)

-- ---- what is read of a header

-- the kind of a packet's first word, from the offset that is read of its header
pub kind_3d : (h : ℕ) {o : ℕ} → o ≡ offset h → o ≡ offset_3d → kind_of h ≡ Setting
unfolding kind_of
kind_3d h e z = rw (eq-eqb (offset h) offset_3d (sym e ∙ z))

pub kind_video : (h : ℕ) {o : ℕ} → o ≡ offset h → (o ≡ offset_3d → ⊥) → kind_of h ≡ Video (record { 0 = o })
unfolding kind_of
kind_video h e n = rw (ne_eqb (offset h) offset_3d (λ z. n (e ∙ z))) (ap (λ (x : ℕ). Video (record { 0 = x })) (sym e))

-- an offset has 16 bits, and a count
pub offset_small : (h : ℕ) {o : ℕ} → o ≡ offset h → o < 2 ^ 16
unfolding offset
offset_small h e = omega arith

pub count_small : (h : ℕ) {n : ℕ} → n ≡ count h → n < 2 ^ 16
unfolding count
count_small h e = omega arith
