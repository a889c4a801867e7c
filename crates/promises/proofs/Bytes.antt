-- What a call leaves in a buffer of bytes, of any length, is, as words, what it leaves of the buffer's words.
-- Assumes nothing.
use mathlib.Core.Path.{◌≡◌, refl, ◌∙◌}
use mathlib.Core.Bool.{Bool, true, false, cond}
use mathlib.Core.List.{List, [], ◌∷◌}
use Prim.Native.Nat.{ℕ}
use native.Mathlib.Omega.{arith}
use borrow.Author.Tests.{eqb-true}
use lib.Dec.{eqb}
use Rattle.laws.specs.Lists.{All, over}
use Rattle.meaning.specs.Words.{Byte, Word, words_of, bytes_of}
use Rattle.meaning.specs.Grants.{terms_of}
use Rattle.meaning.specs.Answers.{success, settle}
use Rattle.meaning.specs.Reader.{read_answer, read_leaves}
use Rattle.meaning.proofs.Exactly.{accepted_cut}
use Rattle.meaning.proofs.Exported.{words_small, left_small, words_over}
use Rattle.irangelda.proofs.Buffers.{over_all, length_leaves}

-- the bytes of words are bytes
pub bytes_small : (ws : List ℕ) → All Byte (bytes_of ws)
bytes_small [] = tt
bytes_small (w ∷ ws) = (omega arith, (omega arith, (omega arith, (omega arith, bytes_small ws))))

-- what an accepted batch leaves is words of 32 bits
accepted_small : (a b c : List ℕ) → All Byte a → All Byte c → (read_answer (words_of a) (words_of b) (words_of c)).reason ≡ 0 → All Word (read_leaves (words_of a) (words_of b) (words_of c))
unfolding read_leaves
accepted_small a b c x z e =
    rw e (left_small (words_of a) (words_of c) (terms_of (words_of b)) (accepted_cut (words_of a) (words_of b) (words_of c) e) (words_small a x) (words_small c z))

-- what is left where the batch is not accepted
refused_leaves : (batch grants st : List ℕ) (b : Bool) → eqb (read_answer batch grants st).reason success ≡ b → b ≡ false → st ≡ read_leaves batch grants st
unfolding read_leaves
refused_leaves batch grants st b e f = rw (e, f)

-- the reader's
pub read_leaves_lem : (a b c : List ℕ) → All Byte a → All Byte c
    → words_of (settle (read_answer (words_of a) (words_of b) (words_of c)) (over (bytes_of (read_leaves (words_of a) (words_of b) (words_of c))) c) c) ≡ read_leaves (words_of a) (words_of b) (words_of c)
read_leaves_lem a b c x z = by (eqb (read_answer (words_of a) (words_of b) (words_of c)).reason success) refl
  where
    by : (t : Bool) → eqb (read_answer (words_of a) (words_of b) (words_of c)).reason success ≡ t
        → words_of (cond t (over (bytes_of (read_leaves (words_of a) (words_of b) (words_of c))) c) c) ≡ read_leaves (words_of a) (words_of b) (words_of c)
    by true e =
        words_over (read_leaves (words_of a) (words_of b) (words_of c)) c (accepted_small a b c x z (eqb-true _ 0 e))
        ∙ over_all (read_leaves (words_of a) (words_of b) (words_of c)) (words_of c) (length_leaves (words_of a) (words_of b) (words_of c))
    by false e = refused_leaves (words_of a) (words_of b) (words_of c) false e refl
