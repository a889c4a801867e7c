-- What the program writes: P7 "the listing reader's answer as a C call gives it", then P7 "the writer's answer in the same way, and then the
-- words of the batch if there is one".
-- Assumes nothing.
use Rattle.std.specs.Prelude.{cond, List, [], ◌∷◌, ◌++◌, ℕ, ◌+◌, ◌*◌, eqb, replicate}
use Rattle.meaning.specs.Words.{bits, words_of, bytes_of}
use Rattle.meaning.specs.State.{empty}
use Rattle.meaning.specs.Answers.{Answer, success, number_of}
use Rattle.meaning.specs.Writer.{most_written, written}
use Rattle.meaning.specs.Exported.{exported_write, exported_read_listing, exported_read_listing_leaves}
use Rattle.meaning.specs.Cases.{grant}

-- P7 "in eight bytes, the lowest first"
unfoldable pub number_bytes : ℕ → List ℕ
number_bytes n =
    bits 7 0 n ∷ bits 15 8 n ∷ bits 23 16 n ∷ bits 31 24 n ∷ bits 39 32 n ∷ bits 47 40 n ∷ bits 55 48 n ∷ bits 63 56 n ∷ []

-- ---- the listing reader

-- what the buffer of the state holds before, which does not matter
unfoldable pub empty_bytes : List ℕ
empty_bytes = bytes_of empty

-- P7 "takes a text from standard input, reads it back": the answer,
unfoldable pub answered : List ℕ → Answer
answered text = exported_read_listing text empty_bytes

-- and the bytes of the state
unfoldable pub state_read : List ℕ → List ℕ
state_read text = exported_read_listing_leaves text empty_bytes

-- ---- the writer, on the bytes of a state

-- P7 "under the grant of K1"
abbrev pub k1_grant : List ℕ
k1_grant = bytes_of (grant 0x00080000)

-- room that always suffices
unfoldable pub room_bytes : List ℕ
room_bytes = bytes_of (replicate most_written 0)

-- P7 "has the writer make a batch of the state": the answer
unfoldable pub writer_answered : List ℕ → Answer
writer_answered st = exported_write st k1_grant room_bytes

-- P7 "then the words of the batch if there is one"
unfoldable pub batch_bytes : List ℕ → List ℕ
batch_bytes st = cond (eqb (writer_answered st).reason success) (bytes_of (written (words_of st))) []

-- P7 "the writer's answer in the same way", and the words
unfoldable pub rewritten : List ℕ → List ℕ
rewritten st = number_bytes (number_of (writer_answered st)) ++ batch_bytes st

-- ---- what is written

-- P7 "It writes the listing reader's answer", and P7 "if that is success" what the writer makes of the state
unfoldable pub restored : List ℕ → List ℕ
restored text = number_bytes (number_of (answered text)) ++ cond (eqb (answered text).reason success) (rewritten (state_read text)) []

-- ---- how much room it needs

-- for what the writer makes of a state: a number, and as many words as a state needs
abbrev pub most_rewritten : ℕ
most_rewritten = 8 + most_written * 4

-- and for all of it
abbrev pub most_restored : ℕ
most_restored = 8 + most_rewritten
