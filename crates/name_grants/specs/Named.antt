-- What the program writes: P10 "the reader's answer", and behind an accepted batch P10 "the place of the query's answer for each marked cell"
-- and P10 "the listing of the state".
-- Assumes nothing.
use Rattle.std.specs.Prelude.{cond, List, [], ◌∷◌, ◌++◌, ℕ, zero, suc, ◌+◌, eqb, get_or, take, drop}
use Rattle.meaning.specs.Words.{words_of, bytes_of}
use Rattle.meaning.specs.Registers.{cells, cell}
use Rattle.meaning.specs.State.{marked, empty}
use Rattle.meaning.specs.Answers.{Answer, success, number_of}
use Rattle.meaning.specs.Writer.{if_so}
use Rattle.meaning.specs.Lister.{most_listed, listing}
use Rattle.meaning.specs.Exported.{exported_read, exported_read_leaves, exported_which_grant}

-- ---- the input

-- P10 "a word, which is the length of a grant list in bytes"; 0 where there is no such word
unfoldable pub grant_length : List ℕ → ℕ
grant_length input = get_or (words_of input) 0 0

-- P10 "then that list"
unfoldable pub grants_in : List ℕ → List ℕ
grants_in input = take (grant_length input) (drop 4 input)

-- P10 "and then a batch"
unfoldable pub batch_in : List ℕ → List ℕ
batch_in input = drop (grant_length input) (drop 4 input)

-- ---- of a grant list and a batch

-- P10 "the empty one"
unfoldable pub empty_bytes : List ℕ
empty_bytes = bytes_of empty

-- P10 "the reader's answer": as a C call gives it
unfoldable pub answered : List ℕ → List ℕ → Answer
answered grants batch = exported_read batch grants empty_bytes

-- P10 "the state that this batch makes of the empty one under these grants": its bytes
unfoldable pub state_left : List ℕ → List ℕ → List ℕ
state_left grants batch = exported_read_leaves batch grants empty_bytes

-- P10 "the place of the query's answer for each marked cell, in the order of the cells, in one byte": of the n cells from cell i on
unfoldable pub grant_places : List ℕ → List ℕ → ℕ → ℕ → List ℕ
grant_places st grants i zero = []
grant_places st grants i (suc n) = if_so (marked (words_of st) (cell i)) (exported_which_grant st grants (cell i)).place (grant_places st grants (suc i) n)

-- of a state that a batch left
unfoldable pub told : List ℕ → List ℕ → List ℕ
told st grants = grant_places st grants 0 cells ++ listing (words_of st)

-- ---- what is written

-- P10 "in one word", and P10 "if that is success" what is told of the state
unfoldable pub named : List ℕ → List ℕ → List ℕ
named grants batch = bytes_of (number_of (answered grants batch) ∷ []) ++ cond (eqb (answered grants batch).reason success) (told (state_left grants batch) grants) []

-- how much room it needs: a word, a byte for each cell, and a listing
abbrev pub most_named : ℕ
most_named = 4 + cells + most_listed
