-- What the program prints: P4 "the listing of the state that this batch makes of the empty one under the grant of K1", or P5 "one line in
-- place of the listing".
-- Assumes nothing.
use Rattle.std.specs.Prelude.{cond, List, [], ◌∷◌, ◌++◌, ℕ, ◌/◌, ◌%◌, leb, eqb}
use Rattle.meaning.specs.Words.{words_of, bytes_of}
use Rattle.meaning.specs.State.{empty}
use Rattle.meaning.specs.Answers.{Answer, success}
use Rattle.meaning.specs.Text.{ascii}
use Rattle.meaning.specs.Lister.{digit, listing}
use Rattle.meaning.specs.Exported.{exported_read, exported_read_leaves}
use Rattle.meaning.specs.Cases.{grant}

-- ---- the line of a refusal

-- the digit that stands for so many units, if the number has as many
unfoldable pub digit_for : ℕ → ℕ → List ℕ
digit_for unit n = cond (leb unit n) (digit (n / unit % 10) ∷ []) []

-- P5 "in decimal without leading zeros": a number below 100,000
unfoldable pub decimal5 : ℕ → List ℕ
decimal5 n = digit_for 10000 n ++ (digit_for 1000 n ++ (digit_for 100 n ++ (digit_for 10 n ++ (digit (n % 10) ∷ []))))

-- P5 "one line .. `reason=` and the reason, ` place=` and the place"
unfoldable pub refusal_line : ℕ → ℕ → List ℕ
refusal_line r p = ascii "reason=" ++ (decimal5 r ++ (ascii " place=" ++ (decimal5 p ++ ascii "\n")))

-- ---- the batch's answer, and the state that it leaves

-- P4 "the grant of K1"
abbrev pub k1_grant : List ℕ
k1_grant = bytes_of (grant 0x00080000)

-- P4 "the empty one"
unfoldable pub empty_bytes : List ℕ
empty_bytes = bytes_of empty

-- P4 "takes a batch from standard input, in the bytes of a C call", P5 "It tells 13 as a C call does.": the answer
unfoldable pub answered : List ℕ → Answer
answered batch = exported_read batch k1_grant empty_bytes

-- and P4 "the state that this batch makes of the empty one"
unfoldable pub state_left : List ℕ → List ℕ
state_left batch = words_of (exported_read_leaves batch k1_grant empty_bytes)

-- ---- what is printed

-- P4 "prints the listing", and P5 "If the batch is refused, the program prints one line in place of the listing"
unfoldable pub printed : List ℕ → List ℕ
printed batch = cond (eqb (answered batch).reason success) (listing (state_left batch)) (refusal_line (answered batch).reason (answered batch).place)
