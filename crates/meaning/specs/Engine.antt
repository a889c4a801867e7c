-- What the engine answers, of the words fed so far. Nothing is said of how it keeps them.
-- P8 "The engine takes a batch word by word."
-- Assumes nothing.
use Rattle.std.specs.Prelude.{Bool, ◌&&◌, cond, List, [], ℕ, leb, length, take}
use Rattle.laws.specs.Tests.{within}
use Rattle.meaning.specs.Grants.{Terms, terms_of, grants_fine}
use Rattle.meaning.specs.State.{well_formed, empty, apply_all}
use Rattle.meaning.specs.Positions.{writes_of}
use Rattle.meaning.specs.Answers.{Answer, bad_state, bad_grants, bad_offset, not_granted, engine_full, success, answer, provided, settle}
use Rattle.meaning.specs.Reader.{batch_answer, paired_answer}

-- ---- words, where opening has answered 0

-- M5 "after 2^32 − 1 words that were all taken"
abbrev pub most_fed : ℕ
most_fed = 4294967295

-- M3 "the reader gives one of 3 to 9"
unfoldable pub word_refused : Answer → Bool
word_refused a = within bad_offset not_granted a.reason

-- M4 "0 at the number of words fed"; M5 "A word that is fed after 2^32 − 1 words that were all taken is given 23 at 2^32 − 1"
unfoldable pub counted : ℕ → Answer
counted n = cond (leb n most_fed) (answer success n) (answer engine_full most_fed)

-- the answer to the last of the words fed. M3 "on the words fed up to and with it"; a word past the last that is taken is not looked at,
-- M5 "whatever it is", A9 "It gives 23 before 3 to 9.". Once the reader has refused a word, words behind it do not move its answer, so that M6 "They .. are given the same
-- answer" is theirs too
unfoldable pub fed_answer : Terms → List ℕ → Answer
fed_answer g ws = cond (word_refused (batch_answer g (take most_fed ws))) (batch_answer g (take most_fed ws)) (counted (length ws))

-- M7 "Closing gives the reader's answer on the words fed", by the state at opening; after more words than it takes, M6 "They and closing are
-- given the same answer."
unfoldable pub closed_answer : Terms → List ℕ → List ℕ → Answer
closed_answer g st ws = cond (leb (length ws) most_fed) (paired_answer g st ws) (fed_answer g ws)

-- ---- the calls

-- a call: opening; feeding the last of these words; closing after these words
pub data Call : Type 0 where
  opening : Call
  feeding : List ℕ → Call
  closing : List ℕ → Call

-- the words fed by then
abbrev pub fed_by : Call → List ℕ
fed_by opening = []
fed_by (feeding ws) = ws
fed_by (closing ws) = ws

-- M1 "Else it answers 0 at 0.", and what the words give
unfoldable pub call_answer : Terms → List ℕ → Call → Answer
call_answer g st opening = answer success 0
call_answer g st (feeding ws) = fed_answer g ws
call_answer g st (closing ws) = closed_answer g st ws

-- M1 "Opening gives 1, then 2, as the reader does.", M2 "every later call repeats that answer"; of a state and a grant list
unfoldable pub engine_answer : List ℕ → List ℕ → Call → Answer
engine_answer st grants c = provided (well_formed st) bad_state (provided (grants_fine grants) bad_grants (call_answer (terms_of grants) st c))

-- M7 "hands back the state as it was at opening, changed as the batch says only if that answer is success", M2 "closing hands back the
-- empty state"
unfoldable pub engine_leaves : List ℕ → List ℕ → List ℕ → List ℕ
engine_leaves st grants ws =
    cond (well_formed st && grants_fine grants) (settle (closed_answer (terms_of grants) st ws) (apply_all st (writes_of ws)) st) empty
