-- What the reader answers.
-- A3 "The reader takes the words from the front, and at each word the reasons by their numbers; then 10, and 14 is last."
-- Assumes nothing.
use Rattle.meaning.specs.declared.Cell.{Cell}
use Rattle.std.specs.Prelude.{Bool, true, false, ◌&&◌, cond, List, [], ◌∷◌, ℕ, zero, suc, leb, eqb, Option, Some, None}
use Rattle.std.specs.Int.Bits.{bit_and}
use Rattle.laws.specs.Tests.{within}
use Rattle.meaning.specs.declared.VideoOffset.{VideoOffset}
use Rattle.meaning.specs.declared.Kind.{Kind}
use Rattle.meaning.specs.declared.Kind.TheVariants.{Setting, Parameter, Video}
use Rattle.meaning.specs.Words.{count, offset, video_offset, following, data24}
use Rattle.meaning.specs.Registers.{Register, find_video, is_found, register_at}
use Rattle.meaning.specs.Grants.{Terms, terms_of, grants_fine}
use Rattle.meaning.specs.Batch.{reaches, offset_3d, most_3d, allowed, named}
use Rattle.meaning.specs.State.{well_formed, apply_all}
use Rattle.meaning.specs.Pair.{pair_kept}
use Rattle.meaning.specs.Positions.{next_kind, next_left, writes_of}
use Rattle.meaning.specs.Answers.{Answer, bad_state, bad_grants, bad_offset, bad_count, bad_setting, no_register, bit_set, bad_value, not_granted, ends_inside, bad_pair, success, answer, provided, settle}

-- ---- one word: its reason, 0 where nothing speaks against it

-- the reason where a test is false; where it is true, what comes after it
unfoldable pub unless : Bool → ℕ → ℕ → ℕ
unless true r more = more
unless false r more = r

-- B10 "every offset that a word of it is bound for is that of a video register of the table": n offsets from o on
unfoldable pub run_in : VideoOffset → ℕ → Bool
run_in o zero = true
run_in o (suc n) = let more = run_in (following o) n in is_found (find_video o) && more

-- Y4 "the count of a header is out of its range": B4 "from 2 to 113" of a 3D packet
abbrev pub reason_3d : ℕ → ℕ
reason_3d h = unless (within 2 most_3d (count h)) bad_count success

-- Y3 "the offset of a header is neither 043Ch nor a video register's", then Y4 "the count of a header is out of its range, or its run does
-- not stay within the video registers": of any other, with B10 "at least 1"
abbrev pub reason_video : ℕ → ℕ
reason_video h =
    unless (is_found (find_video (video_offset h))) bad_offset
    (unless (leb 1 (count h) && run_in (video_offset h) (count h)) bad_count success)

-- Y3 and Y4 of a header
unfoldable pub header_reason : ℕ → ℕ
header_reason h = cond (eqb (offset h) offset_3d) (reason_3d h) (reason_video h)

-- Y7 "a bit that must be clear is set", Y8 "a value does not keep its value rule", Y9 "an address is not granted", in this order
unfoldable pub value_reason : Terms → Register → ℕ → ℕ
value_reason g r v =
    unless (eqb (bit_and v r.clear) 0) bit_set (unless (r.values v) bad_value (unless (reaches g (r.holds v)) not_granted success))

-- a value for a register that the table has, or for none
abbrev pub found_reason : Terms → ℕ → Option Cell → ℕ → ℕ
found_reason g none (Some c) v = value_reason g (register_at c) v
found_reason g none None v = none

-- Y5 "a setting is none of those allowed"; Y6 "a parameter's name is no register's of the table", then 7 to 9; 7 to 9 of a word of a run. A
-- header refuses a run that leaves the video registers, so 4 comes to no word of a run
unfoldable pub word_reason : Terms → Kind → ℕ → ℕ
word_reason g Setting w = unless (allowed w) bad_setting success
word_reason g (Parameter s) w = found_reason g no_register (named s w) (data24 w)
word_reason g (Video o) w = found_reason g bad_count (find_video o) w

-- A3 "at each word the reasons by their numbers": of a word at its position
unfoldable pub judge : Terms → Kind → ℕ → ℕ → ℕ
judge g kind zero w = header_reason w
judge g kind (suc k) w = word_reason g kind w

-- ---- the whole batch

-- one place on
abbrev pub onward : Answer → Answer
onward a = answer a.reason (suc a.place)

-- a word's reason, and the answer on the words after it
abbrev pub follow : ℕ → Answer → Answer
follow zero a = onward a
follow (suc r) a = answer (suc r) 0

-- Y10 "the batch is over before a packet is", or it is not
abbrev pub ended : ℕ → Answer
ended zero = answer success 0
ended (suc k) = answer ends_inside 0

-- A3 "takes the words from the front": those from a position on
unfoldable pub run : Terms → Kind → ℕ → List ℕ → Answer
run g kind k [] = ended k
run g kind k (w ∷ ws) = follow (judge g kind k w) (run g (next_kind kind k w) (next_left k w) ws)

-- a batch begins with a header
unfoldable pub batch_answer : Terms → List ℕ → Answer
batch_answer g ws = run g Setting 0 ws

-- Y14 "the batch does not keep the pair": in the place of success, and A3 "14 is last"
abbrev pub paired : Bool → Answer → Answer
paired b a = cond (eqb a.reason success) (answer (unless b bad_pair success) a.place) a

-- what the words give, and then the pair, by S10 "from a state"
unfoldable pub paired_answer : Terms → List ℕ → List ℕ → Answer
paired_answer g st ws = paired (pair_kept g st (writes_of ws)) (batch_answer g ws)

-- ---- the call: P1 "The reader takes a batch, a grant list and a state"

-- A2 "1 before 2, and 2 before all others", then what the words and the pair give
unfoldable pub read_answer : List ℕ → List ℕ → List ℕ → Answer
read_answer batch grants st =
    provided (well_formed st) bad_state (provided (grants_fine grants) bad_grants (paired_answer (terms_of grants) st batch))

-- P1 "either changes the state as the batch says or refuses the batch": the state after the call
unfoldable pub read_leaves : List ℕ → List ℕ → List ℕ → List ℕ
read_leaves batch grants st = settle (read_answer batch grants st) (apply_all st (writes_of batch)) st
