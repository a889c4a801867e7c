-- Answers: the reasons' numbers, an answer's number, and what a call leaves in a lent buffer.
-- Assumes nothing.
use Rattle.std.specs.Prelude.{Bool, cond, List, ℕ, ◌+◌, ◌*◌, eqb, Result, Ok, Err}
use Rattle.meaning.specs.declared.Reason.{Reason}
use Rattle.meaning.specs.declared.Reason.TheVariants as by
use Rattle.meaning.specs.declared.Refusal.{Refusal}

-- ---- why a batch comes back: the table's numbers, in its order; Reasons says when each is given

-- Y1 "the state is not 202 words, or is not well-formed"
abbrev pub bad_state : ℕ
bad_state = 1

-- Y2 "the grant list does not keep its rules"
abbrev pub bad_grants : ℕ
bad_grants = 2

-- Y3 "the offset of a header is neither 043Ch nor a video register's"
abbrev pub bad_offset : ℕ
bad_offset = 3

-- Y4 "the count of a header is out of its range, or its run does not stay within the video registers"
abbrev pub bad_count : ℕ
bad_count = 4

-- Y5 "a setting is none of those allowed"
abbrev pub bad_setting : ℕ
bad_setting = 5

-- Y6 "a parameter's name is no register's of the table"
abbrev pub no_register : ℕ
no_register = 6

-- Y7 "a bit that must be clear is set"
abbrev pub bit_set : ℕ
bit_set = 7

-- Y8 "a value does not keep its value rule"
abbrev pub bad_value : ℕ
bad_value = 8

-- Y9 "an address is not granted"
abbrev pub not_granted : ℕ
not_granted = 9

-- Y10 "the batch is over before a packet is"
abbrev pub ends_inside : ℕ
ends_inside = 10

-- Y11 "writer and lister: the output is shorter than they need"
abbrev pub no_room : ℕ
no_room = 11

-- Y12 "size and writer: a marked cell has a value that 7, 8 or 9 would refuse, or a 3D value not below 2^24", Y12 "or it is cell 1 and the pair is not
-- fine"
abbrev pub not_writable : ℕ
not_writable = 12

-- Y13 "C calls and programs alone: a buffer has more than 65,536 bytes, or a buffer of words has a length that is no multiple of 4"
abbrev pub bad_buffer : ℕ
bad_buffer = 13

-- Y14 "the batch does not keep the pair"
abbrev pub bad_pair : ℕ
bad_pair = 14

-- Y19 "listing reader: the text is no listing"
abbrev pub not_listing : ℕ
not_listing = 19

-- Y23 "engine: a word is fed after 2^32 − 1 that were taken"
abbrev pub engine_full : ℕ
engine_full = 23

-- Y0 "all is done": A1 "Reason 0 is success, and any other is a refusal."
abbrev pub success : ℕ
success = 0

-- ---- answers

-- A1 "An answer is a reason and a place."
pub record Answer : Type 0 where
  pub reason : ℕ
  pub place : ℕ

-- by its two numbers
abbrev pub answer : ℕ → ℕ → Answer
answer r p = record { reason = r; place = p }

-- the number of a reason that code names
abbrev pub number : Reason → ℕ
number by.BadState = bad_state
number by.BadGrants = bad_grants
number by.BadOffset = bad_offset
number by.BadCount = bad_count
number by.BadSetting = bad_setting
number by.NoRegister = no_register
number by.BitSet = bit_set
number by.BadValue = bad_value
number by.NotGranted = not_granted
number by.EndsInside = ends_inside
number by.NoRoom = no_room
number by.NotWritable = not_writable
number by.BadBuffer = bad_buffer
number by.BadPair = bad_pair
number by.NotAListing = not_listing
number by.EngineFull = engine_full

-- A1 "Reason 0 is success, and any other is a refusal.": the reason of a result
abbrev pub reason_in : {A : Type 0} → Result A Reason → ℕ
reason_in (Ok a) = success
reason_in (Err r) = number r

-- the answer that a result is
abbrev pub answer_in : Result ℕ Refusal → Answer
answer_in (Ok place) = answer success place
answer_in (Err refusal) = answer (number refusal.reason) refusal.place

-- the answer goes on where a test is true, and is a refusal at place 0 where it is not
abbrev pub provided : Bool → ℕ → Answer → Answer
provided b r a = cond b a (answer r 0)

-- C3 "one number: place × 256 + reason"
abbrev pub number_of : Answer → ℕ
number_of a = a.place * 256 + a.reason

-- A6 "A refusal leaves every lent buffer as it was.": what a buffer holds after a call
abbrev pub settle : Answer → List ℕ → List ℕ → List ℕ
settle a new old = cond (eqb a.reason success) new old
