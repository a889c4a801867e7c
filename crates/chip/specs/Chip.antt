-- The chip when programs take turns on it: what its registers hold after the batches that it is handed, whoever's they are.
-- A state of the chip is a state as any other: 202 words, and a cell is marked if its register was written since the chip was reset.
-- Assumes nothing.
use Rattle.std.specs.Prelude.{◌≡◌, Bool, true, false, List, [], ◌∷◌, ℕ, ◌≤◌, ◌<◌, T, length}
use Rattle.meaning.specs.declared.Memory.{Memory}
use Rattle.meaning.specs.Registers.{cells, cell, Content, nothing, address, register_at}
use Rattle.meaning.specs.State.{state_words, value_at, mark_at, apply_all}
use Rattle.meaning.specs.Positions.{writes_of}
use Rattle.meaning.specs.Reader.{read_answer, read_leaves}
use Rattle.meaning.specs.Writer.{most_written, written, write_answer}
use Rattle.meaning.specs.Fitter.{OfAddress}

-- ---- the chip obeys

-- a batch: T1 "one after another, over whatever its registers hold"
unfoldable pub obeys : List ℕ → List ℕ → List ℕ
obeys chip batch = apply_all chip (writes_of batch)

-- T1 "The chip obeys the words in its ring": batches, in the order of the ring
unfoldable pub obeys_all : List ℕ → List (List ℕ) → List ℕ
obeys_all chip [] = chip
obeys_all chip (b ∷ bs) = obeys_all (obeys chip b) bs

-- ---- a program

-- T2 "its batches follow, each accepted under its grants from the state that the one before it left"
abbrev pub AllAccepted : List ℕ → List ℕ → List (List ℕ) → Type 0
AllAccepted grants st [] = Unit {0}
AllAccepted grants st (b ∷ bs) = ((read_answer b grants st).reason ≡ 0) × AllAccepted grants (read_leaves b grants st) bs

-- the state that they leave, as the driver keeps it
abbrev pub left_by : List ℕ → List ℕ → List (List ℕ) → List ℕ
left_by grants st [] = st
left_by grants st (b ∷ bs) = left_by grants (read_leaves b grants st) bs

-- ---- marks

-- a cell is marked
abbrev pub Marked : List ℕ → ℕ → Type 0
Marked st c = 0 < mark_at st (cell c)

-- T3 "A state is full if every cell is marked."
abbrev pub Full : List ℕ → Type 0
Full st = (c : ℕ) → c < cells → Marked st c

-- D4 "every cell that was marked there is marked in the state": of a chip a, and a state b
abbrev pub Remarked : List ℕ → List ℕ → Type 0
Remarked a b = (c : ℕ) → c < cells → Marked a c → Marked b c

-- `now` is b where b is marked, and a where it is not
pub record LaidOver (a b now : List ℕ) : Type 0 where
  pub size : length now ≡ state_words
  pub marked : (c : ℕ) → c < cells → Marked b c → (value_at now (cell c) ≡ value_at b (cell c)) × (mark_at now (cell c) ≡ mark_at b (cell c))
  pub unmarked : (c : ℕ) → c < cells → ¬ Marked b c → (value_at now (cell c) ≡ value_at a (cell c)) × (mark_at now (cell c) ≡ mark_at a (cell c))

-- ---- addresses

-- what a cell holds
abbrev pub content_at : List ℕ → ℕ → Content
content_at st c = (register_at (cell c)).holds (value_at st (cell c))

-- that is an address
abbrev pub is_address : Content → Bool
is_address nothing = false
is_address (address role a) = true

-- D4 "every marked cell with an address is": the same of the cells that hold one
abbrev pub AddressesRemarked : List ℕ → List ℕ → Type 0
AddressesRemarked a b = (c : ℕ) → c < cells → Marked a c → T (is_address (content_at a c)) → Marked b c

-- D4 "if cell 2 is too": the same of cells 1 and 2. Where b marks cell 1 alone, the location that another program left is its location
abbrev pub PairRemarked : List ℕ → List ℕ → Type 0
PairRemarked a b = (c : ℕ) → 1 ≤ c → c ≤ 2 → Marked a c → Marked b c

-- P of a memory, a role and an address, for D4 "every address in a marked cell of the chip": a scaler's in memory 0, the target's in either
abbrev pub EachAddress : (Memory → ℕ → ℕ → Type 0) → List ℕ → Type 0
EachAddress P st = (c : ℕ) → c < cells → Marked st c → OfAddress P (content_at st c)

-- ---- turns

-- T2 "A program's turn": its grants, the state that is kept for it, and its batches
pub record Turn : Type 0 where
  pub grants : List ℕ
  pub state : List ℕ
  pub batches : List (List ℕ)

-- the writer takes the state, and the batches are accepted from there
pub record Proper (t : Turn) : Type 0 where
  pub written : (write_answer t.state t.grants most_written).reason ≡ 0
  pub accepted : AllAccepted t.grants t.state t.batches

-- the chip after a turn, which T2 "begins with the writer's words for the state that is kept for it"
unfoldable pub takes : List ℕ → Turn → List ℕ
takes chip t = obeys_all (obeys chip (written t.state)) t.batches

-- after turns, one after another, of whatever programs
unfoldable pub takes_all : List ℕ → List Turn → List ℕ
takes_all chip [] = chip
takes_all chip (t ∷ ts) = takes_all (takes chip t) ts
