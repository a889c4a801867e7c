-- Where each word of a batch stands, by the counts of the headers alone: no word is judged here.
-- Assumes nothing.
use Rattle.meaning.specs.declared.Cell.{Cell}
use Rattle.std.specs.Prelude.{cond, List, [], ◌∷◌, ◌++◌, ℕ, zero, suc, eqb, Option, None}
use Rattle.meaning.specs.declared.Kind.{Kind}
use Rattle.meaning.specs.declared.Kind.TheVariants.{Setting, Parameter, Video}
use Rattle.meaning.specs.declared.Position.{Position}
use Rattle.meaning.specs.Words.{count, offset, video_offset, following, data24}
use Rattle.meaning.specs.Registers.{find_video}
use Rattle.meaning.specs.Batch.{offset_3d, named}
use Rattle.meaning.specs.State.{Write, write_to}

-- after a header: B5 "The body of a 3D packet begins with the setting", any other is a run of B10
unfoldable pub kind_of : ℕ → Kind
kind_of h = cond (eqb (offset h) offset_3d) Setting (Video (video_offset h))

-- after a word of a packet's body: B8 "The words behind the setting are parameters", and the offsets of a run go on
unfoldable pub after : Kind → ℕ → Kind
after Setting w = Parameter w
after (Parameter s) w = Parameter s
after (Video o) w = Video (following o)

-- the next position, after a word w at a position
unfoldable pub next_kind : Kind → ℕ → ℕ → Kind
next_kind kind zero w = kind_of w
next_kind kind (suc k) w = after kind w

-- how many words of a packet are still to come: B3 "The n words behind the header are the packet's body."
unfoldable pub next_left : ℕ → ℕ → ℕ
next_left zero w = count w
next_left (suc k) w = k

-- the position of word i
unfoldable pub position_from : Kind → ℕ → List ℕ → ℕ → Position
position_from kind k ws zero = record { kind = kind; left = k }
position_from kind k [] (suc i) = record { kind = kind; left = k }
position_from kind k (w ∷ ws) (suc i) = position_from (next_kind kind k w) (next_left k w) ws i

-- the position of word i of a batch, which begins with a header
unfoldable pub position_at : List ℕ → ℕ → Position
position_at ws i = position_from Setting 0 ws i

-- the register that a word of a packet's body goes to
unfoldable pub goes : Kind → ℕ → Option Cell
goes Setting w = None
goes (Parameter s) w = named s w
goes (Video o) w = find_video o

-- and the value that it carries there: S5 "A parameter writes its 24 bits of data, and a word of a video packet writes all its 32 bits."
unfoldable pub carries : Kind → ℕ → ℕ
carries Setting w = w
carries (Parameter s) w = data24 w
carries (Video o) w = w

-- the writes of a batch, word by word
unfoldable pub write_at : Kind → ℕ → ℕ → List Write
write_at kind zero w = []
write_at kind (suc k) w = write_to (goes kind w) (carries kind w)

-- of words of one packet's body
unfoldable pub writes_in : Kind → List ℕ → List Write
writes_in kind [] = []
writes_in kind (w ∷ ws) = write_to (goes kind w) (carries kind w) ++ writes_in (after kind w) ws

-- of the words from a position on
unfoldable pub writes_from : Kind → ℕ → List ℕ → List Write
writes_from kind k [] = []
writes_from kind k (w ∷ ws) = write_at kind k w ++ writes_from (next_kind kind k w) (next_left k w) ws

-- of a whole batch
unfoldable pub writes_of : List ℕ → List Write
writes_of ws = writes_from Setting 0 ws
