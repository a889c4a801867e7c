-- What reading packets comes to: one packet, and packets one after another. Places are counted from a first one.
-- Assumes nothing.
use Rattle.std.specs.Prelude.{List, [], ◌∷◌, ℕ, zero, suc, ◌+◌, take}
use Rattle.meaning.specs.declared.Kind.{Kind}
use Rattle.meaning.specs.Words.{count}
use Rattle.meaning.specs.Grants.{Terms}
use Rattle.meaning.specs.State.{apply_all}
use Rattle.meaning.specs.Positions.{kind_of, next_kind, next_left, write_at}
use Rattle.meaning.specs.Answers.{ends_inside, success}
use Rattle.meaning.specs.Reader.{header_reason, judge}
use Rattle.bodies.specs.Passes.{Passed, passed, or_else, body_from}

-- ---- one packet

-- a header at place i, and the words of its body that are at hand
unfoldable pub headed : Terms → ℕ → ℕ → List ℕ → List ℕ → Passed
headed g i h ws st = or_else (header_reason h) i st (body_from g (suc i) (kind_of h) ws st)

-- where nothing speaks against what was read, the place after it
abbrev pub up_to : ℕ → Passed → Passed
up_to p b = or_else b.reason b.place b.state (passed success p b.state)

-- the packet that these words begin with, its header at place i; the place after it goes by the header's count, also where the words end before
unfoldable pub packet_from : Terms → ℕ → List ℕ → List ℕ → Passed
packet_from g i [] st = passed success i st
packet_from g i (h ∷ ws) st = up_to (suc i + count h) (headed g i h (take (count h) ws) st)

-- ---- packets

-- so many words are missing at the end: Y10 "the batch is over before a packet is", or it is not
abbrev pub ends : ℕ → ℕ → List ℕ → Passed
ends zero i st = passed success i st
ends (suc k) i st = passed ends_inside i st

-- the words from a position on, the first at place i
unfoldable pub packets_from : Terms → ℕ → Kind → ℕ → List ℕ → List ℕ → Passed
packets_from g i kind k [] st = ends k i st
packets_from g i kind k (w ∷ ws) st =
    or_else (judge g kind k w) i st (packets_from g (suc i) (next_kind kind k w) (next_left k w) ws (apply_all st (write_at kind k w)))
