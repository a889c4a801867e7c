-- What reading words of one packet's body comes to: how far they are fine, and the state with what those words write.
-- Assumes nothing.
use Rattle.std.specs.Prelude.{◌≡◌, List, [], ◌∷◌, ℕ, zero, suc, ◌/◌, ◌≤◌, length}
use Rattle.meaning.specs.declared.Kind.{Kind}
use Rattle.meaning.specs.Grants.{Terms}
use Rattle.meaning.specs.State.{apply_all, write_to}
use Rattle.meaning.specs.Positions.{after, goes, carries}
use Rattle.meaning.specs.Answers.{Answer, success, answer}
use Rattle.meaning.specs.Reader.{word_reason}

-- places of a batch in bytes: from a first one to before an end
abbrev pub Places : ℕ → ℕ → List ℕ → Type 0
Places first end batch = (first ≤ end) × (end ≤ length batch / 4)

-- a reason and a place, and the state with all that was written before that place
pub record Passed : Type 0 where
  pub reason : ℕ
  pub place : ℕ
  pub state : List ℕ

abbrev pub passed : ℕ → ℕ → List ℕ → Passed
passed r p st = record { reason = r; place = p; state = st }

-- without the state
abbrev pub answer_of : Passed → Answer
answer_of p = answer p.reason p.place

-- an answer and a state are what was read comes to
abbrev pub Comes : Answer → List ℕ → Passed → Type 0
Comes a left p = (a ≡ answer_of p) × (left ≡ p.state)

-- a word's reason, at its place and with the state as it is there; where nothing speaks against it, what comes after
abbrev pub or_else : ℕ → ℕ → List ℕ → Passed → Passed
or_else zero i st more = more
or_else (suc r) i st more = passed (suc r) i st

-- the state after a word of a packet's body
abbrev pub applied : Kind → ℕ → List ℕ → List ℕ
applied kind w st = apply_all st (write_to (goes kind w) (carries kind w))

-- words of one packet's body, the first at place i: the first reason and its place, or 0 and the place after them
unfoldable pub body_from : Terms → ℕ → Kind → List ℕ → List ℕ → Passed
body_from g i kind [] st = passed success i st
body_from g i kind (w ∷ ws) st = or_else (word_reason g kind w) i st (body_from g (suc i) (after kind w) ws (applied kind w st))
