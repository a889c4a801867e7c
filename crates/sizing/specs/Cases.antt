-- K42 to K51: states, what the size answers, and what the writer then answers in room around it.
-- Assumes nothing.
use Rattle.std.specs.Prelude.{◌≡◌, List, [], ◌∷◌, ℕ, suc, set}
use Rattle.meaning.specs.State.{empty}
use Rattle.meaning.specs.Answers.{Answer, answer}
use Rattle.meaning.specs.Writer.{most_written, size_answer, write_answer}
use Rattle.meaning.specs.Cases.{with, holding, grant, addressed}

-- a state and grants, and the words that are needed, which are one more than `less`
pub record Needing : Type 0 where
  pub state : List ℕ
  pub grants : List ℕ
  pub less : ℕ

-- a state and grants, and the refusal
pub record Refusing : Type 0 where
  pub state : List ℕ
  pub grants : List ℕ
  pub gives : Answer

-- D8 "The writer refuses what the size refuses, with the same answer; else it gives 11 exactly if the output has fewer words than the size
-- tells": what the size answers, and the writer with one word of room less, with as many and with one more;
abbrev pub HoldsNeeding : Needing → Type 0
HoldsNeeding k =
    let told = answer 0 (suc k.less) in
    (size_answer k.state k.grants ≡ told)
    × (write_answer k.state k.grants k.less ≡ answer 11 0)
    × (write_answer k.state k.grants (suc k.less) ≡ told)
    × (write_answer k.state k.grants (suc (suc k.less)) ≡ told)

-- and of a refusal with none, and with as many as always suffice
abbrev pub HoldsRefusing : Refusing → Type 0
HoldsRefusing k =
    (size_answer k.state k.grants ≡ k.gives)
    × (write_answer k.state k.grants 0 ≡ k.gives)
    × (write_answer k.state k.grants most_written ≡ k.gives)

-- K42 "empty | none | 0 at 0": there is no room with less
abbrev pub HoldsEmpty : Type 0
HoldsEmpty = (size_answer empty [] ≡ answer 0 0) × (write_answer empty [] 0 ≡ answer 0 0) × (write_answer empty [] 1 ≡ answer 0 0)

-- K43 "that of K1"
abbrev pub grant_of_k1 : List ℕ
grant_of_k1 = grant 0x00080000

-- K43 to K47, a line each: state, grants, the words that are needed less one
unfoldable pub needing : List Needing
needing =
    -- K43 "cell 1 holds 001000h | that of K1 | 0 at 3"
    record { state = addressed; grants = grant_of_k1; less = 2 }
    -- K44 "cells 4 and 5 hold 0 | none | 0 at 4": one packet of a stage
    ∷ record { state = with (holding 4 0) 5 0; grants = []; less = 3 }
    -- K45 "cells 5 and 6 hold 0 | none | 0 at 6": of two stages
    ∷ record { state = with (holding 5 0) 6 0; grants = []; less = 5 }
    -- K46 "cells 83 and 84 hold 0 | none | 0 at 5": of a sample, and a video packet
    ∷ record { state = with (holding 83 0) 84 0; grants = []; less = 4 }
    -- K47 "cells 84 and 85 hold 0 | none | 0 at 4": two video packets
    ∷ record { state = with (holding 84 0) 85 0; grants = []; less = 3 }
    ∷ []

-- K48 to K51, a line each: state, grants, the refusal
unfoldable pub refusing : List Refusing
refusing =
    -- K48 "cell 1 holds 001000h | none | 12 at 1"
    record { state = addressed; grants = []; gives = answer 12 1 }
    -- K49 "cell 46 holds 000800h | none | 12 at 46"
    ∷ record { state = holding 46 0x000800; grants = []; gives = answer 12 46 }
    -- K50 "cell 1 holds 001000h and is not marked | that of K1 | 1 at 0"
    ∷ record { state = set empty 1 0x001000; grants = grant_of_k1; gives = answer 1 0 }
    -- K51 "cell 1 holds 001000h | that of K1 with reach 0 | 2 at 0"
    ∷ record { state = addressed; grants = grant 0; gives = answer 2 0 }
    ∷ []
