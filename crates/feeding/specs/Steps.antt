-- One word fed, as a step from what stands before it to what stands after it. proofs/Steps ties the steps to what the engine answers.
-- Assumes nothing.
use Rattle.std.specs.Prelude.{Bool, cond, List, ℕ, zero, suc, leb, eqb}
use Rattle.meaning.specs.declared.Kind.{Kind}
use Rattle.meaning.specs.declared.Kind.TheVariants.{Setting}
use Rattle.meaning.specs.Grants.{Terms}
use Rattle.meaning.specs.State.{apply_all}
use Rattle.meaning.specs.Positions.{next_kind, next_left, write_at}
use Rattle.meaning.specs.Answers.{Answer, engine_full, success, answer, settle}
use Rattle.meaning.specs.Reader.{judge, ended, paired}
use Rattle.meaning.specs.Engine.{most_fed}

-- what stands between words: the answer, the position in the packet, and the state that was begun with, with all that the words fed write.
-- As long as no word is refused, the answer is 0 at the number fed
pub record Standing : Type 0 where
  pub answer : Answer
  pub kind : Kind
  pub left : ℕ
  pub pending : List ℕ

-- after opening
abbrev pub begun : List ℕ → Standing
begun st = record { answer = answer success 0; kind = Setting; left = 0; pending = st }

-- a refusal, and nothing else changes
abbrev pub refused : ℕ → Standing → Standing
refused r s = record { answer = answer r s.answer.place; kind = s.kind; left = s.left; pending = s.pending }

-- a word that is taken
abbrev pub taken : ℕ → Standing → Standing
taken w s =
    record {
      answer = answer success (suc s.answer.place);
      kind = next_kind s.kind s.left w;
      left = next_left s.left w;
      pending = apply_all s.pending (write_at s.kind s.left w);
    }

-- by the word's reason
abbrev pub judged : ℕ → ℕ → Standing → Standing
judged zero w s = taken w s
judged (suc r) w s = refused (suc r) s

-- by the reason that stands
abbrev pub unless_refused : ℕ → Standing → Standing → Standing
unless_refused zero s next = next
unless_refused (suc r) s next = s

-- one word fed
unfoldable pub step : Terms → Standing → ℕ → Standing
step g s w =
    unless_refused s.answer.reason s
    (cond (leb most_fed s.answer.place) (refused engine_full s) (judged (judge g s.kind s.left w) w s))

-- ---- closing

-- the answer, by whether the pair is kept: 10 where a packet is open, and 14 where none is and the pair is not kept
unfoldable pub closes : Bool → Standing → Answer
closes kept s = cond (eqb s.answer.reason success) (paired kept (answer (ended s.left).reason s.answer.place)) s.answer

-- and the state that is handed back: `new`, with all that the words fed write, or st, as it was at opening
unfoldable pub leaves : Bool → Standing → List ℕ → List ℕ → List ℕ
leaves kept s new st = settle (closes kept s) new st
