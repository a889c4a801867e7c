-- What is told of the words of a body, so that storing what is told comes to reading them.
-- Assumes nothing.
use Rattle.std.specs.Prelude.{◌≡◌, [], ◌∷◌, List, ℕ, ◌+◌, ◌≤◌, ◌<◌, get_or, Ok}
use Rattle.meaning.specs.declared.Kind.{Kind}
use Rattle.meaning.specs.Grants.{Terms}
use Rattle.meaning.specs.State.{write_to}
use Rattle.meaning.specs.Positions.{after, goes, carries}
use Rattle.meaning.specs.Answers.{reason_in}
use Rattle.meaning.specs.Reader.{word_reason}
use Rattle.bodies.specs.declared.Asked.{Asked}

-- of the words from a first place to before an end, which are numbered from an index on, word number k stands at a place
pub record Stands (index first end k at : ℕ) : Type 0 where
  pub from : first ≤ at
  pub before : at < end
  pub apart : k + first ≡ index + at

-- of a word of a kind: what speaks against it, and what it writes where nothing does
pub record Tells (g : Terms) (kind : Kind) (w : ℕ) (asked : Asked) : Type 0 where
  pub reason : reason_in asked.verdict ≡ word_reason g kind w
  pub write : asked.verdict ≡ Ok tt → write_to (goes kind w) (carries kind w) ≡ record { cell = asked.cell; value = asked.value } ∷ []

-- of all of them: word number k is of kind k, and what is told of it is so
pub record Judges (Told : ℕ → ℕ → Asked → Type 0) (g : Terms) (kind : ℕ → Kind) (index first end : ℕ) (ws : List ℕ) : Type 0 where
  pub follows : (k at : ℕ) → Stands index first end k at → after (kind k) (get_or ws at 0) ≡ kind (k + 1)
  pub tells : (k at : ℕ) (asked : Asked) → Stands index first end k at → Told k (get_or ws at 0) asked → Tells g (kind k) (get_or ws at 0) asked
