-- The dot stands behind the pair.
-- Assumes nothing.
use native.Mathlib.Numerals.{towards_suc}
use Rattle.meaning.specs.Lister.{hex}
use Rattle.lines.proofs.put_dotted.Goals as goal

pub returns : goal.returns
unfolding hex
returns c = record { stored = rw c.put_pair.ensures.stored (simp towards_suc) }
