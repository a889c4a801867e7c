-- The test is the definition's.
-- Assumes nothing.
use mathlib.Core.Path.{refl}
use Rattle.meaning.specs.Exported.{buffer_fine}
use Rattle.irangelda.proofs.buffer_fine.Goals as goal

pub returns : goal.returns
unfolding buffer_fine
returns c = record { fine = refl }
