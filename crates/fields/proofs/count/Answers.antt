-- The bits are taken as the definition takes them.
-- Assumes nothing.
use mathlib.Core.Path.{refl}
use Rattle.meaning.specs.Words as parts
use Rattle.fields.proofs.count.Goals as goal

pub returns : goal.returns
unfolding parts.count
returns c = record { count = refl }
