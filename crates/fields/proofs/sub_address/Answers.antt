-- The bits are taken as the definition takes them.
-- Assumes nothing.
use mathlib.Core.Path.{refl}
use Rattle.meaning.specs.Words as parts
use Rattle.fields.proofs.sub_address.Goals as goal

pub returns : goal.returns
unfolding parts.sub_address
returns c = record { address = refl }
