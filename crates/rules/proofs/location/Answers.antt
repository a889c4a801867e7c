-- `rules::location` meets its contract: the test is the definition's.
-- Assumes nothing.
use Rattle.meaning.specs.Registers.{location}
use Rattle.laws.proofs.Arms.{tests}
use Rattle.rules.proofs.location.Goals as goal

pub returns : goal.returns
unfolding location
returns c = record { rule = search tests }
