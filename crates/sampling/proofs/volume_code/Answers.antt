-- `sampling::volume_code` meets its contract: the range tells the bound.
-- Assumes nothing.
use Rattle.laws.proofs.Arms.{tests}
use Rattle.sampling.proofs.volume_code.Goals as goal

pub returns-in-0-to-1 : goal.returns-in-0-to-1
returns-in-0-to-1 c = record { permitted = search tests }

pub returns-in_default : goal.returns-in_default
returns-in_default c = record { permitted = search tests }
