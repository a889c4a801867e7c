-- `sampling::level_code` meets its contract: the range tells the bound.
-- Assumes nothing.
use Rattle.laws.proofs.Arms.{tests}
use Rattle.sampling.proofs.level_code.Goals as goal

pub returns-in-0-to-11 : goal.returns-in-0-to-11
returns-in-0-to-11 c = record { permitted = search tests }

pub returns-in_default : goal.returns-in_default
returns-in_default c = record { permitted = search tests }
