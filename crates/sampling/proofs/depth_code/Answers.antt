-- `sampling::depth_code` meets its contract: each key is one of the list, and the rest is none of it.
-- Assumes nothing.
use Rattle.laws.specs.Lists.{some}
use Rattle.laws.specs.Tests.{one_of}
use Rattle.laws.proofs.Arms.{spans}
use Rattle.sampling.proofs.depth_code.Goals as goal

pub returns-in-0 : goal.returns-in-0
unfolding some one_of
returns-in-0 c = record { permitted = search spans }

pub returns-in-1 : goal.returns-in-1
unfolding some one_of
returns-in-1 c = record { permitted = search spans }

pub returns-in-2 : goal.returns-in-2
unfolding some one_of
returns-in-2 c = record { permitted = search spans }

pub returns-in-4 : goal.returns-in-4
unfolding some one_of
returns-in-4 c = record { permitted = search spans }

pub returns-in_default : goal.returns-in_default
unfolding some one_of
returns-in_default c = record { permitted = search spans }
