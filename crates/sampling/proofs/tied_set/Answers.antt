-- `sampling::tied_set` meets its contract: each key is one of the list, and the rest is none of it.
-- Assumes nothing.
use Rattle.laws.specs.Lists.{some}
use Rattle.laws.specs.Tests.{one_of}
use Rattle.laws.proofs.Arms.{spans}
use Rattle.sampling.proofs.tied_set.Goals as goal

pub returns-in-0 : goal.returns-in-0
unfolding some one_of
returns-in-0 c = record { permitted = search spans }

pub returns-in-8320 : goal.returns-in-8320
unfolding some one_of
returns-in-8320 c = record { permitted = search spans }

pub returns-in-1040 : goal.returns-in-1040
unfolding some one_of
returns-in-1040 c = record { permitted = search spans }

pub returns-in-9360 : goal.returns-in-9360
unfolding some one_of
returns-in-9360 c = record { permitted = search spans }

pub returns-in_default : goal.returns-in_default
unfolding some one_of
returns-in_default c = record { permitted = search spans }
