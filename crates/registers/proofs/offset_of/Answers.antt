-- Each arm answers as the definition does for its row of cells.
-- Assumes nothing.
use Rattle.laws.proofs.Arms.{spans}
use Rattle.registers.specs.Names.{offset_of}
use Rattle.registers.proofs.offset_of.Goals as goal

pub returns-in-0-to-86 : goal.returns-in-0-to-86
unfolding offset_of
returns-in-0-to-86 c = record { offset = search spans }

pub returns-in-87-to-93 : goal.returns-in-87-to-93
unfolding offset_of
returns-in-87-to-93 c = record { offset = search spans }

pub returns-in_default : goal.returns-in_default
unfolding offset_of
returns-in_default c = record { offset = search spans }
