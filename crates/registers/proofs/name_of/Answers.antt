-- Each arm answers as the definition does for its group of cells.
-- Assumes nothing.
use Prim.Native.Nat.{◌≤◌}
use native.Mathlib.Omega.{arith}
use Rattle.laws.proofs.Arms.{spans}
use Rattle.registers.specs.Names.{name_of, type_of, sub_type_of, address_of}
use Rattle.registers.proofs.name_of.Goals as goal

pub returns-in-0 : goal.returns-in-0
unfolding name_of type_of sub_type_of address_of
returns-in-0 c = record { name = let low : c.args.cell.0 ≤ 3 = omega arith in search spans }

pub returns-in-1-to-3 : goal.returns-in-1-to-3
unfolding name_of type_of sub_type_of address_of
returns-in-1-to-3 c = record { name = search spans }

pub returns-in-4-to-35 : goal.returns-in-4-to-35
unfolding name_of type_of sub_type_of address_of
returns-in-4-to-35 c = record { name = search spans }

pub returns-in_default : goal.returns-in_default
unfolding name_of type_of sub_type_of address_of
returns-in_default c = record { name = search spans }
