-- `sampling::mapping` meets its contract: the tests are those of the definition, in its order.
-- Assumes nothing.
use native.Mathlib.Nat.{div-one}
use Rattle.meaning.specs.Registers.{mapping}
use Rattle.sampling.proofs.Codes.{row}
use Rattle.sampling.proofs.mapping.Goals as goal

pub returns-then-not-volume_code : goal.returns-then-not-volume_code
unfolding mapping
returns-then-not-volume_code c = record { rule = simp div-one (search row) }

pub returns-then-not-volume_code-2 : goal.returns-then-not-volume_code-2
unfolding mapping
returns-then-not-volume_code-2 c = record { rule = simp div-one (search row) }

pub returns-then-not-mapping_code : goal.returns-then-not-mapping_code
unfolding mapping
returns-then-not-mapping_code c = record { rule = simp div-one (search row) }

pub returns-then-not-mapping_code-2 : goal.returns-then-not-mapping_code-2
unfolding mapping
returns-then-not-mapping_code-2 c = record { rule = simp div-one (search row) }

pub returns : goal.returns
unfolding mapping
returns c = record { rule = simp div-one (search row) }
