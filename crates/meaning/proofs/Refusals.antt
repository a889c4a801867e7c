-- No reason that code names is success.
-- Assumes nothing.
use Rattle.std.specs.Prelude.{◌≡◌}
use Rattle.std.proofs.Common.{arith}
use Rattle.meaning.specs.declared.Reason.{Reason}
use Rattle.meaning.specs.Answers.{number}

pub refused : (r : Reason) → number r ≡ 0 → ⊥
refused r e = grind arith
