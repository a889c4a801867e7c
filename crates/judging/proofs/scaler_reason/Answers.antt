-- Each of the seven registers has its row; the last is what no other arm takes.
-- Assumes nothing.
use mathlib.Core.Path.{◌≡◌}
use native.Mathlib.Omega.{arith}
use Rattle.judging.proofs.scaler_reason.Goals as goal

pub returns-in_default : goal.returns-in_default
returns-in_default c = record { reason = λ g b role s given. let last : c.args.index ≡ 6 = omega arith in rw last (c.address_reason-in_default.ensures.third g b role s given) }
