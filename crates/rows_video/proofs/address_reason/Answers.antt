-- Both registers of either scaler have the mask, and hold an address.
-- Assumes nothing.
use Rattle.meaning.specs.Registers.{scaler}
use Rattle.rows_video.proofs.Registers.{own_scaler}
use Rattle.meaning.proofs.Columns.{alike}
use Rattle.rows_video.proofs.address_reason.Goals as goal

pub returns : goal.returns
unfolding scaler
returns c = record { second = λ g b role s given. alike g _ _ (own_scaler b role s).1.1.1.0 (c.scaler_address_reason.ensures.reason g role given); third = λ g b role s given. alike g _ _ (own_scaler b role s).1.1.1.1.1.1.0 (c.scaler_address_reason.ensures.reason g role given) }
