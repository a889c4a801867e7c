-- The mask, the rule and the grants are asked in the order of the columns.
-- Assumes nothing.
use mathlib.Core.Path.{◌≡◌}
use native.Mathlib.Omega.{arith}
use Rattle.std.specs.Prelude.{Err}
use Rattle.meaning.specs.declared.Reason.TheVariants.{NotGranted}
use Rattle.meaning.proofs.Columns.{of_row_lem, order}
use Rattle.grants.proofs.Keeping.{as_granted, by_nobody, by_grant}
use Rattle.rows_video.proofs.scaler_address_reason.Goals as goal

pub returns-then-not-must_be_clear : goal.returns-then-not-must_be_clear
returns-then-not-must_be_clear c = record { reason = λ g role given. of_row_lem g _ _ (search order) }

pub returns-then-not-memory_location : goal.returns-then-not-memory_location
returns-then-not-memory_location c = record { reason = λ g role given. of_row_lem g _ _ (search order) }

pub returns-in_err-ok_or : goal.returns-in_err-ok_or
returns-in_err-ok_or c = record {
  reason = λ g role given.
      let refusal : c.from_residual.result ≡ Err NotGranted = grind (arith, c.in_err-ok_or.ensures) in
      rw refusal (of_row_lem g _ _ (search (as_granted, by_nobody, c.in_err-ok_or.ensures, order)));
}

pub returns : goal.returns
returns c = record { reason = λ g role given. of_row_lem g _ _ (search (as_granted, by_grant, c.in_ok-ok_or.ensures, order)) }
