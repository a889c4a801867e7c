-- `rows_3d::target_address_reason` meets its contract: the row has no mask and no rule but that the address is granted.
-- Assumes nothing.
use mathlib.Core.Path.{◌≡◌}
use native.Mathlib.Omega.{arith}
use Rattle.std.specs.Prelude.{Err}
use Rattle.meaning.specs.declared.Reason.TheVariants.{NotGranted}
use Rattle.meaning.specs.Registers.{target_group}
use Rattle.rows_3d.proofs.Registers.{own_target}
use Rattle.meaning.proofs.Columns.{at_cell, order}
use Rattle.grants.proofs.Keeping.{as_granted, by_nobody, by_grant}
use Rattle.rows_3d.proofs.target_address_reason.Goals as goal

pub returns-in_err-ok_or : goal.returns-in_err-ok_or
unfolding target_group
returns-in_err-ok_or c = record {
  reason = λ g given.
      let refusal : c.from_residual.result ≡ Err NotGranted = grind (arith, c.in_err-ok_or.ensures) in
      rw refusal (at_cell g _ _ own_target.1.0 (search (as_granted, by_nobody, c.in_err-ok_or.ensures, order)));
}

pub returns : goal.returns
unfolding target_group
returns c = record { reason = λ g given. at_cell g _ _ own_target.1.0 (search (as_granted, by_grant, c.in_ok-ok_or.ensures, order)) }
