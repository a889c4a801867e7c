-- Cell by cell, the search goes on behind each that may be written.
-- Assumes nothing.
use mathlib.Core.Path.{◌∙◌}
use native.Mathlib.Omega.{arith}
use Rattle.cells.specs.Rows as rows
use Rattle.search.proofs.Sections.{no_address_lem}
use Rattle.search.proofs.Lowest.{behind, among, told}
use Rattle.search.proofs.overlay_writable.Goals as goal

pub writable-requires-clause-row : goal.writable-requires-clause-row
writable-requires-clause-row c = (_, (rows.overlay 84 (omega arith) (omega arith)))

pub returns-in_err-writable : goal.returns-in_err-writable
returns-in_err-writable c = record {
  lowest = λ g. told c.from_residual.result c.from_residual.ensures.1 ∙ among g _ 84 1 2 (c.in_err-writable.ensures.lowest g 0 (rows.overlay 84 (omega arith) (omega arith)) no_address_lem);
}

pub writable-requires-2-clause-row : goal.writable-requires-2-clause-row
writable-requires-2-clause-row c = (_, (rows.overlay 85 (omega arith) (omega arith)))

pub returns-in_err-writable-2 : goal.returns-in_err-writable-2
returns-in_err-writable-2 c = record {
  lowest = λ g. told c.from_residual-in_err-writable-2.result c.from_residual-in_err-writable-2.ensures.1 ∙ behind g _ 84 1 2 (c.in_ok-writable.ensures.lowest g 0 (rows.overlay 84 (omega arith) (omega arith)) no_address_lem)
      (among g _ 85 1 1 (c.in_err-writable-2.ensures.lowest g 0 (rows.overlay 85 (omega arith) (omega arith)) no_address_lem));
}

pub writable-requires-3-clause-row : goal.writable-requires-3-clause-row
writable-requires-3-clause-row c = (_, rows.alpha_select_row)

pub returns : goal.returns
returns c = record {
  lowest = λ g. behind g _ 84 1 2 (c.in_ok-writable.ensures.lowest g 0 (rows.overlay 84 (omega arith) (omega arith)) no_address_lem)
      (behind g _ 85 1 1 (c.in_ok-writable-2.ensures.lowest g 0 (rows.overlay 85 (omega arith) (omega arith)) no_address_lem)
      (c.writable-3.ensures.lowest g 0 rows.alpha_select_row no_address_lem));
}
