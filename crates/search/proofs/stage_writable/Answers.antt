-- Cell by cell, the search goes on behind each that may be written.
-- Assumes nothing.
use mathlib.Core.Path.{◌∙◌}
use Rattle.search.proofs.Sections.{stage_rows, no_address_lem}
use Rattle.search.proofs.Lowest.{behind, among, told}
use Rattle.search.proofs.stage_writable.Goals as goal

pub writable-requires-clause-row : goal.writable-requires-clause-row
writable-requires-clause-row c = (_, (stage_rows _ c.requires.stage).0)

pub returns-in_err-writable : goal.returns-in_err-writable
returns-in_err-writable c = record {
  lowest = λ g. told c.from_residual.result c.from_residual.ensures.1 ∙ among g _ c.args.first 1 1 (c.in_err-writable.ensures.lowest g 0 (stage_rows _ c.requires.stage).0 no_address_lem);
}

pub writable-requires-2-clause-row : goal.writable-requires-2-clause-row
writable-requires-2-clause-row c = (_, (stage_rows _ c.requires.stage).1)

pub returns : goal.returns
returns c = record {
  lowest = λ g. behind g _ c.args.first 1 1 (c.in_ok-writable.ensures.lowest g 0 (stage_rows _ c.requires.stage).0 no_address_lem)
      (c.writable-2.ensures.lowest g 0 (stage_rows _ c.requires.stage).1 no_address_lem);
}
