-- Cell by cell, the search goes on behind each that may be written.
-- Assumes nothing.
use mathlib.Core.Path.{◌∙◌}
use Prim.Native.Nat.{◌+◌}
use Rattle.search.proofs.Sections.{sample_rows, no_address_lem}
use Rattle.search.proofs.Lowest.{behind, past, among, told}
use Rattle.search.proofs.sample_writable.Goals as goal

pub writable-requires-clause-row : goal.writable-requires-clause-row
writable-requires-clause-row c = (_, (sample_rows _ c.requires.sample).0)

pub returns-in_err-writable : goal.returns-in_err-writable
returns-in_err-writable c = record {
  lowest = λ g. told c.from_residual.result c.from_residual.ensures.1 ∙ among g _ c.args.first 1 2 (c.in_err-writable.ensures.lowest g 0 (sample_rows _ c.requires.sample).0 no_address_lem);
}

pub writable-requires-2-clause-row : goal.writable-requires-2-clause-row
writable-requires-2-clause-row c = (_, (sample_rows _ c.requires.sample).1)

pub returns-in_err-writable-2 : goal.returns-in_err-writable-2
returns-in_err-writable-2 c = record {
  lowest = λ g. told c.from_residual-in_err-writable-2.result c.from_residual-in_err-writable-2.ensures.1 ∙ behind g _ c.args.first 1 2 (c.in_ok-writable.ensures.lowest g 0 (sample_rows _ c.requires.sample).0 no_address_lem)
      (among g _ (c.args.first + 1) 1 1 (c.in_err-writable-2.ensures.lowest g 0 (sample_rows _ c.requires.sample).1 no_address_lem));
}

pub writable-requires-3-clause-row : goal.writable-requires-3-clause-row
writable-requires-3-clause-row c = (_, (sample_rows _ c.requires.sample).2)

pub returns : goal.returns
returns c = record {
  lowest = λ g. behind g _ c.args.first 1 2 (c.in_ok-writable.ensures.lowest g 0 (sample_rows _ c.requires.sample).0 no_address_lem)
      (past g _ c.args.first 1 1 (c.in_ok-writable-2.ensures.lowest g 0 (sample_rows _ c.requires.sample).1 no_address_lem)
      (c.writable-3.ensures.lowest g 0 (sample_rows _ c.requires.sample).2 no_address_lem));
}
