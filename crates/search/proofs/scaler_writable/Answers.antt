-- Cell by cell, the search goes on behind each that may be written.
-- Assumes nothing.
use mathlib.Core.Path.{◌∙◌}
use Prim.Native.Nat.{◌+◌}
use Rattle.rows_video.proofs.Scalers.{the_scaler}
use Rattle.cells.specs.Rows as rows
use Rattle.search.proofs.Sections.{no_address_lem}
use Rattle.search.proofs.Lowest.{behind, past, among, told}
use Rattle.search.proofs.scaler_writable.Goals as goal

pub writable-requires-clause-row : goal.writable-requires-clause-row
writable-requires-clause-row c = (_, rows.deinterlace _ _ (the_scaler c.requires.scaler))

pub returns-in_err-writable : goal.returns-in_err-writable
returns-in_err-writable c = record {
  lowest = λ g role s given. told c.from_residual.result c.from_residual.ensures.1 ∙ among g _ c.args.own 1 6 (c.in_err-writable.ensures.lowest g 0 (rows.deinterlace _ _ s) no_address_lem);
}

pub writable-requires-2-clause-row : goal.writable-requires-2-clause-row
writable-requires-2-clause-row c = (_, rows.sub_picture _ _ (the_scaler c.requires.scaler))

pub returns-in_err-writable-2 : goal.returns-in_err-writable-2
returns-in_err-writable-2 c = record {
  lowest = λ g role s given. told c.from_residual-in_err-writable-2.result c.from_residual-in_err-writable-2.ensures.1 ∙ behind g _ c.args.own 1 6 (c.in_ok-writable.ensures.lowest g 0 (rows.deinterlace _ _ s) no_address_lem)
      (among g _ (c.args.own + 1) 1 5 (c.in_err-writable-2.ensures.lowest g 0 (rows.sub_picture _ _ s) no_address_lem));
}

pub writable-requires-3-clause-row : goal.writable-requires-3-clause-row
writable-requires-3-clause-row c = (_, rows.first_address _ _ (the_scaler c.requires.scaler))

pub returns-in_err-writable-3 : goal.returns-in_err-writable-3
returns-in_err-writable-3 c = record {
  lowest = λ g role s given. told c.from_residual-in_err-writable-3.result c.from_residual-in_err-writable-3.ensures.1 ∙ behind g _ c.args.own 1 6 (c.in_ok-writable.ensures.lowest g 0 (rows.deinterlace _ _ s) no_address_lem)
      (past g _ c.args.own 1 5 (c.in_ok-writable-2.ensures.lowest g 0 (rows.sub_picture _ _ s) no_address_lem)
      (among g _ (c.args.own + 2) 1 4 (c.in_err-writable-3.ensures.lowest g role (rows.first_address _ _ s) (λ _. given))));
}

pub writable-requires-4-clause-row : goal.writable-requires-4-clause-row
writable-requires-4-clause-row c = (_, rows.second_address _ _ (the_scaler c.requires.scaler))

pub returns-in_err-writable-4 : goal.returns-in_err-writable-4
returns-in_err-writable-4 c = record {
  lowest = λ g role s given. told c.from_residual-in_err-writable-4.result c.from_residual-in_err-writable-4.ensures.1 ∙ behind g _ c.args.own 1 6 (c.in_ok-writable.ensures.lowest g 0 (rows.deinterlace _ _ s) no_address_lem)
      (past g _ c.args.own 1 5 (c.in_ok-writable-2.ensures.lowest g 0 (rows.sub_picture _ _ s) no_address_lem)
      (past g _ c.args.own 2 4 (c.in_ok-writable-3.ensures.lowest g role (rows.first_address _ _ s) (λ _. given))
      (among g _ (c.args.own + 3) 1 3 (c.in_err-writable-4.ensures.lowest g role (rows.second_address _ _ s) (λ _. given)))));
}

pub writable-requires-5-clause-row : goal.writable-requires-5-clause-row
writable-requires-5-clause-row c = (_, rows.destination_stride _ _ (the_scaler c.requires.scaler))

pub returns-in_err-writable-5 : goal.returns-in_err-writable-5
returns-in_err-writable-5 c = record {
  lowest = λ g role s given. told c.from_residual-in_err-writable-5.result c.from_residual-in_err-writable-5.ensures.1 ∙ behind g _ c.args.own 1 6 (c.in_ok-writable.ensures.lowest g 0 (rows.deinterlace _ _ s) no_address_lem)
      (past g _ c.args.own 1 5 (c.in_ok-writable-2.ensures.lowest g 0 (rows.sub_picture _ _ s) no_address_lem)
      (past g _ c.args.own 2 4 (c.in_ok-writable-3.ensures.lowest g role (rows.first_address _ _ s) (λ _. given))
      (past g _ c.args.own 3 3 (c.in_ok-writable-4.ensures.lowest g role (rows.second_address _ _ s) (λ _. given))
      (among g _ (c.args.own + 4) 1 2 (c.in_err-writable-5.ensures.lowest g 0 (rows.destination_stride _ _ s) no_address_lem)))));
}

pub writable-requires-6-clause-row : goal.writable-requires-6-clause-row
writable-requires-6-clause-row c = (_, rows.source_stride _ _ (the_scaler c.requires.scaler))

pub returns-in_err-writable-6 : goal.returns-in_err-writable-6
returns-in_err-writable-6 c = record {
  lowest = λ g role s given. told c.from_residual-in_err-writable-6.result c.from_residual-in_err-writable-6.ensures.1 ∙ behind g _ c.args.own 1 6 (c.in_ok-writable.ensures.lowest g 0 (rows.deinterlace _ _ s) no_address_lem)
      (past g _ c.args.own 1 5 (c.in_ok-writable-2.ensures.lowest g 0 (rows.sub_picture _ _ s) no_address_lem)
      (past g _ c.args.own 2 4 (c.in_ok-writable-3.ensures.lowest g role (rows.first_address _ _ s) (λ _. given))
      (past g _ c.args.own 3 3 (c.in_ok-writable-4.ensures.lowest g role (rows.second_address _ _ s) (λ _. given))
      (past g _ c.args.own 4 2 (c.in_ok-writable-5.ensures.lowest g 0 (rows.destination_stride _ _ s) no_address_lem)
      (among g _ (c.args.own + 5) 1 1 (c.in_err-writable-6.ensures.lowest g 0 (rows.source_stride _ _ s) no_address_lem))))));
}

pub writable-requires-7-clause-row : goal.writable-requires-7-clause-row
writable-requires-7-clause-row c = (_, rows.third_address _ _ (the_scaler c.requires.scaler))

pub returns : goal.returns
returns c = record {
  lowest = λ g role s given. behind g _ c.args.own 1 6 (c.in_ok-writable.ensures.lowest g 0 (rows.deinterlace _ _ s) no_address_lem)
      (past g _ c.args.own 1 5 (c.in_ok-writable-2.ensures.lowest g 0 (rows.sub_picture _ _ s) no_address_lem)
      (past g _ c.args.own 2 4 (c.in_ok-writable-3.ensures.lowest g role (rows.first_address _ _ s) (λ _. given))
      (past g _ c.args.own 3 3 (c.in_ok-writable-4.ensures.lowest g role (rows.second_address _ _ s) (λ _. given))
      (past g _ c.args.own 4 2 (c.in_ok-writable-5.ensures.lowest g 0 (rows.destination_stride _ _ s) no_address_lem)
      (past g _ c.args.own 5 1 (c.in_ok-writable-6.ensures.lowest g 0 (rows.source_stride _ _ s) no_address_lem)
      (c.writable-7.ensures.lowest g role (rows.third_address _ _ s) (λ _. given)))))));
}
