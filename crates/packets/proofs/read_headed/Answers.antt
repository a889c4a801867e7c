-- What the header opens tells the kind of the words behind it.
-- Assumes nothing.
use Rattle.std.proofs.Common.{rules, of_calls, arith, ◌≡◌, ◌+◌, Ok, Err}
use Rattle.std.proofs.Math.Seq.{slice}
use Rattle.meaning.specs.Words.{words_of}
use Rattle.rows_video.proofs.Scalers.{is_scaler, scaler_role}
use Rattle.headers.specs.Told.{Opens}
use Rattle.headers.proofs.Openings.{told}
use Rattle.packets.proofs.Headed.{head_refused, head_passed, kept_scaler}
use Rattle.packets.proofs.read_headed.Goals as goal
use Rattle.packets.proofs.read_headed.Goals.{In_ok-map_err}

-- what it opens
opened : (c : In_ok-map_err) → Opens c.args.header (Ok c.in_ok-map_err.field-0)
opened c = let fine : c.header_of.result ≡ Ok c.in_ok-map_err.field-0 = search (rules, of_calls) in told _ c.header_of.ensures.opened fine

pub returns-in_err-map_err : goal.returns-in_err-map_err
returns-in_err-map_err c =
    let r = c.in_err-map_err.field-0.0.reason in
    let refused : c.header_of.result ≡ Err r = search (rules, of_calls) in
    let refusal : c.from_residual.result ≡ Err (record { reason = r; place = c.args.at }) = search (rules, of_calls) in
    record { read = λ g k. rw refusal (head_refused g _ _ _ _ r (told _ c.header_of.ensures.opened refused)) }

pub returns-in-Setting : goal.returns-in-Setting
returns-in-Setting c =
    let fine = rw c.in-Setting.is at (opened (goal.at.returns-in-Setting c).In_ok-map_err) in
    record { read = λ g k. head_passed g _ _ _ _ fine.0 fine.1 (c.read_3d.ensures.read g k) }

pub take_overlay-requires-clause-row : goal.take_overlay-requires-clause-row
take_overlay-requires-clause-row c =
    let run = rw c.in-Overlay.is at (opened (goal.at.take_overlay-requires-clause-row c).In_ok-map_err) in omega (arith, run.row)

pub returns-in-Overlay : goal.returns-in-Overlay
returns-in-Overlay c =
    let run = rw c.in-Overlay.is at (opened (goal.at.returns-in-Overlay c).In_ok-map_err) in
    record { read = λ g k. head_passed g _ _ _ _ run.fine run.kind (c.take_overlay.ensures.answer g, c.take_overlay.ensures.state g) }

pub part_of-part-requires : goal.part_of-part-requires
part_of-part-requires c =
    let run = rw c.in-Scaler.is at (opened (goal.at.part_of-part-requires c).In_ok-map_err) in record { role = scaler_role run.1 }

pub take_scaler-requires-clause-row : goal.take_scaler-requires-clause-row
take_scaler-requires-clause-row c =
    let run = rw c.in-Scaler.is at (opened (goal.at.take_scaler-requires-clause-row c).In_ok-map_err) in omega (arith, run.0.row)

pub take_scaler-requires-clause-scaler : goal.take_scaler-requires-clause-scaler
take_scaler-requires-clause-scaler c =
    let run = rw c.in-Scaler.is at (opened (goal.at.take_scaler-requires-clause-scaler c).In_ok-map_err) in is_scaler run.1

pub returns-in-Scaler : goal.returns-in-Scaler
returns-in-Scaler c =
    let run = rw c.in-Scaler.is at (opened (goal.at.returns-in-Scaler c).In_ok-map_err) in
    let told = c.take_scaler.ensures in
    record {
      read = λ g k.
          let given = kept_scaler c.part_of-part.ensures.role run.1 g k in
          head_passed g _ _ (slice (c.args.at + 1) c.args.end (words_of c.args.batch.now)) _ run.0.fine run.0.kind (told.answer g _ run.1 given, told.state g _ run.1 given);
    }
