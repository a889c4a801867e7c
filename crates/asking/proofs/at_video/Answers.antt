-- The header of a run of one word tells the register, and that one judges the word.
-- Assumes nothing.
use Rattle.std.specs.Prelude.{◌≡◌, ℕ, Result, Ok}
use Rattle.meaning.specs.declared.Reason.{Reason}
use Rattle.headers.specs.declared.Header.{Header}
use mathlib.Core.Path.{ap, ◌∙◌}
use native.Mathlib.Omega.{arith}
use Rattle.meaning.proofs.Stretches.{offset_small}
use Rattle.rows_video.specs.Scalers as rows
use Rattle.rows_video.proofs.Scalers.{scaler_cells, scaler_role}
use Rattle.headers.specs.declared.Header.TheVariants.{Overlay, Scaler}
use Rattle.headers.specs.declared.ScalerRun.{ScalerRun}
use Rattle.headers.specs.Headers.{header_of}
use Rattle.headers.specs.Told.{Runs}
use Rattle.asking.proofs.Asking.{video_none, video_at}
use Rattle.headers.proofs.Openings.{told}
use Rattle.asking.proofs.Offsets.{none_refused, none_setting, in_row, found_at}
use Rattle.asking.proofs.Parts.{scaler_part}
use Rattle.asking.proofs.at_video.Goals as goal

-- what the header tells where it opens a run: of 2208 to 2210, and of a scaler's registers
as_overlay : {h i : ℕ} {r : Result Header Reason} {x : Header} → r ≡ header_of h → r ≡ Ok x → x ≡ Overlay i → Runs h 84 i 3
as_overlay {h = h} e is over = told h e (is ∙ ap Ok over)

as_scaler : {h : ℕ} {s : ScalerRun} {r : Result Header Reason} {x : Header} → r ≡ header_of h → r ≡ Ok x → x ≡ Scaler s → Runs h s.base.0 s.index 7 × rows.Scaler s.base.0 s.role
as_scaler {h = h} e is run = told h e (is ∙ ap Ok run)

pub overflow_add-offset : goal.overflow_add-offset
overflow_add-offset c = omega (arith, offset_small _ c.offset-offset.ensures.offset)

pub overlay_reason-requires : goal.overlay_reason-requires
overlay_reason-requires c = record { three = in_row _ c.offset-offset.ensures.offset (as_overlay c.header_of.ensures.opened c.in-Ok.is c.in-Overlay.is) }

pub overflow_add-index : goal.overflow_add-index
overflow_add-index c = omega (arith, in_row _ c.offset-offset.ensures.offset (as_overlay c.header_of.ensures.opened c.in-Ok.is c.in-Overlay.is))

pub for_video-requires : goal.for_video-requires
for_video-requires c = record { offset = offset_small _ c.offset-offset.ensures.offset }

pub part_of-part-requires : goal.part_of-part-requires
part_of-part-requires c = record { role = scaler_role (as_scaler c.header_of.ensures.opened c.in-Ok.is c.in-Scaler.is).1 }

pub scaler_reason-requires : goal.scaler_reason-requires
scaler_reason-requires c = record { seven = in_row _ c.offset-offset.ensures.offset (as_scaler c.header_of.ensures.opened c.in-Ok.is c.in-Scaler.is).0 }

pub overflow_add-base : goal.overflow_add-base
overflow_add-base c =
    let run = as_scaler c.header_of.ensures.opened c.in-Ok.is c.in-Scaler.is in
    omega (arith, in_row _ c.offset-offset.ensures.offset run.0, (scaler_cells run.1).1)

pub for_video-requires-in-Scaler : goal.for_video-requires-in-Scaler
for_video-requires-in-Scaler c = record { offset = offset_small _ c.offset-offset.ensures.offset }

pub returns-in_default : goal.returns-in_default
returns-in_default c = record {
  asked = λ g kept. video_none g _ _ _ (none_refused _ c.offset-offset.ensures.offset _ (told _ c.header_of.ensures.opened c.in_default.is));
}

pub returns-in-Setting : goal.returns-in-Setting
returns-in-Setting c = record {
  asked = λ g kept. video_none g _ _ _ (none_setting _ c.offset-offset.ensures.offset (told _ c.header_of.ensures.opened (c.in-Ok.is ∙ ap Ok c.in-Setting.is)).1);
}

pub returns-in-Overlay : goal.returns-in-Overlay
returns-in-Overlay c = record {
  asked = λ g kept. let e = c.offset-offset.ensures.offset in
      let at = found_at _ e (as_overlay c.header_of.ensures.opened c.in-Ok.is c.in-Overlay.is) (omega arith) (omega arith) in
      video_at g _ _ _ at (c.overlay_reason.ensures.reason g) e c.for_video.ensures.told;
}

pub returns-in-Scaler : goal.returns-in-Scaler
returns-in-Scaler c = record {
  asked = λ g kept. let e = c.offset-offset.ensures.offset in
      let run = as_scaler c.header_of.ensures.opened c.in-Ok.is c.in-Scaler.is in
      let at = found_at _ e run.0 (scaler_cells run.1).0 (scaler_cells run.1).1 in
      let given = scaler_part g _ kept run.1 c.part_of-part.ensures.role in
      video_at g _ _ _ at (c.scaler_reason.ensures.reason g _ _ run.1 given) e c.for_video-in-Scaler.ensures.told;
}
