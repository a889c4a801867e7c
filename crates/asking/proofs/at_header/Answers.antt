-- What the header opens tells the kind of the word behind it.
-- Assumes nothing.
use Rattle.std.specs.Prelude.{◌≡◌, Ok, Err}
use mathlib.Core.Path.{refl, ◌∙◌, ap}
use Rattle.std.proofs.Common.{rules}
use Rattle.asking.proofs.Asking.{header_refused, header_taken, run_taken}
use Rattle.headers.proofs.Openings.{told}
use Rattle.asking.proofs.at_header.Goals as goal

pub returns-in_err-header_of : goal.returns-in_err-header_of
returns-in_err-header_of c =
    let refusal : c.from_residual.result ≡ Err c.in_err-header_of.field-0.0 = search rules in
    record { asked = λ g kind. rw refusal (header_refused g kind _ _ (told _ c.header_of.ensures.opened c.in_err-header_of.was)) }

pub returns-in-Setting : goal.returns-in-Setting
returns-in-Setting c = record {
  asked = λ g kind. let setting = told _ c.header_of.ensures.opened (c.in_ok-header_of.was ∙ ap Ok c.in-Setting.is) in
      c.moved_on.ensures.moved ∙ header_taken g kind _ setting.0 setting.1 c.count-left.ensures.count refl;
}

pub returns-in-Overlay : goal.returns-in-Overlay
returns-in-Overlay c = record {
  asked = λ g kind. let run = told _ c.header_of.ensures.opened (c.in_ok-header_of.was ∙ ap Ok c.in-Overlay.is) in
      c.moved_on-in-Overlay.ensures.moved ∙ run_taken g kind _ run c.count-left.ensures.count c.offset-offset.ensures.offset;
}

pub returns-in-Scaler : goal.returns-in-Scaler
returns-in-Scaler c = record {
  asked = λ g kind. let run = told _ c.header_of.ensures.opened (c.in_ok-header_of.was ∙ ap Ok c.in-Scaler.is) in
      c.moved_on-in-Scaler.ensures.moved ∙ run_taken g kind _ run.0 c.count-left.ensures.count c.offset-offset.ensures.offset;
}
