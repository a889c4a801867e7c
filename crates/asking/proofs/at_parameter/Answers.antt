-- The group judges the parameter.
-- Assumes nothing.
use Rattle.std.specs.Prelude.{◌≡◌, Err}
use Rattle.std.proofs.Common.{rules}
use Rattle.meaning.specs.Answers.{reason_in}
use mathlib.Core.Path.{ap, ◌∙◌}
use Rattle.bodies.proofs.Bodies.{data_narrow}
use Rattle.asking.proofs.Asking.{parameter_refused, parameter_taken}
use Rattle.asking.proofs.at_parameter.Goals as goal

pub judge_parameter-judged-requires : goal.judge_parameter-judged-requires
judge_parameter-judged-requires c = record { group = c.requires.group.group; narrow = data_narrow _ c.data-value.ensures.bits }

pub returns-in_err-judged : goal.returns-in_err-judged
returns-in_err-judged c =
    let refusal : c.from_residual.result ≡ Err c.in_err-judged.field-0.0 = search rules in
    record {
      asked = λ g given. rw refusal (parameter_refused _ _ g _ _ _ c.requires.group c.sub_address.ensures.address c.data-value.ensures.bits (c.judge_parameter-judged.ensures.verdict g given) _ (ap reason_in c.in_err-judged.was));
    }

pub returns : goal.returns
returns c = record {
  asked = λ g given. parameter_taken _ _ g _ _ _ c.requires.group c.sub_address.ensures.address c.data-value.ensures.bits (c.judge_parameter-judged.ensures.verdict g given) (ap reason_in c.in_ok-judged.was) c.judge_parameter-judged.ensures.cell;
}
