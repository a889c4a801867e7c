-- Each word is judged by the name that it bears in the group.
-- Assumes nothing.
use Rattle.std.proofs.Common.{rules, of_calls, ℕ, get_or}
use Rattle.std.proofs.Math.Seq.{slice}
use Rattle.meaning.specs.declared.Kind.TheVariants.{Parameter}
use Rattle.meaning.specs.Words.{words_of, sub_address}
use Rattle.meaning.specs.Grants.{Terms}
use Rattle.meaning.specs.Answers.{answer_in}
use Rattle.grants.specs.Held.{IsRole}
use Rattle.headers.specs.Told.{Leads}
use Rattle.bodies.specs.Passes.{body_from, Comes}
use Rattle.bodies.proofs.Bodies.{parameters_judge, parameter_inside}
use Rattle.bodies.proofs.take_parameters.Goals as goal
use Rattle.bodies.proofs.take_parameters.Goals.{After-take}

pub take-requires-clause-inside : goal.take-requires-clause-inside
take-requires-clause-inside c = λ k at asked stands told. parameter_inside (sub_address (get_or (words_of c.args.batch.now) at 0)) c.requires.group (search (rules, of_calls))

both : (c : After-take) (g : Terms) (s : ℕ) → Leads s c.args.group → IsRole g 1 c.args.part.now
    → Comes (answer_in c.take.result) c.take.new.state (body_from g c.args.first (Parameter s) (slice c.args.first c.args.end (words_of c.args.batch.now)) c.args.state.now)
both c g s leads given =
    c.take.ensures.read g _ (parameters_judge _ g s leads _ _ _ (λ k w asked told. (search (rules, of_calls), search (rules, of_calls), search (rules, of_calls))))

pub returns : goal.returns
returns c = record { answer = λ g s leads given. (both c g s leads given).0; state = λ g s leads given. (both c g s leads given).1 }
