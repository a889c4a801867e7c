-- Each word is judged by the rule of its own register.
-- Assumes nothing.
use Rattle.std.proofs.Common.{rules, of_calls, arith, ◌+◌}
use Rattle.std.proofs.Math.Seq.{slice}
use Rattle.meaning.specs.declared.Kind.TheVariants.{Video}
use Rattle.meaning.specs.Words.{words_of}
use Rattle.meaning.specs.Registers.{cell}
use Rattle.meaning.specs.Grants.{Terms}
use Rattle.meaning.specs.Answers.{answer_in}
use Rattle.registers.specs.Names.{offset_of}
use Rattle.bodies.specs.Passes.{body_from, Comes}
use Rattle.bodies.proofs.Bodies.{row_overlay, run_read}
use Rattle.bodies.proofs.take_overlay.Goals as goal
use Rattle.bodies.proofs.take_overlay.Goals.{After-take}

both : (c : After-take) (g : Terms) → Comes (answer_in c.take.result) c.take.new.state (body_from g c.args.first (Video (offset_of (cell (84 + c.args.index)))) (slice c.args.first c.args.end (words_of c.args.batch.now)) c.args.state.now)
both c g =
    run_read _ g 84 3 (omega arith) (omega arith) row_overlay _ _ _ c.requires.row _ _ _ (c.take.ensures.read g)
    (λ k w asked few told. (search (rules, of_calls), search (rules, of_calls), search (rules, of_calls)))

pub returns : goal.returns
returns c = record { answer = λ g. (both c g).0; state = λ g. (both c g).1 }
