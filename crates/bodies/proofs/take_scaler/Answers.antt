-- Each word is judged by the rule of its own register.
-- Assumes nothing.
use Rattle.std.proofs.Common.{rules, of_calls, arith, ℕ, ◌+◌}
use Rattle.std.proofs.Math.Seq.{slice}
use Rattle.meaning.specs.declared.Kind.TheVariants.{Video}
use Rattle.meaning.specs.Words.{words_of}
use Rattle.meaning.specs.Registers.{cell}
use Rattle.meaning.specs.Grants.{Terms}
use Rattle.meaning.specs.Answers.{answer_in}
use Rattle.registers.specs.Names.{offset_of}
use Rattle.grants.specs.Held.{IsRole}
use Rattle.rows_video.specs.Scalers.{Scaler}
use Rattle.rows_video.proofs.Scalers.{scaler_cells}
use Rattle.bodies.specs.Passes.{body_from, Comes}
use Rattle.bodies.proofs.Bodies.{row_scaler, run_read}
use Rattle.bodies.proofs.take_scaler.Goals as goal
use Rattle.bodies.proofs.take_scaler.Goals.{After-take}

both : (c : After-take) (g : Terms) (role : ℕ) → Scaler c.args.base.0 role → IsRole g role c.args.part.now
    → Comes (answer_in c.take.result) c.take.new.state (body_from g c.args.first (Video (offset_of (cell (c.args.base.0 + c.args.index)))) (slice c.args.first c.args.end (words_of c.args.batch.now)) c.args.state.now)
both c g role sc given =
    run_read _ g c.args.base.0 7 (omega (arith, (scaler_cells sc).0)) (omega (arith, (scaler_cells sc).1)) (λ i few. row_scaler _ role i sc few) _ _ _ c.requires.row _ _ _ (c.take.ensures.read g)
    (λ k w asked few told. (search (rules, of_calls), search (rules, of_calls), search (rules, of_calls)))

pub returns : goal.returns
returns c = record { answer = λ g role sc given. (both c g role sc given).0; state = λ g role sc given. (both c g role sc given).1 }
