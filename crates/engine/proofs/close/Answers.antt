-- The answer and the state are by the reason that is told.
-- Assumes nothing.
use mathlib.Core.Path.{refl, ap}
use Rattle.engine.specs.declared.Engine.{Engine}
use Rattle.engine.specs.Kept.{standing, opening, pair_judged, behind}
use Rattle.engine.proofs.Closing.{told_of, close_by}
use mir.Facts.{ltb_yes}
use Rattle.engine.proofs.close.Goals as goal

pub part_of-part-requires : goal.part_of-part-requires
part_of-part-requires c = record { role = ltb_yes tt }

pub hand_back-reason-requires : goal.hand_back-reason-requires
hand_back-reason-requires c = record { array = refl }

pub returns : goal.returns
returns c =
    let e : Engine = c.args.engine in
    let own = c.part_of-part.ensures.role in
    let told = told_of e (ap (λ r. r.now) own.starts) (ap (λ r. r.now) own.lasts) (ap (λ r. r.now) own.numbers) own.part c.hand_back-reason.ensures.reason in
    let both = close_by (pair_judged e) (standing e) (behind e) (opening e) told
    c.hand_back-reason.ensures.state in
    record { answer = both.0; state = both.1 }
