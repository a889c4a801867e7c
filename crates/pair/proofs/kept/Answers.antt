-- An address that came back is known; what is judged is the pair as it was read, before the marks were given back.
-- Assumes nothing.
use Rattle.std.proofs.lemmas.Grind.{common_steps}
use lib.ListN.{get_or}
use native.Mathlib.Omega.{arith}
use Rattle.pair.specs.declared.Pair.{Pair}
use Rattle.pair.specs.Marks.{came_back, restored}
use Rattle.pair.specs.Judged.{kept_in}
use Rattle.pair.proofs.Judged.{settled_fine}
use Rattle.pair.proofs.kept.Goals as goal

pub returns-then-settled-clause-kept : goal.returns-then-settled-clause-kept
unfolding kept_in came_back restored
returns-then-settled-clause-kept c =
    let p : Pair = record { target = get_or c.args.own.now 1 0; marked = c.back_to.result; location = get_or c.args.own.now 2 0; located = c.back_to-2.result } in
    grind (arith, common_steps, settled_fine c.args.part.now p c.requires.known c.settled.ensures.settled c.if-settled.true)
