-- Without a parameter nothing is stored, and else the two words of the head.
-- Assumes nothing.
use mathlib.Core.Path.{ap, ◌∙◌}
use Prim.Native.Nat.{◌+◌}
use native.Mathlib.Omega.{arith}
use lib.ListN.{length}
use borrow.Author.Tests.{eq-eqb, ne_eqb}
use Rattle.words.proofs.Stores.{length_put}
use Rattle.emitter_3d.specs.Closed.{closed_end, closed_words}
use Rattle.emitter_3d.proofs.Cells.{two_stored}
use Rattle.emitter_3d.proofs.close_packet.Goals as goal

pub put_word-requires : goal.put_word-requires
put_word-requires c = record { inside = omega (arith, c.requires.room c.if-end-at.false) }

pub put_word-requires-2 : goal.put_word-requires-2
put_word-requires-2 c = record { inside = omega (arith, c.requires.room c.if-end-at.false, ap length c.put_word.ensures.stored ∙ length_put _ _ _) }

pub returns-then-end-at : goal.returns-then-end-at
unfolding closed_end closed_words
returns-then-end-at c =
    let e = eq-eqb c.args.end (c.args.at + 2) c.if-end-at.true in
    record { end = rw e; words = rw e }

pub returns : goal.returns
unfolding closed_end closed_words
returns c =
    let e = ne_eqb c.args.end (c.args.at + 2) c.if-end-at.false in
    record { end = rw e; words = rw e (two_stored _ _ _ _ c.put_word.ensures.stored c.put_word-2.ensures.stored) }
