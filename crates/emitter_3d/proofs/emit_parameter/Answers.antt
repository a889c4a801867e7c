-- An unmarked cell emits nothing, and a marked one its parameter.
-- Assumes nothing.
use mathlib.Core.Path.{◌≡◌, sym, ap, ◌∙◌}
use mathlib.Core.List.{[], ◌∷◌}
use Prim.Native.Nat.{◌+◌, ◌*◌, ◌/◌, ◌<◌, ◌^◌}
use native.Mathlib.Omega.{arith}
use lib.ListN.{length}
use Rattle.meaning.specs.Words.{words_of}
use Rattle.emitter_3d.specs.Emitted.{parameter_of}
use Rattle.emitter_3d.proofs.Cells.{emits_none, parameter_none, parameter_one}
use Rattle.emitter_3d.proofs.emit_parameter.Goals as goal
use Rattle.emitter_3d.proofs.emit_parameter.Goals.{After-value}

pub returns-then-mark-eq0 : goal.returns-then-mark-eq0
returns-then-mark-eq0 c =
    let both =
    emits_none c.args.out.now c.args.at
    (parameter_none (words_of c.args.state.now) c.args.cell c.args.address (sym c.mark.ensures.mark ∙ c.if-mark-eq0.true)) in
    record { end = both.0; words = both.1 }

-- the cell is marked here
one : (c : goal.After-value) → parameter_of (words_of c.args.state.now) c.args.cell c.args.address ≡ (c.args.address.0 * 2 ^ 24 + c.value.result) ∷ []
one c =
    rw c.value.ensures.value
    (parameter_one (words_of c.args.state.now) c.args.cell c.args.address (λ e. c.if-mark-eq0.false (c.mark.ensures.mark ∙ e)))

place : (c : goal.After-value) → c.args.at < length c.args.out.now / 4
place c = omega (arith, ap length (one c), c.requires.room (omega (arith, ap length (one c))))

pub overflow_add-address : goal.overflow_add-address
overflow_add-address c = omega (arith, c.requires.short, c.requires.narrow (omega arith))

pub put_word-requires : goal.put_word-requires
put_word-requires c = record { inside = place (goal.at.put_word-requires c).After-value }

pub overflow_add-result : goal.overflow_add-result
overflow_add-result c = omega (arith, place (goal.at.overflow_add-result c).After-value)

pub returns : goal.returns
returns c =
    let there = one (goal.at.returns c).After-value in
    record { end = rw there (omega arith); words = rw there c.put_word.ensures.stored }
