-- There is a grant of the number, it is fine, and there is room for it.
-- Assumes nothing.
use mathlib.Core.Path.{ap, ◌∙◌}
use Prim.Native.Nat.{◌<◌}
use native.Mathlib.Omega.{arith}
use lib.ListN.{length}
use Rattle.meaning.specs.Words.{words_of}
use Rattle.meaning.specs.Grants.{grants_of}
use Rattle.meaning.proofs.Bytes.{length_words}
use Rattle.numbering.proofs.Grants.{length_grants, fine_list}
use Rattle.keeping.specs.Keeping.{Kept, read_as}
use Rattle.keeping.proofs.Placing.{Placeable, first, here, kept_turn, past_turn, ended}
use Rattle.keeping.proofs.place.Goals as goal
use Rattle.keeping.proofs.place.Goals.{After-read-grant, then-grant, else-grant}

low : (c : After-read-grant) → c.loop-number.number < length (grants_of (words_of c.args.grants.now))
low c = omega (arith, length_grants (words_of c.args.grants.now), length_words c.args.grants.now, c.loop-number-test.true)

placeable : (c : After-read-grant) → Placeable (read_as c.read-grant.result) c.loop-number.bounds
placeable c = here c.loop-number.invariant (low c) c.read-grant.ensures.grant

pub loop-number-init : goal.loop-number-init
loop-number-init c = first _ _ _ _ _ c.requires.fine c.requires.begun

pub bounds-bounds-end : goal.bounds-bounds-end
bounds-bounds-end c = omega (arith, (placeable (goal.at.bounds-bounds-end c).After-read-grant).high)

pub bounds-starts-at : goal.bounds-starts-at
bounds-starts-at c = (placeable (goal.at.bounds-starts-at c).After-read-grant).room

pub overflow_add-lasts : goal.overflow_add-lasts
overflow_add-lasts c = let g = placeable (goal.at.overflow_add-lasts c).After-read-grant in omega (arith, g.end, g.reach)

pub bounds-lasts-at : goal.bounds-lasts-at
bounds-lasts-at c = (placeable (goal.at.bounds-lasts-at c).After-read-grant).room

pub bounds-bounds-end-then-grant : goal.bounds-bounds-end-then-grant
bounds-bounds-end-then-grant c = omega (arith, (placeable (goal.at.bounds-bounds-end-then-grant c).After-read-grant).high)

pub bounds-bounds-end-then-grant-2 : goal.bounds-bounds-end-then-grant-2
bounds-bounds-end-then-grant-2 c = omega (arith, (placeable (goal.at.bounds-bounds-end-then-grant-2 c).After-read-grant).high)

pub note-requires-clause-few : goal.note-requires-clause-few
note-requires-clause-few c =
    let read = (goal.at.note-requires-clause-few c).After-read-grant in
    omega (arith, low read, length_grants (words_of c.args.grants.now), (fine_list (words_of c.args.grants.now) c.requires.fine).1, (placeable read).room)

pub note-requires-clause-memory : goal.note-requires-clause-memory
note-requires-clause-memory c = (placeable (goal.at.note-requires-clause-memory c).After-read-grant).memory

pub note-requires-clause-room : goal.note-requires-clause-room
note-requires-clause-room c = (placeable (goal.at.note-requires-clause-room c).After-read-grant).room

pub loop-number-preserved : goal.loop-number-preserved
loop-number-preserved c =
    let l = low (goal.at.loop-number-preserved c).After-read-grant in
    elim c.if-grant.branch [
      | then-grant w ↦
          kept_turn c.loop-number.invariant l c.read-grant.ensures.grant w.if-grant.true w.starts-is w.lasts-is (w.numbers-is ∙ w.note.ensures.numbers) (w.bounds-is ∙ w.note.ensures.bounds)
      | else-grant w ↦ past_turn c.loop-number.invariant l c.read-grant.ensures.grant w.if-grant.false w.starts-is w.lasts-is w.numbers-is w.bounds-is
    ]

pub returns : goal.returns
returns c =
    let all = ended c.loop-number.invariant (omega (arith, length_grants (words_of c.args.grants.now), length_words c.args.grants.now, c.loop-number-test.false)) in
    record {
      starts = ap (λ (k : Kept). k.starts) all;
      lasts = ap (λ (k : Kept). k.lasts) all;
      numbers = ap (λ (k : Kept). k.numbers) all;
      bounds = ap (λ (k : Kept). k.bounds) all;
    }
