-- The three words of a 3D name, or the two of a video name.
-- Assumes nothing.
use Rattle.std.proofs.Common.{rules, of_calls, None}
use mathlib.Core.Path.{◌≡◌}
use mathlib.Core.List.{[], ◌∷◌}
use native.Mathlib.Omega.{arith}
use lib.ListN.{take, drop}
use Rattle.laws.specs.Lists.{All}
use Rattle.meaning.specs.Words.{Word, bytes_of}
use Rattle.line_reader.proofs.Fours.{four_on, three_words}
use Rattle.line_reader.proofs.Names.{no_key, at_3d, at_video, no_video}
use Rattle.line_reader.proofs.name_at.Goals as goal
use Rattle.line_reader.proofs.name_at.Goals.{After-cell_3d}

-- the words that were read, and the bytes that they are
words : (c : After-cell_3d) → All Word (c.four.result ∷ c.four-kind.result ∷ c.four-2.result ∷ [])
words c = (c.four.ensures.four.word, (c.four-kind.ensures.four.word, (c.four-2.ensures.four.word, tt)))

front : (c : After-cell_3d) → take 12 (drop c.args.at c.args.text.now)
    ≡ bytes_of (c.four.result ∷ c.four-kind.result ∷ c.four-2.result ∷ [])
front c =
    three_words (drop c.args.at c.args.text.now) _ _ _ c.four.ensures.four.same
    (four_on c.args.text.now c.args.at 4 c.four-kind.ensures.four) (four_on c.args.text.now c.args.at 8 c.four-2.ensures.four)

pub returns-then-four-ne-REG_KEY-clause-none : goal.returns-then-four-ne-REG_KEY-clause-none
returns-then-four-ne-REG_KEY-clause-none c = no_key (drop c.args.at c.args.text.now) c.four.result c.four.ensures.four.word c.four.ensures.four.same (λ e. omega arith)

pub returns-in-Some-clause-name : goal.returns-in-Some-clause-name
returns-in-Some-clause-name c =
    let at = (goal.at.returns-in-Some-clause-name c).After-cell_3d in
    at_3d _ _ _ _ (words at) (front at) (omega arith) c.in-Some.cell c.in-Some.ensures.cell

pub returns-in_err-cell-clause-none : goal.returns-in_err-cell-clause-none
returns-in_err-cell-clause-none c =
    let at = (goal.at.returns-in_err-cell-clause-none c).After-cell_3d in
    let none : c.from_residual.result ≡ None = search (rules, of_calls) in
    rw none (no_video _ _ _ _ (words at) (front at) (omega arith) c.in_default.ensures.cell c.in_err-cell.ensures.cell)

pub returns-clause-name : goal.returns-clause-name
returns-clause-name c =
    let at = (goal.at.returns-clause-name c).After-cell_3d in
    at_video _ _ _ _ (words at) (front at) (omega arith) c.in_default.ensures.cell c.in_ok-cell.cell c.in_ok-cell.ensures.cell
