-- The name, its place in the range, the value, its width; each way out is a law of Whole.
-- Assumes nothing.
use Rattle.std.proofs.Common.{rules, of_calls, None}
use mathlib.Core.Path.{◌≡◌}
use native.Mathlib.Omega.{arith}
use lib.ListN.{drop, length-drop}
use lib.Seq.{drop-drop}
use Rattle.lines.specs.Lines.{value_text}
use Rattle.line_reader.specs.Read.{Stands}
use Rattle.line_reader.proofs.Whole.{name_ends, too_short, no_name, before_first, past_end, by_no_room, no_value, too_wide, line_3d_lem, line_video_lem}
use Rattle.line_reader.proofs.read_line.Goals as goal
use Rattle.line_reader.proofs.read_line.Goals.{In_ok-value}

pub returns-then-rest-lt22 : goal.returns-then-rest-lt22
returns-then-rest-lt22 c = record { line = too_short _ c.args.first c.args.end c.requires.cells (omega (arith, length-drop c.args.at c.args.text.now)) }

pub returns-in_err-name : goal.returns-in_err-name
returns-in_err-name c =
    let none : c.from_residual.result ≡ None = search (rules, of_calls) in
    record { line = rw none (no_name _ c.args.first c.args.end c.requires.cells c.in_err-name.ensures.none) }

pub returns-then-name-first : goal.returns-then-name-first
returns-then-name-first c = record { line = before_first _ c.args.first c.args.end c.requires.cells c.in_ok-name.ensures.name (omega arith) }

pub returns-then-end-name : goal.returns-then-end-name
returns-then-end-name c = record { line = past_end _ c.args.first c.args.end c.requires.cells c.in_ok-name.ensures.name (omega arith) }

pub overflow_add-name : goal.overflow_add-name
overflow_add-name c = omega (arith, name_ends _ c.in_ok-name.ensures.name)

pub returns-then-rest-name : goal.returns-then-rest-name
returns-then-rest-name c = record {
  line = by_no_room _ c.args.first c.args.end c.requires.cells c.in_ok-name.ensures.name (omega (arith, length-drop c.args.at c.args.text.now));
}

pub returns-in_err-value : goal.returns-in_err-value
returns-in_err-value c =
    let none : c.from_residual-in_err-value.result ≡ None = search (rules, of_calls) in
    record {
      line = rw none
          (no_value _ c.args.first c.args.end c.requires.cells c.in_ok-name.ensures.name (rw (drop-drop c.in_ok-name.name.end c.args.at c.args.text.now) c.in_err-value.ensures.value));
    }

-- the value behind the name
stands : (c : In_ok-value) → Stands value_text 14 (drop c.in_ok-name.name.end (drop c.args.at c.args.text.now)) c.in_ok-value.value
stands c = rw (drop-drop c.in_ok-name.name.end c.args.at c.args.text.now) c.in_ok-value.ensures.value

pub returns-then-value-gt16777215 : goal.returns-then-value-gt16777215
returns-then-value-gt16777215 c = record {
  line = too_wide _ c.args.first c.args.end c.requires.cells c.in_ok-name.ensures.name (stands (goal.at.returns-then-value-gt16777215 c).In_ok-value) (omega arith) (omega arith);
}

pub returns-else-value-gt16777215 : goal.returns-else-value-gt16777215
returns-else-value-gt16777215 c = record {
  line = line_3d_lem _ c.args.first c.args.end c.requires.cells c.in_ok-name.ensures.name (stands (goal.at.returns-else-value-gt16777215 c).In_ok-value) (omega arith) (omega arith)
      (omega arith) (omega arith);
}

pub returns-else-name-lt-FIRST_VIDEO : goal.returns-else-name-lt-FIRST_VIDEO
returns-else-name-lt-FIRST_VIDEO c = record {
  line = line_video_lem _ c.args.first c.args.end c.requires.cells c.in_ok-name.ensures.name (stands (goal.at.returns-else-name-lt-FIRST_VIDEO c).In_ok-value)
      (omega (arith, c.if-name-first.false)) (omega arith) (omega arith);
}
