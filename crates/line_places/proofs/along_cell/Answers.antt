-- Each kind of cell has its own bytes before the digits, and its number of digits.
-- Assumes nothing.
use native.Mathlib.Omega.{arith}
use Rattle.listings.proofs.Numbers.{line_3d_lem, line_video_lem}
use Rattle.line_places.proofs.along_cell.Goals as goal

pub returns-then-c-lt-FIRST_VIDEO : goal.returns-then-c-lt-FIRST_VIDEO
returns-then-c-lt-FIRST_VIDEO c = record { bytes = rw (line_3d_lem c.args.c (omega arith), ← c.before_3d-before.ensures.text) c.along_line.ensures.bytes }

pub returns : goal.returns
returns c = record { bytes = rw (line_video_lem c.args.c (omega arith), ← c.before_video-before.ensures.text) c.along_line-2.ensures.bytes }
