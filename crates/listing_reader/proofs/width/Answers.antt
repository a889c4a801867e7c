-- 26 and 22 bytes are the lengths of the forms.
-- Assumes nothing.
use native.Mathlib.Omega.{arith}
use Rattle.listing_reader.proofs.Loop.{width_3d, width_video}
use Rattle.listing_reader.proofs.width.Goals as goal

pub returns-then-c-lt-FIRST_VIDEO : goal.returns-then-c-lt-FIRST_VIDEO
returns-then-c-lt-FIRST_VIDEO c = record { width = width_3d c.args.c (omega arith) }

pub returns : goal.returns
returns c = record { width = width_video c.args.c (omega arith) }
