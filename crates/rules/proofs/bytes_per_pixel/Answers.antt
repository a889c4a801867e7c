-- The digit of each format byte is right for every number.
-- Assumes nothing.
use Rattle.rules.proofs.Formats.{rows, digit}
use Rattle.rules.proofs.bytes_per_pixel.Goals as goal

pub returns : goal.returns
unfolding rows
returns c = record { found = digit c.args.byte }
