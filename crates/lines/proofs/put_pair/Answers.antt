-- The two bytes are those of the table of pairs, which has the digits.
-- Assumes nothing.
use native.Mathlib.Numerals.{add-one}
use Rattle.lines.proofs.Digits.{pair_at}
use Rattle.lines.proofs.put_pair.Goals as goal

pub returns : goal.returns
returns c = record { stored = rw (add-one c.args.at, ← pair_at c.args.n, c.requires.table) }
