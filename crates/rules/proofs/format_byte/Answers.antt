-- `rules::format_byte` meets its contract: the test is the definition's, at what the table gives.
-- Assumes nothing.
use Rattle.meaning.specs.Registers.{format_byte}
use Rattle.rules.proofs.format_byte.Goals as goal

pub returns : goal.returns
unfolding format_byte
returns c = record { rule = rw c.bytes_per_pixel.ensures.found }
