-- `sampling::tied` meets its contract: the four bits tell which codes are 2.
-- Assumes nothing.
use mathlib.Core.Path.{◌∙◌}
use Rattle.sampling.proofs.Ties.{tied_codes}
use Rattle.sampling.proofs.tied.Goals as goal

pub returns : goal.returns
returns c = record { permitted = c.tied_set.ensures.permitted ∙ tied_codes c.args.value }
