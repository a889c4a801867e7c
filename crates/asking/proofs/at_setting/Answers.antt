-- The setting names a group, or is refused.
-- Assumes nothing.
use mathlib.Core.Path.{◌∙◌}
use Rattle.headers.proofs.Groups.{unnamed}
use Rattle.asking.proofs.Asking.{setting_refused, setting_taken}
use Rattle.asking.proofs.Positions.{leads}
use Rattle.asking.proofs.at_setting.Goals as goal

pub returns-in-Some : goal.returns-in-Some
returns-in-Some c = record { asked = λ g. c.moved_on.ensures.moved ∙ setting_taken g _ _ (leads _ c.group_of.ensures.group c.in-Some.is).fine }

pub returns-in-None : goal.returns-in-None
returns-in-None c = record { asked = λ g. setting_refused g _ _ (unnamed _ c.group_of.ensures.group c.in-None.is) }
