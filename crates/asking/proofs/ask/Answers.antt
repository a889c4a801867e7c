-- The number that a word stands under tells which of the questions it is asked.
-- Assumes nothing.
use Rattle.std.specs.Prelude.{◌≡◌, Option, Some, None}
use mathlib.Core.Path.{refl}
use native.Mathlib.Omega.{arith}
use Rattle.headers.specs.declared.Group.{Group}
use Rattle.headers.proofs.Groups.{unnamed}
use Rattle.asking.proofs.Positions.{leads, from_setting, from_zero, from_offset, at_position}
use Rattle.asking.proofs.Parts.{target_part}
use Rattle.asking.proofs.ask.Goals as goal

pub returns-then-left-eq0 : goal.returns-then-left-eq0
returns-then-left-eq0 c = record { asked = λ g kept. at_position g _ refl c.if-left-eq0.true (c.at_header.ensures.asked g _) }

pub returns-then-under-eq0 : goal.returns-then-under-eq0
returns-then-under-eq0 c = record {
  asked = λ g kept. let other = unnamed _ c.group_of.ensures.group c.in_default.is in
      at_position g _ (from_zero _ other c.if-under-eq0.true) (omega arith) (c.at_setting.ensures.asked g);
}

pub returns-in_default : goal.returns-in_default
returns-in_default c = record {
  asked = λ g kept. let other = unnamed _ c.group_of.ensures.group c.in_default.is in
      at_position g _ (from_offset _ other c.if-under-eq0.false) (omega arith) (c.at_video.ensures.asked g kept);
}

pub at_parameter-requires : goal.at_parameter-requires
at_parameter-requires c = record { group = leads _ c.group_of.ensures.group c.in-Some.is }

pub returns : goal.returns
returns c = record {
  asked = λ g kept. let own = leads _ c.group_of.ensures.group c.in-Some.is in
      at_position g _ (from_setting _ own.fine) (omega arith) (c.at_parameter.ensures.asked g (target_part g _ kept c.part_of.ensures.role));
}
