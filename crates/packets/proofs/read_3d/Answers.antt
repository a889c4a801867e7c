-- The setting names the group, or is refused.
-- Assumes nothing.
use Rattle.std.proofs.Common.{rules, arith, ◌≡◌, Some, None, Err}
use Rattle.meaning.specs.declared.Reason.TheVariants.{BadSetting}
use Rattle.meaning.specs.Words.{words_of}
use Rattle.headers.specs.Told.{Leads}
use Rattle.headers.proofs.Groups.{unnamed}
use Rattle.bodies.proofs.Bodies.{among_words}
use Rattle.packets.proofs.Headed.{leads, settled, unsettled, kept_target}
use Rattle.packets.proofs.read_3d.Goals as goal
use Rattle.packets.proofs.read_3d.Goals.{In_ok-group}

-- the group that it names
named : (c : In_ok-group) → Leads c.word.result c.in_ok-group.group
named c = let some : c.group_of.result ≡ Some c.in_ok-group.group = search rules in leads _ c.group_of.ensures.group some

pub returns-in_err-group : goal.returns-in_err-group
returns-in_err-group c =
    let none : c.group_of.result ≡ None = search rules in
    let told : c.from_residual.result ≡ Err (record { reason = BadSetting; place = c.args.at }) = search rules in
    record { read = λ g k. rw told (unsettled g (words_of c.args.batch.now) c.args.at c.word.ensures.word _ (omega arith) (among_words c.args.batch.now _ c.requires.places.1) _ (unnamed _ c.group_of.ensures.group none)) }

pub take_parameters-requires-clause-group : goal.take_parameters-requires-clause-group
take_parameters-requires-clause-group c = (named (goal.at.take_parameters-requires-clause-group c).In_ok-group).group

pub returns : goal.returns
returns c =
    let own = named (goal.at.returns c).In_ok-group in
    let told = c.take_parameters.ensures in
    record {
      read = λ g k.
          let given = kept_target c.part_of-part.ensures.role g k in
          settled g (words_of c.args.batch.now) c.args.at c.word.ensures.word _ (omega arith) (among_words c.args.batch.now _ c.requires.places.1) _ own.fine (told.answer g _ own given, told.state g _ own given);
    }
