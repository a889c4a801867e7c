-- No word, a setting that is refused, or one that is not.
-- Assumes nothing.
use Rattle.std.proofs.Common.{rules, arith, ◌≡◌, refl, Some, None, Err}
use Rattle.meaning.specs.declared.Reason.TheVariants.{BadSetting}
use Rattle.meaning.specs.Words.{words_of}
use Rattle.bodies.proofs.Bodies.{body_done, among_words}
use Rattle.headers.proofs.Groups.{unnamed}
use Rattle.packets.proofs.Headed.{leads, settled, unsettled}
use Rattle.packets.proofs.read_lone.Goals as goal

pub returns-then-at-end : goal.returns-then-at-end
returns-then-at-end c = record { read = λ g st. body_done g (words_of c.args.batch.now) _ c.args.end (among_words c.args.batch.now _ c.requires.places.1) _ st c.args.at refl c.if-at-end.true }

pub returns-in_err-ok_or : goal.returns-in_err-ok_or
returns-in_err-ok_or c =
    let none : c.group_of.result ≡ None = search rules in
    let told : c.from_residual.result ≡ Err (record { reason = BadSetting; place = c.args.at }) = search rules in
    record { read = λ g st. rw told (unsettled g (words_of c.args.batch.now) c.args.at c.word.ensures.word _ (omega arith) (among_words c.args.batch.now _ c.requires.places.1) st (unnamed _ c.group_of.ensures.group none)) }

pub returns : goal.returns
returns c =
    let some : c.group_of.result ≡ Some c.in_ok-ok_or.field-0 = search rules in
    let whole = among_words c.args.batch.now _ c.requires.places.1 in
    record { read = λ g st. settled g (words_of c.args.batch.now) c.args.at c.word.ensures.word _ (omega arith) whole st (leads _ c.group_of.ensures.group some).fine (body_done g (words_of c.args.batch.now) _ c.args.end whole _ st _ refl (omega arith)) }
