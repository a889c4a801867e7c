-- By the two tests.
-- Assumes nothing.
use mathlib.Core.Path.{refl}
use Rattle.meaning.specs.Words.{words_of}
use Rattle.engine.proofs.Opening.{refused, is_whole, may_place, opened}
use Rattle.engine.proofs.open.Goals as goal

pub begin-fine-requires : goal.begin-fine-requires
begin-fine-requires c = record { none = refl }

pub returns-then-reason-ne0 : goal.returns-then-reason-ne0
returns-then-reason-ne0 c = record {
  opened = refused (words_of c.args.state.now) (words_of c.args.grants.now) c.well_formed-formed.ensures.formed c.begin-fine.ensures.fine
      c.opening_reason-reason.ensures.reason c.if-reason-ne0.true c.refused.ensures.blank;
}

pub place-requires : goal.place-requires
place-requires c =
    let both = may_place (words_of c.args.state.now) (words_of c.args.grants.now) c.well_formed-formed.ensures.formed c.begin-fine.ensures.fine
    c.opening_reason-reason.ensures.reason c.if-reason-ne0.false c.begin-fine.ensures.begun in
    record { fine = both.0; begun = both.1 }

pub load-requires : goal.load-requires
load-requires c = record {
  whole = is_whole (words_of c.args.state.now) (words_of c.args.grants.now) c.well_formed-formed.ensures.formed c.begin-fine.ensures.fine
      c.opening_reason-reason.ensures.reason c.if-reason-ne0.false;
  array = refl;
}

pub returns : goal.returns
returns c = record {
  opened =
      let p = c.place.ensures in
      opened (words_of c.args.state.now) (words_of c.args.grants.now) c.well_formed-formed.ensures.formed c.begin-fine.ensures.fine
      c.opening_reason-reason.ensures.reason c.if-reason-ne0.false (p.starts, (p.lasts, (p.numbers, p.bounds)))
      c.load.ensures.values c.load.ensures.marked c.load.ensures.marks c.byte_bounds-bytes.ensures.bytes;
}
