-- Another number of words, then a mark that is too great, then the values decide.
-- Assumes nothing.
use Rattle.std.proofs.Common.{eqb, arith}
use Rattle.laws.proofs.Tests.{holds_of}
use Rattle.meaning.specs.Words.{words_of}
use Rattle.meaning.proofs.Bytes.{length_words}
use Rattle.states.proofs.Formed.{no_state, mark_great, marks_small, values_decide}
use Rattle.states.proofs.well_formed.Goals as goal

pub returns-then-state-ne-STATE_WORDS : goal.returns-then-state-ne-STATE_WORDS
returns-then-state-ne-STATE_WORDS c = record { formed = no_state (words_of c.args.state.now) (λ e. c.if-state-ne-STATE_WORDS.true (omega (arith, length_words c.args.state.now))) }

pub gathered_marks-requires : goal.gathered_marks-requires
gathered_marks-requires c = record { whole = omega (arith, length_words c.args.state.now) }

pub returns-then-gathered_marks-gt1 : goal.returns-then-gathered_marks-gt1
returns-then-gathered_marks-gt1 c = record { formed = mark_great (words_of c.args.state.now) c.gathered_marks.result (omega (arith, length_words c.args.state.now)) c.gathered_marks.ensures.small (omega arith) }

pub returns : goal.returns
returns c = record {
  formed = let small = marks_small (words_of c.args.state.now) c.gathered_marks.result c.gathered_marks.ensures.small (omega arith) in
      values_decide (words_of c.args.state.now) (eqb c.gathered_excess.result 0) (omega (arith, length_words c.args.state.now)) small c.gathered_excess.ensures.clear;
}

pub gathered_excess-requires : goal.gathered_excess-requires
gathered_excess-requires c =
    let small = marks_small (words_of c.args.state.now) c.gathered_marks.result c.gathered_marks.ensures.small (omega arith) in
    record { whole = omega (arith, length_words c.args.state.now); marks = holds_of small }
