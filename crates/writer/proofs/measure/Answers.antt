-- Each test by what it came to; with no refusal, the words that are needed.
-- Assumes nothing.
use mathlib.Core.Path.{◌≡◌, refl, sym, ◌∙◌}
use mathlib.Core.Bool.{true}
use lib.ListN.{length}
use mir.Facts.{eqb_yes}
use Rattle.laws.proofs.Tests.{holds_of}
use Rattle.meaning.specs.Words.{words_of}
use Rattle.meaning.specs.Registers.{cells}
use Rattle.meaning.specs.Grants.{grants_fine, terms_of}
use Rattle.meaning.specs.State.{state_words, well_formed}
use Rattle.meaning.specs.Pair.{pair_fine}
use Rattle.meaning.specs.Writer.{with_pair, lowest_bad}
use Rattle.grants.specs.Kept.{Names, Bounded}
use Rattle.meaning.proofs.States.{formed_iff}
use Rattle.keeping.proofs.Keeping.{begun_by_lem, names_after, kept_after, near_after}
use Rattle.writer.proofs.Answers.{passed, paired, refused_cell, done}
use Rattle.writer.proofs.measure.Goals as goal
use Rattle.writer.proofs.measure.Goals.{After-lowest_bad-found, After-place, After-with_pair, Else-not-begin, Else-not-well_formed}

-- the state is well-formed, and so it is whole
formed : (c : goal.Else-not-well_formed) → well_formed (words_of c.args.state.now) ≡ true
formed c = sym c.if-not-well_formed.ensures.formed

formed_whole : (c : goal.Else-not-well_formed) → length (words_of c.args.state.now) ≡ state_words
formed_whole c = ((formed_iff _).0 (holds_of (formed c))).size

-- the grants keep their rules
fine : (c : goal.Else-not-begin) → grants_fine (words_of c.args.grants.now) ≡ true
fine c = sym c.if-not-begin.ensures.fine

-- and are kept
named : (c : goal.After-place)
    → Names (terms_of (words_of c.args.grants.now)) c.place.new.starts c.place.new.lasts c.place.new.numbers c.place.new.bounds × Bounded c.place.new.bounds
named c =
    let k = c.place.ensures in
    names_after _ _ _ _ (refl, (refl, refl)) (sym c.if-not-begin.ensures.fine) (k.starts, (k.lasts, (k.numbers, k.bounds)))

-- the lowest bad cell of all, as the search found it
found : (c : goal.After-lowest_bad-found) → c.lowest_bad-found.result ≡ lowest_bad (terms_of (words_of c.args.grants.now)) (words_of c.args.state.now) 0 cells
found c =
    let k = c.place.ensures in
    c.lowest_bad-found.ensures.lowest _ (kept_after _ _ _ _ (refl, (refl, refl)) (sym c.if-not-begin.ensures.fine) (k.starts, (k.lasts, (k.numbers, k.bounds)))).0

-- and with the pair
low : (c : goal.After-with_pair) → Names (terms_of (words_of c.args.grants.now)) c.place.new.starts c.place.new.lasts c.place.new.numbers c.place.new.bounds
    → let g = terms_of (words_of c.args.grants.now) in let st = words_of c.args.state.now in
    c.lowest_bad-found.result ≡ lowest_bad g st 0 cells → c.with_pair.result ≡ with_pair (pair_fine g st) (lowest_bad g st 0 cells)
low c names is =
    paired (words_of c.args.grants.now) (words_of c.args.state.now) (holds_of (sym c.if-not-begin.ensures.fine)) names is c.part_of-part.ensures.role
    c.with_pair.ensures.lowest

pub place-requires-clause-begun : goal.place-requires-clause-begun
place-requires-clause-begun c = c.begin.ensures.begun ∙ begun_by_lem _ (fine (goal.at.place-requires-clause-begun c).Else-not-begin)

pub invariant_of-kept : goal.invariant_of-kept
invariant_of-kept c = record { bounded = (named (goal.at.invariant_of-kept c).After-place).1 }

pub with_pair-requires-clause-whole : goal.with_pair-requires-clause-whole
with_pair-requires-clause-whole c = formed_whole (goal.at.with_pair-requires-clause-whole c).Else-not-well_formed

pub with_pair-requires-clause-near : goal.with_pair-requires-clause-near
with_pair-requires-clause-near c =
    let at = goal.at.with_pair-requires-clause-near c in
    let k = c.place.ensures in
    λ t l. passed (words_of c.args.grants.now) (words_of c.args.state.now) (named at.After-place).0
    (near_after _ _ _ _ (refl, (refl, refl)) (sym c.if-not-begin.ensures.fine) (k.starts, (k.lasts, (k.numbers, k.bounds))) (eqb_yes (holds_of t)))
    (found at.After-lowest_bad-found) c.part_of-part.ensures.role l

pub returns-in-Some-clause-answer : goal.returns-in-Some-clause-answer
returns-in-Some-clause-answer c =
    let at = goal.at.returns-in-Some-clause-answer c in
    let lowest = low at.After-with_pair (named at.After-place).0 (found at.After-lowest_bad-found) in
    rw c.at-in-Some.ensures.at (refused_cell _ _ (formed at.Else-not-well_formed) (fine at.Else-not-begin) (sym c.in-Some.is ∙ lowest))

pub needed-requires : goal.needed-requires
needed-requires c = record { whole = formed_whole (goal.at.needed-requires c).Else-not-well_formed }

pub returns-clause-answer : goal.returns-clause-answer
returns-clause-answer c =
    let at = goal.at.returns-clause-answer c in
    let lowest = low at.After-with_pair (named at.After-place).0 (found at.After-lowest_bad-found) in
    done _ _ (formed at.Else-not-well_formed) (fine at.Else-not-begin) (sym c.in_default.is ∙ lowest) c.needed.ensures.in_all
