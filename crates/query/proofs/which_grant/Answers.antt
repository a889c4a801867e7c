-- 1, then 2, then the grant.
-- Assumes nothing.
use mathlib.Core.Path.{◌≡◌, refl, sym, ◌∙◌}
use mathlib.Core.Bool.{true}
use Rattle.laws.proofs.Tests.{holds_of}
use Rattle.meaning.specs.Words.{words_of}
use Rattle.meaning.specs.Grants.{grants_fine, terms_of}
use Rattle.meaning.specs.State.{well_formed}
use Rattle.meaning.proofs.States.{formed_iff}
use Rattle.grants.specs.Kept.{Names, Bounded}
use Rattle.keeping.proofs.Keeping.{begun_by_lem, names_after}
use Rattle.query.proofs.Asked.{state_refused, grants_refused, told}
use Rattle.query.proofs.which_grant.Goals as goal
use Rattle.query.proofs.which_grant.Goals.{Else-not-well_formed, Else-not-begin, After-place}

-- what the first test told
formed : (c : Else-not-well_formed) → well_formed (words_of c.args.state.now) ≡ true
formed c = sym c.if-not-well_formed.ensures.formed

-- the grants keep their rules,
fine : (c : Else-not-begin) → grants_fine (words_of c.args.grants.now) ≡ true
fine c = sym c.if-not-begin.ensures.fine

-- and are kept
kept : (c : After-place) → Names (terms_of (words_of c.args.grants.now)) c.place.new.starts c.place.new.lasts c.place.new.numbers c.place.new.bounds × Bounded c.place.new.bounds
kept c =
    let k = c.place.ensures in
    names_after _ _ _ _ (refl, (refl, refl)) (sym c.if-not-begin.ensures.fine) (k.starts, (k.lasts, (k.numbers, k.bounds)))

pub returns-then-not-well_formed : goal.returns-then-not-well_formed
returns-then-not-well_formed c = record { answer = rw c.at.ensures.at (state_refused _ _ _ (sym c.if-not-well_formed.ensures.formed)) }

pub returns-then-not-begin : goal.returns-then-not-begin
returns-then-not-begin c = record {
  answer = rw c.at-then-not-begin.ensures.at (grants_refused _ _ _ (formed (goal.at.returns-then-not-begin c).Else-not-well_formed) (sym c.if-not-begin.ensures.fine));
}

pub place-requires-clause-begun : goal.place-requires-clause-begun
place-requires-clause-begun c = c.begin.ensures.begun ∙ begun_by_lem _ (fine (goal.at.place-requires-clause-begun c).Else-not-begin)

pub invariant_of-kept : goal.invariant_of-kept
invariant_of-kept c = record { bounded = (kept (goal.at.invariant_of-kept c).After-place).1 }

pub which_at-requires : goal.which_at-requires
which_at-requires c = record { whole = ((formed_iff _).0 (holds_of (formed (goal.at.which_at-requires c).Else-not-well_formed))).size }

pub returns : goal.returns
returns c = record {
  answer =
      let good = fine (goal.at.returns c).Else-not-begin in
      told _ _ _ (formed (goal.at.returns c).Else-not-well_formed) good (c.which_at.ensures.at _ (holds_of good) (kept (goal.at.returns c).After-place).0) c.unwrap_or.ensures;
}
