-- The invariant: to place the grants from a number on in what is kept now is to place all in what was lent, and there is room for them.
-- Assumes nothing.
use Rattle.meaning.specs.Words.{words_of}
use Rattle.meaning.specs.Grants.{grants_of}
use Rattle.keeping.proofs.Placing.{Runs}
use Rattle.keeping.proofs.place.Given as goal

abbrev pub invariant-loop-number : goal.invariant-loop-number
invariant-loop-number l =
    Runs (grants_of (words_of l.grants)) l.initial.starts l.initial.lasts l.initial.numbers
    (record { starts = l.starts; lasts = l.lasts; numbers = l.numbers; bounds = l.bounds }) l.number
