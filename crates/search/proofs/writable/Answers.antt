-- The one cell that is searched is bad, or none is.
-- Assumes nothing.
use Rattle.laws.proofs.Arms.{told_true, told_false}
use Rattle.meaning.specs.Writer.{lowest_bad}
use Rattle.search.proofs.writable.Goals as goal

pub returns-then-fine : goal.returns-then-fine
unfolding lowest_bad
returns-then-fine c = record { lowest = λ g role is given. rw (told_true (c.fine.ensures.fine g role is given) c.if-fine.true) }

pub returns-else-fine : goal.returns-else-fine
unfolding lowest_bad
returns-else-fine c = record { lowest = λ g role is given. rw (told_false (c.fine.ensures.fine g role is given) c.if-fine.false) }
