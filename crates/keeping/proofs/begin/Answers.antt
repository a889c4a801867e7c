-- The roles together have no more grants than there are.
-- Assumes nothing.
use native.Mathlib.Omega.{arith}
use Rattle.meaning.specs.Words.{words_of}
use Rattle.meaning.specs.Grants.{grants_of}
use Rattle.meaning.proofs.Bytes.{length_words}
use Rattle.numbering.proofs.Grants.{length_grants}
use Rattle.keeping.proofs.Room.{with_all}
use Rattle.keeping.proofs.begin.Goals as goal

pub overflow_add-third : goal.overflow_add-third
overflow_add-third c =
    let counted = c.in-Some.ensures.counts.counted in
    omega (
      arith,
      counted 1 (omega arith),
      counted 2 (omega arith),
      with_all (grants_of (words_of c.args.grants.now)),
      length_grants (words_of c.args.grants.now),
      length_words c.args.grants.now,
    )
