-- Section by section, none of the cells before is bad.
-- Assumes nothing.
use Prim.Native.Nat.{◌+◌, ◌*◌}
use Rattle.meaning.specs.Words.{words_of}
use Rattle.search.proofs.Lowest.{NoneBefore}
use Rattle.search.proofs.all_writable.Given as goal

abbrev pub invariant-loop-n : goal.invariant-loop-n
invariant-loop-n l = NoneBefore l.kept (words_of l.state) (4 + 2 * l.n)

abbrev pub invariant-loop-n-2 : goal.invariant-loop-n-2
invariant-loop-n-2 l = NoneBefore l.kept (words_of l.state) (36 + 3 * l.n)

abbrev pub invariant-loop-n-3 : goal.invariant-loop-n-3
invariant-loop-n-3 l = NoneBefore l.kept (words_of l.state) (87 + 7 * l.n)
