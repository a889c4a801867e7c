-- A list that breaks its own rules, a bad grant, or all are counted.
-- Assumes nothing.
use mathlib.Core.Bool.{and-false}
use Prim.Native.Nat.{◌/◌, ◌%◌, ◌<◌}
use native.Mathlib.Omega.{arith}
use lib.ListN.{length}
use borrow.Author.Tests.{lt-leb, ne_eqb}
use Rattle.meaning.specs.Words.{words_of}
use Rattle.meaning.specs.Grants.{grants_of, grants_fine}
use Rattle.meaning.proofs.Bytes.{length_words}
use Rattle.numbering.proofs.Grants.{length_grants}
use Rattle.keeping.proofs.Counting.{bad_one, next_role, good_one, count_few, all_counted, one_bad}
use Rattle.keeping.proofs.count_roles.Goals as goal
use Rattle.keeping.proofs.count_roles.Goals.{In-loop-number, Else-not-fine, then-many-words-via-then-many-words, then-many-words-via-else-many-words+then-many-gt-MOST_GRANTS}

-- there is a grant of the number,
low : (c : In-loop-number) → c.loop-number.number < length (grants_of (words_of c.args.grants.now))
low c = omega (arith, length_grants (words_of c.args.grants.now), length_words c.args.grants.now, c.loop-number-test.true)

-- and the role of a fine one is counted
role : (c : Else-not-fine) → c.loop-number.number < length (grants_of (words_of c.args.grants.now)) → c.read-grant.result.role < 4
role c l = next_role c.loop-number.invariant l c.read-grant.ensures.grant c.fine.ensures.fine c.if-not-fine.false

pub returns-then-many-words : goal.returns-then-many-words
unfolding grants_fine
returns-then-many-words c =
    elim c.then-many-words.branch [
      | then-many-words-via-then-many-words w ↦ record { counts = rw (ne_eqb (length (words_of c.args.grants.now) % 5) 0 (λ e. omega (arith, length_words c.args.grants.now, w.if-many-words.true))) }
      | then-many-words-via-else-many-words+then-many-gt-MOST_GRANTS w ↦
          record { counts = rw (lt-leb (length (words_of c.args.grants.now) / 5) 64 (omega (arith, length_words c.args.grants.now, w.if-many-gt-MOST_GRANTS.true)), and-false) }
    ]

pub returns-then-not-fine : goal.returns-then-not-fine
returns-then-not-fine c = record {
  counts =
      one_bad (words_of c.args.grants.now)
      (bad_one c.loop-number.invariant (low (goal.at.returns-then-not-fine c).In-loop-number) c.read-grant.ensures.grant c.fine.ensures.fine c.if-not-fine.true);
}

pub bounds-counts-grant : goal.bounds-counts-grant
bounds-counts-grant c = role (goal.at.bounds-counts-grant c).Else-not-fine (low (goal.at.bounds-counts-grant c).In-loop-number)

pub overflow_add-counts : goal.overflow_add-counts
overflow_add-counts c =
    omega (
      arith,
      count_few c.loop-number.invariant _ (role (goal.at.overflow_add-counts c).Else-not-fine (low (goal.at.overflow_add-counts c).In-loop-number)),
      length_grants (words_of c.args.grants.now),
      length_words c.args.grants.now,
    )

pub bounds-counts-grant-in-loop-number : goal.bounds-counts-grant-in-loop-number
bounds-counts-grant-in-loop-number c = role (goal.at.bounds-counts-grant-in-loop-number c).Else-not-fine (low (goal.at.bounds-counts-grant-in-loop-number c).In-loop-number)

pub loop-number-preserved : goal.loop-number-preserved
loop-number-preserved c =
    good_one c.loop-number.invariant (low (goal.at.loop-number-preserved c).In-loop-number) c.read-grant.ensures.grant c.fine.ensures.fine c.if-not-fine.false

pub returns : goal.returns
returns c = record { counts = all_counted c.loop-number.invariant (omega (arith, length_words c.args.grants.now, c.loop-number-test.false)) (omega (arith, length_words c.args.grants.now)) (omega arith) }
