-- In each branch the number of digits is known, and with it the room.
-- Assumes nothing.
use mathlib.Core.Path.{◌≡◌, ap}
use mathlib.Core.List.{[], ◌∷◌}
use Prim.Native.Nat.{◌/◌, ◌%◌}
use native.Mathlib.Omega.{arith}
use native.Mathlib.Numerals.{towards_suc}
use lib.ListN.{length, length-set}
use Rattle.meaning.specs.Lister.{decimal, digit}
use Rattle.lister.proofs.Head.{one_digit, two_digits, three_digits}
use Rattle.lister.proofs.put_decimal.Goals as goal
use Rattle.lister.proofs.put_decimal.Goals.{Else-n-lt100, Then-n-lt100}

-- the digits of a number of two, and of three
two : (t : Then-n-lt100) → decimal t.args.n ≡ digit (t.args.n / 10) ∷ digit (t.args.n % 10) ∷ []
two t = two_digits _ t.if-n-lt10.false t.if-n-lt100.true

three : (t : Else-n-lt100) → decimal t.args.n ≡ digit (t.args.n / 100) ∷ digit (t.args.n / 10 % 10) ∷ digit (t.args.n % 10) ∷ []
three t = three_digits _ t.if-n-lt10.false t.if-n-lt100.false

pub bounds-out-at : goal.bounds-out-at
bounds-out-at c = omega (arith, ap length (one_digit c.args.n c.if-n-lt10.true))

pub returns-then-n-lt10 : goal.returns-then-n-lt10
returns-then-n-lt10 c = record { stored = rw (one_digit c.args.n c.if-n-lt10.true, c.decimal_digit.ensures.digit) }

pub bounds-out-at-then-n-lt100 : goal.bounds-out-at-then-n-lt100
bounds-out-at-then-n-lt100 c = omega (arith, ap length (two (goal.at.bounds-out-at-then-n-lt100 c).Then-n-lt100))

pub bounds-out-at-then-n-lt100-2 : goal.bounds-out-at-then-n-lt100-2
bounds-out-at-then-n-lt100-2 c = simp length-set (omega (arith, ap length (two (goal.at.bounds-out-at-then-n-lt100-2 c).Then-n-lt100)))

pub returns-then-n-lt100 : goal.returns-then-n-lt100
returns-then-n-lt100 c = record { stored = rw (two (goal.at.returns-then-n-lt100 c).Then-n-lt100, c.decimal_digit-then-n-lt100-2.ensures.digit, c.decimal_digit-then-n-lt100.ensures.digit) (simp towards_suc) }

pub bounds-out-at-2 : goal.bounds-out-at-2
bounds-out-at-2 c = omega (arith, ap length (three (goal.at.bounds-out-at-2 c).Else-n-lt100))

pub bounds-out-at-3 : goal.bounds-out-at-3
bounds-out-at-3 c = simp length-set (omega (arith, ap length (three (goal.at.bounds-out-at-3 c).Else-n-lt100)))

pub bounds-out-at-4 : goal.bounds-out-at-4
bounds-out-at-4 c = simp length-set (omega (arith, ap length (three (goal.at.bounds-out-at-4 c).Else-n-lt100)))

pub returns : goal.returns
returns c = record { stored = rw (three (goal.at.returns c).Else-n-lt100, c.decimal_digit-4.ensures.digit, c.decimal_digit-3.ensures.digit, c.decimal_digit-2.ensures.digit) (simp towards_suc) }
