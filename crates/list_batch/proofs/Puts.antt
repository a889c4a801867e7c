-- Texts that are put one behind another, and decimal digits.
-- Assumes nothing.
use mathlib.Core.Path.{◌≡◌, ap, ◌∙◌}
use mathlib.Core.Bool.{Bool, true, false, cond}
use mathlib.Core.List.{List, [], ◌∷◌, ◌++◌}
use Prim.Native.Nat.{ℕ, ◌+◌, ◌/◌, ◌%◌, ◌≤◌, ◌<◌}
use native.Mathlib.Omega.{arith}
use borrow.Author.Tests.{lt-ltb}
use lib.Dec.{leb}
use lib.ListN.{length, length-append}
use lib.Seq.{length-sets}
use Rattle.laws.proofs.Stores.{sets_behind}
use Rattle.meaning.specs.Lister.{digit}
use Rattle.list_batch.specs.Put.{Put}
use Rattle.list_batch.specs.Printed.{digit_for, decimal5}

-- ---- one text behind another

pub behind : {old mid new : List ℕ} {at next end : ℕ} {u v : List ℕ} → Put old at u mid next → Put mid next v new end → Put old at (u ++ v) new end
behind {old} {mid} {new} {at} {next} {end} {u} {v} p q =
    record {
      stored = q.stored ∙ rw p.stored (sets_behind old at next u v p.ends);
      ends = omega (arith, p.ends, q.ends, length-append u v);
    }

-- the room that is left behind a text of at most n bytes
pub room_behind : {old new : List ℕ} {at end : ℕ} {u : List ℕ} (n room : ℕ) → length u ≤ n → Put old at u new end → at + (n + room) ≤ length old → end + room ≤ length new
room_behind {old} {new} {at} {end} {u} n room few p l =
    let same : length new ≡ length old = ap length p.stored ∙ length-sets old at u in
    omega (arith, p.ends)

-- ---- digits

pub digit_small : (d : ℕ) → d < 10 → 48 + d ≡ digit d
unfolding digit
digit_small d l = rw (lt-ltb d 10 l)

pub one_digit : (unit n : ℕ) → length (digit_for unit n) ≤ 1
unfolding digit_for
one_digit unit n = by_test (leb unit n)
  where
    by_test : (b : Bool) → length (cond b (digit (n / unit % 10) ∷ []) []) ≤ 1
    by_test true = omega arith
    by_test false = omega arith

pub five_digits : (n : ℕ) → length (decimal5 n) ≤ 5
unfolding decimal5
five_digits n =
    omega (
      arith,
      length-append (digit_for 10000 n) (digit_for 1000 n ++ (digit_for 100 n ++ (digit_for 10 n ++ (digit (n % 10) ∷ [])))),
      length-append (digit_for 1000 n) (digit_for 100 n ++ (digit_for 10 n ++ (digit (n % 10) ∷ []))),
      length-append (digit_for 100 n) (digit_for 10 n ++ (digit (n % 10) ∷ [])),
      length-append (digit_for 10 n) (digit (n % 10) ∷ []),
      one_digit 10000 n,
      one_digit 1000 n,
      one_digit 100 n,
      one_digit 10 n,
    )
