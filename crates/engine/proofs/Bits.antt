-- Marks as bits: what the functions ask of them. That they are the marks of a state is shown in promises/proofs/Marks.
-- Assumes nothing.
use mathlib.Core.Path.{◌≡◌, refl, ap, ◌∙◌}
use mathlib.Core.Logic.{◌≢◌}
use mathlib.Core.Bool.{true, cond}
use mathlib.Core.List.{List, map}
use Prim.Native.Nat.{ℕ, zero, suc, ◌+◌, ◌*◌, ◌%◌, ◌^◌, ◌<◌}
use native.Mathlib.Omega.{arith}
use lib.ListN.{length, get_or, length-map}
use lib.Pow.{pow-lt}
use Rattle.laws.specs.Lists.{from}
use Rattle.meaning.specs.Registers.{cells, cell}
use Rattle.meaning.specs.State.{is_mark, mark_at}
use Rattle.engine.specs.Bits.{bit_of, marks_of, with_mark, packed}

-- a bit that is shifted up stays inside its word
pub one_shifted : (k : ℕ) → k < 32 → 1 * 2 ^ k % 4294967296 ≡ 2 ^ k
one_shifted k h = let small : 2 ^ k < 4294967296 = pow-lt h in omega arith

-- ---- the bits of all cells

length_from : (i n : ℕ) → length (from i n) ≡ n
unfolding from
length_from i zero = refl
length_from i (suc n) = ap suc (length_from (suc i) n)

mapped_from : (f : ℕ → ℕ) (i n k : ℕ) → k < n → get_or (map f (from i n)) k 0 ≡ f (i + k)
unfolding from
mapped_from f i zero k h = absurd (omega arith)
mapped_from f i (suc n) zero h = let e : i ≡ i + 0 = omega arith in ap f e
mapped_from f i (suc n) (suc k) h = let e : suc i + k ≡ i + suc k = omega arith in mapped_from f (suc i) n k (omega arith) ∙ ap f e

pub marks_length : (ms : List ℕ) → length (marks_of ms) ≡ cells
unfolding marks_of
marks_length ms = length-map (from 0 cells) (bit_of ms) ∙ length_from 0 cells

pub mark_at_lem : (ms : List ℕ) (c : ℕ) → c < cells → get_or (marks_of ms) c 0 ≡ bit_of ms c
unfolding marks_of
mark_at_lem ms c h = let e : 0 + c ≡ c = omega arith in mapped_from (bit_of ms) 0 cells c h ∙ ap (bit_of ms) e

-- ---- the marks of a state

-- a mark that is not 0 marks its cell
pub is_marked : (m : ℕ) → m ≢ 0 → is_mark m ≡ true
is_marked zero n = absurd (n refl)
is_marked (suc m) n = refl

-- one more cell of a state looked at
pub one_loaded : (st : List ℕ) (n : ℕ) (ms cur : List ℕ) {m : ℕ} {next : List ℕ} → m ≡ mark_at st (cell n) → cur ≡ packed st n ms
    → next ≡ cond (is_mark m) (with_mark cur n) cur → next ≡ packed st (n + 1) ms
unfolding packed
one_loaded st n ms cur e inv f = let s : n + 1 ≡ suc n = omega arith in rw s (f ∙ rw (e, inv))
