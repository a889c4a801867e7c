-- Counting chosen cells one after another.
-- Assumes nothing.
use Rattle.std.proofs.Common.{◌≡◌, ℕ, zero, suc, ◌+◌, ◌-◌, ◌<◌, Bool, refl, arith}
use Rattle.meaning.specs.declared.Cell.{Cell}
use Rattle.meaning.specs.Registers.{cell}
use Rattle.meaning.specs.State.{is_mark, one, count_in}

-- what is not 0 is a mark
pub one_marked : (m : ℕ) → (m ≡ 0 → ⊥) → one (is_mark m) ≡ 1
one_marked zero n = absurd (n refl)
one_marked (suc m) n = refl

module _ (chosen : Cell → Bool) (i : ℕ) where
  -- the first cell of a range, and the rest
  pub count_next : (end : ℕ) → i < end → count_in chosen i (end - i) ≡ one (chosen (cell i)) + count_in chosen (i + 1) (end - (i + 1))
  unfolding count_in
  count_next end l =
      let e : end - i ≡ suc (end - suc i) = omega arith in
      let s : i + 1 ≡ suc i = omega arith in
      rw (e, s)

  -- a range with no cell has none that is chosen
  pub count_none : (n : ℕ) → n ≡ 0 → count_in chosen i n ≡ 0
  unfolding count_in
  count_none n e = rw e
