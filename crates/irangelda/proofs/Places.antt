-- The places of the lister are small enough for the number.
-- Assumes nothing.
use mathlib.Core.List.{List}
use Prim.Native.Nat.{ℕ, ◌≤◌}
use native.Mathlib.Omega.{arith}
use Rattle.meaning.specs.Lister.{list_answer}
use Rattle.meaning.specs.Exported.{most_bytes}
use Rattle.meaning.specs.Reasons.{ListerGives}
use Rattle.meaning.proofs.Outputs.{list_told, listing_at_most}

pub list_place : (st : List ℕ) (room : ℕ) → (list_answer st room).place ≤ most_bytes
list_place st room = small (list_told st room)
  where
    small : {r p : ℕ} → ListerGives st room r p → p ≤ most_bytes
    small (ListerGives.by_bad_state s) = omega arith
    small (ListerGives.by_no_room s l) = omega arith
    small (ListerGives.done s l) = omega (arith, listing_at_most st)
