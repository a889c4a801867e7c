-- Words stored one piece after another: to store what is left, from the place reached, is to store all.
-- Assumes nothing.
use mathlib.Core.Path.{◌≡◌, refl, sym, ap, ◌∙◌}
use mathlib.Core.List.{List, [], ◌++◌}
use Prim.Native.Nat.{ℕ, zero, suc, ◌+◌, ◌-◌, ◌/◌, ◌≤◌, ◌<◌}
use native.Mathlib.Omega.{arith}
use lib.ListN.{length, length-append, drop_of_length-le}
use Rattle.words.specs.Stores.{put_words}
use Rattle.words.proofs.Stores.{put_none, length_put, put_append}
use Rattle.emitter_3d.specs.Emitted.{Room}

pub record Runs (all old : List ℕ) (start : ℕ) (left out : List ℕ) (at : ℕ) : Type 0 where
  pub onward : start ≤ at
  pub ends : at + length left ≡ start + length all
  pub stored : put_words out at left ≡ put_words old start all

-- the words have been stored from the place on
abbrev pub Done : List ℕ → List ℕ → ℕ → List ℕ → ℕ → Type 0
Done all old start out at = (at ≡ start + length all) × (out ≡ put_words old start all)

-- the same words, told otherwise
retold : {all old : List ℕ} {start : ℕ} {left more out : List ℕ} {at : ℕ} → left ≡ more → Runs all old start left out at → Runs all old start more out at
retold e runs = rw (← e) runs

-- nothing is stored yet
pub begun : (all old : List ℕ) (start : ℕ) {left : List ℕ} → all ≡ left → Runs all old start left old start
begun all old start e = retold e (record { onward = omega arith; ends = refl; stored = refl })

-- stores keep the length
pub same_long : {all old : List ℕ} {start : ℕ} {left out : List ℕ} {at : ℕ} → Runs all old start left out at → length out ≡ length old
same_long {all} {old} {start} {left} {out} {at} runs = sym (length_put out at left) ∙ ap length runs.stored ∙ length_put old start all

module _ {all old : List ℕ} {start : ℕ} {out : List ℕ} {at : ℕ} (piece left : List ℕ) (runs : Runs all old start (piece ++ left) out at) where
  both : length (piece ++ left) ≡ length piece + length left
  both = length-append piece left

  -- the next piece ends where all ends, or before
  pub within : at + length piece ≤ start + length all
  within = omega (arith, both, runs.ends)

  -- where there was room for all, there is room for it
  pub room_here : start + length all ≤ length old / 4 → at + length piece ≤ length out / 4
  room_here room = omega (arith, same_long runs, within)

  pub room_next : Room old start all → Room out at piece
  room_next room some = room_here (room (omega (arith, both, runs.ends, runs.onward)))

  -- the next piece is stored
  pub went : {out' : List ℕ} {at' : ℕ} → Done piece out at out' at' → Runs all old start left out' at'
  went (moved, written) =
      record {
        onward = omega (arith, runs.onward);
        ends = omega (arith, both, runs.ends);
        stored = rw (moved, written) (put_append out at piece left ∙ runs.stored);
      }

-- all is stored
pub ended : {all old : List ℕ} {start : ℕ} {out : List ℕ} {at : ℕ} → Runs all old start [] out at → Done all old start out at
ended {all} {old} {start} {out} {at} runs = (omega (arith, runs.ends), sym (put_none out at) ∙ runs.stored)

-- and so it is at the place where all ends, or past it: nothing is left
pub full : {all old : List ℕ} {start : ℕ} {left out : List ℕ} {at : ℕ} → Runs all old start left out at → start + length all ≤ at → Done all old start out at
full {left} runs e = ended (retold (drop_of_length-le left {i = 0} (omega (arith, runs.ends))) runs)

-- ---- a loop that stores what f gives for one number after another

-- of n numbers from i on
unfoldable pub in_row : (ℕ → List ℕ) → ℕ → ℕ → List ℕ
in_row f i zero = []
in_row f i (suc n) = f i ++ in_row f (suc i) n

module _ (f : ℕ → List ℕ) (i last : ℕ) where
  row_next : i < last → in_row f i (last - i) ≡ f i ++ in_row f (i + 1) (last - (i + 1))
  unfolding in_row
  row_next l =
      let e : last - i ≡ suc (last - suc i) = omega arith in
      let s : i + 1 ≡ suc i = omega arith in
      rw (e, s)

  row_none : last ≤ i → in_row f i (last - i) ≡ []
  unfolding in_row
  row_none l = let e : last - i ≡ 0 = omega arith in rw e

  module _ {all old : List ℕ} {start : ℕ} {out : List ℕ} {at : ℕ} (runs : Runs all old start (in_row f i (last - i)) out at) where
    -- the next number
    module _ (l : i < last) where
      next : Runs all old start (f i ++ in_row f (i + 1) (last - (i + 1))) out at
      next = retold (row_next l) runs

      pub row_room : start + length all ≤ length old / 4 → at + length (f i) ≤ length out / 4
      row_room = room_here (f i) (in_row f (i + 1) (last - (i + 1))) next

      pub row_room_next : Room old start all → Room out at (f i)
      row_room_next = room_next (f i) (in_row f (i + 1) (last - (i + 1))) next

      pub row_went : {out' : List ℕ} {at' : ℕ} → Done (f i) out at out' at' → Runs all old start (in_row f (i + 1) (last - (i + 1))) out' at'
      row_went = went (f i) (in_row f (i + 1) (last - (i + 1))) next

    -- no number is left
    pub row_past : last ≤ i → Done all old start out at
    row_past l = ended (retold (row_none l) runs)
