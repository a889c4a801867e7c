-- The four stores are those of the bytes of the word, one place after another.
-- Assumes nothing.
use mathlib.Core.Path.{◌≡◌}
use Prim.Native.Nat.{◌/◌, ◌^◌}
use native.Mathlib.Numerals.{towards_suc}
use lib.ListN.{length-set}
use native.Mathlib.Omega.{arith}
use Rattle.words.specs.Stores.{put_words}
use Rattle.words.proofs.put_word.Goals as goal

pub bounds-bytes-at-2 : goal.bounds-bytes-at-2
bounds-bytes-at-2 c = simp length-set (omega arith)

pub bounds-bytes-at-3 : goal.bounds-bytes-at-3
bounds-bytes-at-3 c = simp length-set (omega arith)

pub bounds-bytes-at-4 : goal.bounds-bytes-at-4
bounds-bytes-at-4 c = simp length-set (omega arith)

pub returns : goal.returns
unfolding put_words
returns c = record {
  stored = let low : c.args.w / 2 ^ 0 ≡ c.args.w = omega arith in
      simp (towards_suc, low);
}
