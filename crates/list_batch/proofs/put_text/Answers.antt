-- The invariant: the bytes that are left, stored over the buffer as it is now, give what the whole text gives over the buffer at entry.
-- Assumes nothing.
use mathlib.Core.Path.{◌≡◌, sym, ap, ◌∙◌}
use mathlib.Core.List.{[]}
use Prim.Native.Nat.{◌+◌}
use native.Mathlib.Omega.{arith}
use lib.ListN.{length, drop}
use lib.Seq.{sets, drop-length}
use Rattle.list_batch.proofs.put_text.Goals as goal

pub returns : goal.returns
returns c = record {
  put = let at-end : c.loop-i.i ≡ length c.args.text.now = omega arith in
      let none : drop c.loop-i.i c.args.text.now ≡ [] = rw at-end (drop-length c.args.text.now) in
      record {
        stored = sym (ap (sets c.loop-i.out (c.args.at + c.loop-i.i)) none) ∙ c.loop-i.invariant.2;
        ends = omega arith;
      };
}
