-- The invariant: the bytes that are left, stored over the buffer as it is now, give what all eight give over the buffer at entry.
-- Assumes nothing.
use mathlib.Core.Path.{◌≡◌, refl, sym, ap, ◌∙◌}
use Prim.Native.Nat.{suc, ◌+◌, ◌-◌}
use native.Mathlib.Omega.{arith}
use lib.ListN.{length-set}
use lib.Seq.{sets}
use Rattle.laws.proofs.Stores.{sets_over}
use Rattle.restore_listing.specs.Restored.{number_bytes}
use Rattle.restore_listing.proofs.Fronts.{low_bytes, eight_bytes, eight}
use Rattle.restore_listing.proofs.put_number.Goals as goal

pub loop-i-init : goal.loop-i-init
loop-i-init c = (omega arith, refl, ap (sets c.args.out.now 0) (eight_bytes c.args.n))

pub loop-i-preserved : goal.loop-i-preserved
loop-i-preserved c = let next : c.loop-i.i + 1 ≡ suc c.loop-i.i = omega arith in
    let fewer : 8 - c.loop-i.i ≡ suc (8 - suc c.loop-i.i) = omega arith in (
      omega arith,
      simp length-set (omega arith),
      rw next (sym (ap (λ k. sets c.loop-i.out c.loop-i.i (low_bytes k c.loop-i.left)) fewer) ∙ c.loop-i.invariant.2),
    )

pub returns : goal.returns
returns c = record {
  put = let none : 8 - c.loop-i.i ≡ 0 = omega arith in
      sym (ap (λ k. sets c.loop-i.out c.loop-i.i (low_bytes k c.loop-i.left)) none) ∙ c.loop-i.invariant.2 ∙ sets_over (number_bytes c.args.n) c.args.out.now (omega (arith, eight c.args.n));
}
