-- Section by section, the search goes on behind each in which no cell is bad.
-- Assumes nothing.
use mathlib.Core.Path.{◌≡◌, refl, ◌∙◌}
use Prim.Native.Nat.{◌+◌, ◌*◌}
use native.Mathlib.Omega.{arith}
use Rattle.rows_video.proofs.Scalers.{scaler_at_lem, scaler_granted}
use Rattle.search.proofs.Sections.{of_role_lem}
use Rattle.search.proofs.Lowest.{among, on, stopped, told}
use Rattle.search.proofs.all_writable.Goals as goal

pub returns-in_err-target_writable : goal.returns-in_err-target_writable
returns-in_err-target_writable c = record {
  lowest = λ g k. told c.from_residual.result c.from_residual.ensures.1
      ∙ among g _ 0 4 97 (c.in_err-target_writable.ensures.lowest g (of_role_lem g c.part_of-part.ensures.role k.targets));
}

pub loop-n-init : goal.loop-n-init
loop-n-init c g k = c.in_ok-target_writable.ensures.lowest g (of_role_lem g c.part_of-part.ensures.role k.targets)

pub returns-in_err-stage_writable : goal.returns-in_err-stage_writable
returns-in_err-stage_writable c = record {
  lowest = λ g k. told c.from_residual-in_err-stage_writable.result c.from_residual-in_err-stage_writable.ensures.1
      ∙ stopped g _ (4 + 2 * c.loop-n.n) 2 (omega arith) (c.loop-n.invariant g k) (c.in_err-stage_writable.ensures.lowest g);
}

pub loop-n-preserved : goal.loop-n-preserved
loop-n-preserved c g k = on g _ (4 + 2 * c.loop-n.n) 2 (omega arith) (c.loop-n.invariant g k) (c.in_ok-stage_writable.ensures.lowest g)

pub loop-n-2-init : goal.loop-n-2-init
loop-n-2-init c g k = let e : 4 + 2 * c.loop-n.n ≡ 36 = omega arith in rw e at (c.loop-n.invariant g k)

pub returns-in_err-sample_writable : goal.returns-in_err-sample_writable
returns-in_err-sample_writable c = record {
  lowest = λ g k. told c.from_residual-in_err-sample_writable.result c.from_residual-in_err-sample_writable.ensures.1
      ∙ stopped g _ (36 + 3 * c.loop-n-2.n) 3 (omega arith) (c.loop-n-2.invariant g k) (c.in_err-sample_writable.ensures.lowest g);
}

pub loop-n-2-preserved : goal.loop-n-2-preserved
loop-n-2-preserved c g k = on g _ (36 + 3 * c.loop-n-2.n) 3 (omega arith) (c.loop-n-2.invariant g k) (c.in_ok-sample_writable.ensures.lowest g)

pub returns-in_err-overlay_writable : goal.returns-in_err-overlay_writable
returns-in_err-overlay_writable c = record {
  lowest = λ g k.
      let e : 36 + 3 * c.loop-n-2.n ≡ 84 = omega arith in
      told c.from_residual-in_err-overlay_writable.result c.from_residual-in_err-overlay_writable.ensures.1 ∙ stopped g _ 84 3 (omega arith) (rw e at (c.loop-n-2.invariant g k)) (c.in_err-overlay_writable.ensures.lowest g);
}

pub loop-n-3-init : goal.loop-n-3-init
loop-n-3-init c g k =
    let e : 36 + 3 * c.loop-n-2.n ≡ 84 = omega arith in
    on g _ 84 3 refl (rw e at (c.loop-n-2.invariant g k)) (c.in_ok-overlay_writable.ensures.lowest g)

pub returns-in_err-scaler_writable : goal.returns-in_err-scaler_writable
returns-in_err-scaler_writable c = record {
  lowest = λ g k.
      let s = scaler_at_lem c.loop-n-3.n (omega arith) refl refl in
      told c.from_residual-in_err-scaler_writable.result c.from_residual-in_err-scaler_writable.ensures.1
      ∙ stopped g _ (87 + 7 * c.loop-n-3.n) 7 (omega arith) (c.loop-n-3.invariant g k)
      (c.in_err-scaler_writable.ensures.lowest g _ s (of_role_lem g c.part_of.ensures.role (scaler_granted g _ _ _ s k)));
}

pub loop-n-3-preserved : goal.loop-n-3-preserved
loop-n-3-preserved c g k =
    let s = scaler_at_lem c.loop-n-3.n (omega arith) refl refl in
    on g _ (87 + 7 * c.loop-n-3.n) 7 (omega arith) (c.loop-n-3.invariant g k)
    (c.in_ok-scaler_writable.ensures.lowest g _ s (of_role_lem g c.part_of.ensures.role (scaler_granted g _ _ _ s k)))

pub returns : goal.returns
returns c = record {
  lowest = λ g k. let e : 87 + 7 * c.loop-n-3.n ≡ 101 = omega arith in rw e at (c.loop-n-3.invariant g k);
}
