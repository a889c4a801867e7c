-- The loop goes from grant to grant up to the last, which is asked behind it. What is left to ask from here on decides for all.
-- Assumes nothing.
use Rattle.std.specs.Prelude.{Some}
use mathlib.Core.Path.{refl, ap, ◌∙◌}
use Prim.Native.Nat.{ℕ}
use native.Mathlib.Omega.{arith}
use Rattle.grants.proofs.Asking.{none, hit, missed, from_last, past_last, whole}
use Rattle.grants.proofs.RoleGrants.which.Goals as goal

pub returns-then-self : goal.returns-then-self
returns-then-self c = record { which = none _ _ _ _ _ _ _ (omega arith) }

pub loop-i-init : goal.loop-i-init
loop-i-init c = (omega arith, omega arith, refl)

pub returns-then-covers : goal.returns-then-covers
returns-then-covers c = record { which = ap (λ (n : ℕ). Some n) c.numbered.ensures.grant ∙ hit _ _ _ _ _ (omega arith) c.covers.ensures.covers c.if-covers.true ∙ c.loop-i.invariant.2 ∙ whole _ _ _ _ _ _ _ (omega arith) }

pub loop-i-preserved : goal.loop-i-preserved
loop-i-preserved c = (omega arith, c.loop-i.invariant.1, missed _ _ _ _ _ (omega arith) c.covers.ensures.covers c.if-covers.false ∙ c.loop-i.invariant.2)

pub returns-then-covers-2 : goal.returns-then-covers-2
returns-then-covers-2 c = record { which = ap (λ (n : ℕ). Some n) c.numbered-then-covers-2.ensures.grant ∙ hit _ _ _ _ _ (omega arith) c.covers-2.ensures.covers c.if-covers-2.true ∙ from_last _ _ _ _ _ c.loop-i.i _ (omega arith) ∙ c.loop-i.invariant.2 ∙ whole _ _ _ _ _ _ _ (omega arith) }

pub returns : goal.returns
returns c = record { which = past_last _ _ _ _ _ _ ∙ missed _ _ _ _ _ (omega arith) c.covers-2.ensures.covers c.if-covers-2.false ∙ from_last _ _ _ _ _ c.loop-i.i _ (omega arith) ∙ c.loop-i.invariant.2 ∙ whole _ _ _ _ _ _ _ (omega arith) }
