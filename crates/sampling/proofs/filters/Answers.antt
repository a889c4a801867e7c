-- `sampling::filters` meets its contract: the tests are those of the definition, in its order.
-- Assumes nothing.
use mathlib.Core.Path.{◌≡◌, sym, ap₂, ◌∙◌}
use mathlib.Core.Bool.{◌&&◌}
use Prim.Native.Nat.{ℕ, ◌/◌}
use native.Mathlib.Nat.{div-one}
use Rattle.meaning.specs.Words.{bits}
use Rattle.meaning.specs.Registers.{both_two, filters}
use Rattle.sampling.proofs.Codes.{row}
use Rattle.sampling.proofs.Ties.{low_codes}
use Rattle.sampling.proofs.filters.Goals as goal

pub returns-then-value-gt16 : goal.returns-then-value-gt16
unfolding filters
returns-then-value-gt16 c = record { rule = simp div-one (search row) }

pub returns-then-not-filter_code : goal.returns-then-not-filter_code
unfolding filters
returns-then-not-filter_code c = record { rule = simp div-one (search row) }

pub returns-then-not-filter_code-2 : goal.returns-then-not-filter_code-2
unfolding filters
returns-then-not-filter_code-2 c = record { rule = simp div-one (search row) }

pub returns-then-not-filter_code-3 : goal.returns-then-not-filter_code-3
unfolding filters
returns-then-not-filter_code-3 c = record { rule = simp div-one (search row) }

pub returns-then-not-filter_code-4 : goal.returns-then-not-filter_code-4
unfolding filters
returns-then-not-filter_code-4 c = record { rule = simp div-one (search row depth 10 fits 20000) }

pub returns-then-not-depth_code : goal.returns-then-not-depth_code
unfolding filters
returns-then-not-depth_code c = record { rule = simp div-one (search row depth 10 fits 20000) }

pub returns : goal.returns
unfolding filters
returns c = record {
  rule = let v : ℕ = c.args.value in
      let s-and-t : c.tied.result ≡ (both_two (bits 15 13 v) (bits 9 7 v) && both_two (bits 12 10 v) (bits 6 4 v)) =
      c.tied.ensures.permitted
      ∙ ap₂ ◌&&◌
      (low_codes (v / 0x2000) (v / 0x80) (sym c.filter_code.ensures.permitted ∙ c.if-not-filter_code.false) (sym c.filter_code-3.ensures.permitted ∙ c.if-not-filter_code-3.false))
      (low_codes (v / 0x400) (v / 0x10) (sym c.filter_code-2.ensures.permitted ∙ c.if-not-filter_code-2.false) (sym c.filter_code-4.ensures.permitted ∙ c.if-not-filter_code-4.false))
      in
      simp div-one (search (s-and-t, row) depth 10 fits 20000);
}
