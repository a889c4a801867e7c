-- What the table has at a cell of a row.
-- Assumes nothing.
use mathlib.Core.Path.{◌≡◌, refl, ap, ◌∙◌}
use mathlib.Core.Bool.{true}
use Prim.Native.Nat.{ℕ, ◌<◌, ◌^◌}
use native.Mathlib.Omega.{arith}
use lib.Bits.{and_zero_l}
use Rattle.laws.specs.Lists.{some}
use Rattle.laws.specs.Tests.{one_of}
use Rattle.laws.proofs.Tests.{holds_of}
use Rattle.meaning.specs.Registers.{cells, cell, Register, nothing, alpha_constants, location, levels, filters, mapping, alpha_select, target_group, sample, scaler, register_at}
use Rattle.meaning.specs.Grants.{Terms}
use Rattle.meaning.specs.Reader.{unless, value_reason}
use Rattle.rows_3d.proofs.Registers.{own_target, at_stage, own_sample}
use Rattle.rows_video.proofs.Scalers.{scaler_cells}
use Rattle.rows_video.proofs.Registers.{at_overlay, at_alpha_select, own_scaler}
use Rattle.cells.specs.declared.Row.{Row}
use Rattle.cells.specs.Rows.{RowOf, takes_zero, width_of}
use Rattle.cells.specs.Rows as kinds

-- a cell of the table, its register's width and, where the row takes 0, that nothing speaks against it
pub record Known (row : Row) (c : ℕ) : Type 0 where
  pub low : c < cells
  pub wide : (register_at (cell c)).width ≡ width_of row
  pub room : 0 < 2 ^ width_of row
  pub zero : takes_zero row ≡ true → (g : Terms) → value_reason g (register_at (cell c)) 0 ≡ 0

-- a register takes 0 if its rule does and it holds no address then: no bit of 0 is set
Takes : Register → Type 0
Takes r = (r.values 0 ≡ true) × (r.holds 0 ≡ nothing)

takes : (g : Terms) (r : Register) → Takes r → value_reason g r 0 ≡ 0
unfolding value_reason unless Takes
takes g r t = rw (and_zero_l r.clear, t.0, t.1)

at : (row : Row) (c : ℕ) {r : Register} → c < cells → register_at (cell c) ≡ r → r.width ≡ width_of row → 0 < 2 ^ r.width → (takes_zero row ≡ true → Takes r) → Known row c
at row c {r} low own wide room zero = record {
  low = low;
  wide = ap (λ (x : Register). x.width) own ∙ wide;
  room = rw wide at room;
  zero = λ t g. rw own (takes g r (zero t));
}

pub known : {row : Row} {c role : ℕ} → RowOf row c role → Known row c
unfolding takes_zero width_of Takes target_group sample scaler alpha_constants location levels filters mapping alpha_select one_of some
known kinds.alpha_constants_row = at _ 0 (omega arith) own_target.0 refl (omega arith) (λ t. (refl, refl))
known kinds.target_address = at _ 1 (omega arith) own_target.1.0 refl (omega arith) (λ t. absurd (holds_of t))
known kinds.location = at _ 2 (omega arith) own_target.1.1.0 refl (omega arith) (λ t. (refl, refl))
known kinds.format = at _ 3 (omega arith) own_target.1.1.1.0 refl (omega arith) (λ t. absurd (holds_of t))
known (kinds.stage c l h) = at _ c (omega arith) (at_stage c l h) refl (omega arith) (λ t. (refl, refl))
known (kinds.levels n h) = at _ _ (omega arith) (own_sample n h).0 refl (omega arith) (λ t. (refl, refl))
known (kinds.filters n h) = at _ _ (omega arith) (own_sample n h).1.0 refl (omega arith) (λ t. (refl, refl))
known (kinds.mapping n h) = at _ _ (omega arith) (own_sample n h).1.1.0 refl (omega arith) (λ t. (refl, refl))
known (kinds.overlay c l h) = at _ c (omega arith) (at_overlay c l h) refl (omega arith) (λ t. (refl, refl))
known kinds.alpha_select_row = at _ 86 (omega arith) at_alpha_select refl (omega arith) (λ t. (refl, refl))
known (kinds.deinterlace c r s) = let l = scaler_cells s in at _ _ (omega arith) (own_scaler c r s).0 refl (omega arith) (λ t. (refl, refl))
known (kinds.sub_picture c r s) = let l = scaler_cells s in at _ _ (omega arith) (own_scaler c r s).1.0 refl (omega arith) (λ t. (refl, refl))
known (kinds.first_address c r s) = let l = scaler_cells s in at _ _ (omega arith) (own_scaler c r s).1.1.0 refl (omega arith) (λ t. absurd (holds_of t))
known (kinds.second_address c r s) = let l = scaler_cells s in at _ _ (omega arith) (own_scaler c r s).1.1.1.0 refl (omega arith) (λ t. absurd (holds_of t))
known (kinds.destination_stride c r s) = let l = scaler_cells s in at _ _ (omega arith) (own_scaler c r s).1.1.1.1.0 refl (omega arith) (λ t. (refl, refl))
known (kinds.source_stride c r s) = let l = scaler_cells s in at _ _ (omega arith) (own_scaler c r s).1.1.1.1.1.0 refl (omega arith) (λ t. (refl, refl))
known (kinds.third_address c r s) = let l = scaler_cells s in at _ _ (omega arith) (own_scaler c r s).1.1.1.1.1.1.0 refl (omega arith) (λ t. absurd (holds_of t))
