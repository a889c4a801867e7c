-- 7, 8 and 9 of a register from its columns: a mask, a rule and an address, asked in that order.
-- Assumes nothing.
use mathlib.Core.Path.{◌≡◌, ap, ◌∙◌}
use mathlib.Core.Bool.{Bool, true, false, not}
use Prim.Native.Nat.{ℕ}
use lib.Dec.{eqb}
use lib.Bits.{bit_and, and_comm, and_zero_l}
use borrow.Author.Tests.{eq-eqb}
use Rattle.laws.proofs.Arms.{told_true, told_false}
use Rattle.meaning.specs.declared.Cell.{Cell}
use Rattle.meaning.specs.Registers.{cell, Register, register_at}
use Rattle.meaning.specs.Grants.{Terms}
use Rattle.meaning.specs.Batch.{reaches}
use Rattle.meaning.specs.Answers.{bit_set, bad_value, not_granted, success}
use Rattle.meaning.specs.Reader.{unless, value_reason}

-- a row's columns in their order: a mask, a rule and an address
abbrev pub columns : Terms → Register → ℕ → ℕ
columns g row v = unless (eqb (bit_and v row.clear) 0) bit_set (unless (row.values v) bad_value (unless (reaches g (row.holds v)) not_granted success))

-- the cell of a number has the register
abbrev pub Has : Register → ℕ → Type 0
Has r n = register_at (cell n) ≡ r

-- a register at its cell judges by the columns of its row
pub at_cell : (g : Terms) (v : ℕ) (c : Cell) {row : Register} {x : ℕ} → register_at c ≡ row → x ≡ columns g row v → x ≡ value_reason g (register_at c) v
unfolding value_reason
at_cell g v c own e = rw own e

-- so does a register by itself
pub of_row_lem : (g : Terms) (v : ℕ) (row : Register) {x : ℕ} → x ≡ columns g row v → x ≡ value_reason g row v
unfolding value_reason
of_row_lem g v row e = e

-- and a cell judges as the register that it has
pub alike : (g : Terms) (v : ℕ) (c : Cell) {row : Register} {x : ℕ} → register_at c ≡ row → x ≡ value_reason g row v → x ≡ value_reason g (register_at c) v
alike g v c own e = rw own e

-- a test that fails decides
pub refused : {b s : Bool} (r more : ℕ) → b ≡ s → b ≡ false → r ≡ unless s r more
unfolding unless
refused r more e t = rw (told_false e t)

-- past a test that holds, what follows decides
pub passed : {b s : Bool} (x r more : ℕ) → b ≡ s → b ≡ true → x ≡ more → x ≡ unless s r more
unfolding unless
passed x r more e t next = rw (told_true e t) next

-- the rule of a register without an address
pub ruled : {b s : Bool} (x : ℕ) → b ≡ s → x ≡ unless b bad_value success → x ≡ unless s bad_value (unless true not_granted success)
unfolding unless
ruled x e h = h ∙ ap (λ (t : Bool). unless t bad_value success) e

-- and past a rule that every value keeps
pub unasked : (x r more : ℕ) → x ≡ more → x ≡ unless true r more
unfolding unless
unasked x r more next = next

-- a mask without a bit is such a rule
pub unmasked : (v x r more : ℕ) → x ≡ more → x ≡ unless (eqb (bit_and v 0) 0) r more
unmasked v x r more next = rw (eq-eqb (bit_and v 0) 0 (and_comm v 0 ∙ and_zero_l v)) (unasked x r more next)

-- for `search`: each way out of a function that asks them
pub ruleset order = (refused, passed, ruled, unasked, unmasked)
