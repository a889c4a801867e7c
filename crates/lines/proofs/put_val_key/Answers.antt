-- The stores are those of the text, one place after another.
-- Assumes nothing.
use native.Mathlib.Numerals.{towards_suc}
use Rattle.lines.proofs.put_val_key.Goals as goal

pub returns : goal.returns
returns c = record { stored = simp towards_suc }
