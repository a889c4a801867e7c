-- The table's lines: 101, and no text follows the forms of two. One test over the table each.
-- Assumes nothing.
use mathlib.Core.Path.{◌≡◌, refl}
use lib.Dec.{T}
use lib.ListN.{length}
use Rattle.laws.specs.Lists.{every, from}
use Rattle.meaning.specs.Registers.{cells, target_group, stage, sample, overlay, scaler, sections}
use Rattle.meaning.specs.Lister.{digit, hex}
use Rattle.meaning.specs.ListingReader.{table_lines}
use Rattle.listings.proofs.Forms.{apart}
use Rattle.listings.proofs.Lines.{all_apart}

pub lines_101 : length table_lines ≡ cells
unfolding table_lines sections target_group stage sample overlay scaler from
lines_101 = refl

pub lines_apart : T (all_apart table_lines)
unfolding all_apart apart every table_lines sections target_group stage sample overlay scaler from hex digit
lines_apart = tt
