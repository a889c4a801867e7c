-- Bytes per pixel depend on the low eight bits alone, so that a table of 256 entries holds them.
-- Assumes nothing.
use mathlib.Core.Path.{◌≡◌, refl, ◌∙◌}
use mathlib.Core.Bool.{Bool}
use mathlib.Core.List.{List, [], ◌∷◌}
use Prim.Native.Nat.{ℕ, ◌*◌, ◌/◌, ◌%◌, ◌^◌}
use native.Mathlib.Omega.{arith}
use lib.Dec.{T, eqb}
use lib.ListN.{get_or}
use mir.Facts.{eqb_yes}
use Rattle.laws.specs.Lists.{every, from}
use Rattle.laws.proofs.Lists.{every_from}
use Rattle.meaning.specs.Words.{bits}
use Rattle.meaning.specs.Registers.{Format, formats, bytes_among, bytes_per_pixel, format_table}
use Rattle.meaning.proofs.BothSides.{formats_bytes}

-- rows look at the two codes of a byte and at nothing else
by_codes : (fs : List Format) (a b : ℕ) → bits 7 3 a ≡ bits 7 3 b → bits 2 0 a ≡ bits 2 0 b → bytes_among fs a ≡ bytes_among fs b
unfolding bytes_among
by_codes [] a b p q = refl
by_codes (f ∷ fs) a b p q = rw (p, q, by_codes fs a b p q)

-- the table's entry at the low eight bits is right for the whole number
pub entry : (b : ℕ) → get_or format_table (b % 256) 0 ≡ bytes_per_pixel b
unfolding bytes_per_pixel
entry b = formats_bytes (b % 256) (omega arith) ∙ by_codes formats (b % 256) b (omega arith) (omega arith)

-- ---- the table as the code holds it: a hex digit for each byte, sixteen to a row

unfoldable pub rows : List ℕ
rows =
    0x0000000000000000
    ∷ 0x0000000002200000
    ∷ 0x0000000000000000
    ∷ 0x0000000000000002
    ∷ 0x0000000000000000
    ∷ 0x0000000000000000
    ∷ 0x0000000000000000
    ∷ 0x0000000000000000
    ∷ 0x0020222200000000
    ∷ 0x0000044400000000
    ∷ 0x0020222200000000
    ∷ 0x0000444400000000
    ∷ 0x0020222200000000
    ∷ 0x0000044400000000
    ∷ 0x0000044400202222
    ∷ 0x0000000000440002
    ∷ []

abbrev pub digit_at : ℕ → ℕ → ℕ
digit_at row place = get_or rows row 0 / 2 ^ (place * 4) % 16

-- one computed test: the digits are the table's entries
same : ℕ → Bool
same b = eqb (digit_at (b / 16 % 16) (b % 16)) (get_or format_table b 0)

tested : T (every same (from 0 256))
unfolding every from same rows format_table
tested = tt

pub digit : (b : ℕ) → digit_at (b / 16 % 16) (b % 16) ≡ bytes_per_pixel b
unfolding same
digit b =
    let row : b / 16 % 16 ≡ b % 256 / 16 % 16 = omega arith in
    let place : b % 16 ≡ b % 256 % 16 = omega arith in
    rw (row, place) (eqb_yes (every_from same 0 256 tested (b % 256) (omega arith) (omega arith)) ∙ entry b)
