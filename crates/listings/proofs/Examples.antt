-- Texts, and what they are read as.
-- Assumes nothing.
use mathlib.Core.Path.{◌≡◌, refl}
use mathlib.Core.List.{List, [], ◌∷◌}
use Prim.Native.Nat.{ℕ}
use Prim.Native.String.{String}
use Rattle.laws.specs.Lists.{All, from}
use Rattle.meaning.specs.Registers.{target_group, stage, sample, overlay, scaler, sections}
use Rattle.meaning.specs.Answers.{Answer, answer}
use Rattle.meaning.specs.Text.{ascii}
use Rattle.meaning.specs.Lister.{digit, hex}
use Rattle.meaning.specs.ListingReader.{is_hex, along, digit_worth, worth, table_lines, read_lines, read_count, read_first, read_text}

-- a text and its answer
pub record Example : Type 0 where
  pub text : String
  pub answer : Answer

abbrev reads : String → ℕ → ℕ → Example
reads s r p = record { text = s; answer = answer r p }

pub texts : List Example
texts =
    -- K1's listing, and the listing of no cell
    reads "cells=1\nreg=01.00.50 val=00001000\n" 0 34
    ∷ reads "cells=0\n" 0 8
    -- with a byte behind its end
    ∷ reads "cells=1\nreg=01.00.50 val=00001000\n\n" 19 34
    -- cut behind each of its parts: before all, behind a key, a count, a line, a name, the zeros of a 3D value, its digits
    ∷ reads "" 19 0
    ∷ reads "cells=" 19 6
    ∷ reads "cells=1" 19 7
    ∷ reads "cells=1\n" 19 8
    ∷ reads "cells=1\nreg=01.00.50" 19 20
    ∷ reads "cells=1\nreg=01.00.50 val=00" 19 27
    ∷ reads "cells=1\nreg=01.00.50 val=00001000" 19 33
    -- a count that is one too high shows where the next line should begin, or where no cell is left for it: of two cells none begins with
    -- the last one, 33fc, and 33f8 could still be the first
    ∷ reads "cells=2\nreg=01.00.50 val=00001000\n" 19 34
    ∷ reads "cells=2\nreg=33fc val=00000000\n" 19 15
    -- one that is too low, where the line past it begins
    ∷ reads "cells=1\nreg=33f8 val=00000000\nreg=33fc val=00000000\n" 19 30
    -- leading zeros, and a count that no state has
    ∷ reads "cells=01\n" 19 7
    ∷ reads "cells=102\n" 19 8
    -- two lines exchanged: 33fc leaves no cell for the second, and behind 23e8 may come 23ec, but not 23e4
    ∷ reads "cells=2\nreg=33fc val=00000000\nreg=33f8 val=00000000\n" 19 15
    ∷ reads "cells=2\nreg=23e8 val=00000000\nreg=23e4 val=00000000\n" 19 37
    -- an upper-case digit, in a name and in a value
    ∷ reads "cells=1\nreg=33FC val=00000000\n" 19 14
    ∷ reads "cells=1\nreg=23e4 val=fffffffF\n" 19 28
    -- a 3D value of seven digits, and a video value of eight
    ∷ reads "cells=1\nreg=01.00.50 val=01000000\n" 19 26
    ∷ reads "cells=1\nreg=23e4 val=ffffffff\n" 0 30
    ∷ []

-- each as it says
pub texts_hold : All (λ (e : Example). (read_text (ascii e.text)).answer ≡ e.answer) texts
unfolding texts read_text read_first read_count read_lines along is_hex digit_worth worth table_lines sections target_group stage sample overlay scaler from hex digit
texts_hold =
    (refl, (refl, (refl, (refl, (refl, (refl, (refl, (refl, (refl, (refl, (refl, (refl, (refl, (refl, (refl, (refl, (refl, (refl, (refl, (refl, (refl, tt)))))))))))))))))))))
