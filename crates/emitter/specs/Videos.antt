-- The words of a video cell as they are emitted. proofs/Videos ties them to the words of the table's sections.
-- Assumes nothing.
use Rattle.std.specs.Prelude.{List, [], ◌∷◌, ℕ}
use Rattle.laws.specs.Lists.{join}
use Rattle.meaning.specs.Registers.{cell}
use Rattle.meaning.specs.State.{value_at, marked}
use Rattle.meaning.specs.Writer.{header_word, if_so}
use Rattle.registers.specs.Names.{offset_of}

-- the packet of a video cell, if it is marked
unfoldable pub video_words : List ℕ → ℕ → List ℕ
video_words st c = join (if_so (marked st (cell c)) (header_word 1 (offset_of (cell c)).0 ∷ value_at st (cell c) ∷ []) [])
