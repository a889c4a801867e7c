-- What a packet's head does to the output.
-- Assumes nothing.
use Rattle.std.specs.Prelude.{cond, List, [], ◌∷◌, ℕ, ◌+◌, ◌-◌, eqb}
use Rattle.meaning.specs.Batch.{offset_3d}
use Rattle.meaning.specs.Writer.{header_word, setting_word}
use Rattle.words.specs.Stores.{put_words}

-- where a packet that begins at a place ends, if its parameters end at `end`; with none there is no packet
unfoldable pub closed_end : ℕ → ℕ → ℕ
closed_end at end = cond (eqb end (at + 2)) at end

-- the output once header and setting stand before the parameters
unfoldable pub closed_words : List ℕ → ℕ → ℕ → ℕ → ℕ → List ℕ
closed_words out at end t u = cond (eqb end (at + 2)) out (put_words out at (header_word (end - at - 1) offset_3d ∷ setting_word t u ∷ []))
