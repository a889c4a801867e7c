-- Words stored in a buffer of bytes, from word number `at` on.
-- Assumes nothing.
use Rattle.std.specs.Prelude.{List, ℕ, ◌*◌}
use Rattle.std.proofs.lemmas.List.Edits.{sets}
use Rattle.meaning.specs.Words.{bytes_of}

-- a run of stores of the words' bytes
unfoldable pub put_words : List ℕ → ℕ → List ℕ → List ℕ
put_words bytes at ws = sets bytes (at * 4) (bytes_of ws)
