-- The calls on bytes.
-- C2 "In a C call every buffer is bytes, and four bytes are a word of 32 bits, the lowest byte first."
-- Assumes nothing.
use Rattle.std.specs.Prelude.{Bool, ◌&&◌, List, [], ◌∷◌, ℕ, ◌/◌, ◌%◌, leb, eqb, length}
use Rattle.laws.specs.Lists.{every, over}
use Rattle.meaning.specs.declared.Cell.{Cell}
use Rattle.meaning.specs.Words.{words_of, bytes_of}
use Rattle.meaning.specs.Answers.{Answer, bad_buffer, provided, settle}
use Rattle.meaning.specs.Reader.{read_answer, read_leaves}
use Rattle.meaning.specs.Writer.{written, size_answer, write_answer}
use Rattle.meaning.specs.Query.{query_answer}
use Rattle.meaning.specs.Lister.{listing, list_answer}
use Rattle.meaning.specs.ListingReader.{listing_answer, listing_leaves}

-- Y13 "65,536 bytes"
abbrev pub most_bytes : ℕ
most_bytes = 65536

-- not so: Y13 "a buffer has more than 65,536 bytes"
unfoldable pub buffer_fine : List ℕ → Bool
buffer_fine b = leb (length b) most_bytes

-- nor so: Y13 "a buffer of words has a length that is no multiple of 4"
unfoldable pub word_buffer_fine : List ℕ → Bool
word_buffer_fine b = buffer_fine b && eqb (length b % 4) 0

-- ---- read

-- A2 "13 goes before 1": the answer on three buffers of words, batch, grants and state
unfoldable pub exported_read : List ℕ → List ℕ → List ℕ → Answer
exported_read batch grants st =
    provided (every word_buffer_fine (batch ∷ grants ∷ st ∷ [])) bad_buffer (read_answer (words_of batch) (words_of grants) (words_of st))

-- the bytes of the state after the call
unfoldable pub exported_read_leaves : List ℕ → List ℕ → List ℕ → List ℕ
exported_read_leaves batch grants st = settle (exported_read batch grants st) (bytes_of (read_leaves (words_of batch) (words_of grants) (words_of st))) st

-- ---- size

-- C6 "Its state and its grants are words.": the answer, A2 "13 goes before 1"
unfoldable pub exported_size : List ℕ → List ℕ → Answer
exported_size st grants = provided (word_buffer_fine st && word_buffer_fine grants) bad_buffer (size_answer (words_of st) (words_of grants))

-- ---- write

-- A2 "13 goes before 1": the answer on three buffers of words, state, grants and output, whose room is counted in words
unfoldable pub exported_write : List ℕ → List ℕ → List ℕ → Answer
exported_write st grants out =
    provided (every word_buffer_fine (st ∷ grants ∷ out ∷ [])) bad_buffer (write_answer (words_of st) (words_of grants) (length out / 4))

-- the bytes of the output after the call: W5 "The words of the output behind the last one written stay as they were."
unfoldable pub exported_write_leaves : List ℕ → List ℕ → List ℕ → List ℕ
exported_write_leaves st grants out = settle (exported_write st grants out) (over (bytes_of (written (words_of st))) out) out

-- ---- list

-- A2 "13 goes before 1": the answer on a buffer of words, the state, and one of bytes, the output
unfoldable pub exported_list : List ℕ → List ℕ → Answer
exported_list st out = provided (word_buffer_fine st && buffer_fine out) bad_buffer (list_answer (words_of st) (length out))

-- the bytes of the output after the call
unfoldable pub exported_list_leaves : List ℕ → List ℕ → List ℕ
exported_list_leaves st out = settle (exported_list st out) (over (listing (words_of st)) out) out

-- ---- read a listing

-- C4 "Its text is bytes, its state words.": the answer, A2 "13 goes before 1"
unfoldable pub exported_read_listing : List ℕ → List ℕ → Answer
exported_read_listing text st = provided (word_buffer_fine st && buffer_fine text) bad_buffer (listing_answer text (words_of st))

-- the bytes of the state after the call
unfoldable pub exported_read_listing_leaves : List ℕ → List ℕ → List ℕ
exported_read_listing_leaves text st = settle (exported_read_listing text st) (bytes_of (listing_leaves text (words_of st))) st

-- ---- which grant

-- C5 "Its state and its grants are words": the answer, A2 "13 goes before 1"
unfoldable pub exported_which_grant : List ℕ → List ℕ → Cell → Answer
exported_which_grant st grants c = provided (word_buffer_fine st && word_buffer_fine grants) bad_buffer (query_answer (words_of st) (words_of grants) c)
