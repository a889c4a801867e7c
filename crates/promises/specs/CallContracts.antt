-- What the contracts of reader, size, writer, lister, listing reader, engine and query allow, and those of the calls of the driver: an answer, and what
-- is left in the buffer that is lent to be changed.
-- Assumes nothing.
use Rattle.std.specs.Prelude.{◌≡◌, ◌↔◌, ◌&&◌, cond, List, [], ◌∷◌, ◌++◌, ℕ, ◌/◌, ◌%◌, T, eqb, length, replicate, Option}
use Rattle.laws.specs.Lists.{All, every, over}
use Rattle.meaning.specs.declared.Memory.{Memory}
use Rattle.meaning.specs.Words.{Byte, words_of, bytes_of}
use Rattle.meaning.specs.Registers.{cell}
use Rattle.meaning.specs.Grants.{Terms, most_grants, grants_of}
use Rattle.meaning.specs.Answers.{Answer, success, answer, number_of, settle}
use Rattle.meaning.specs.Reader.{read_answer, read_leaves}
use Rattle.meaning.specs.Writer.{written, size_answer, write_answer}
use Rattle.meaning.specs.Query.{query_answer}
use Rattle.meaning.specs.Lister.{list_answer, list_leaves}
use Rattle.meaning.specs.ListingReader.{listing_answer, listing_leaves}
use Rattle.meaning.specs.Exported.{buffer_fine, word_buffer_fine, exported_read, exported_read_leaves, exported_size, exported_write, exported_write_leaves, exported_list, exported_list_leaves, exported_read_listing, exported_read_listing_leaves, exported_which_grant}
use Rattle.grants.specs.Kept.{Keeps, part_of, which_in}
use Rattle.keeping.specs.Keeping.{kept_of}
use Rattle.asking.specs.Asked.{capped}
use Rattle.feeding.specs.Steps.{closes, leaves}
use Rattle.engine.specs.declared.Engine.{Engine}
use Rattle.engine.specs.declared.Closed.{Closed}
use Rattle.engine.specs.Kept.{opened_with, fed_with, opening, standing, pair_judged, behind}

-- `reader::read` on the bytes of a batch, of a grant list and of a state answers a and leaves the bytes `left` of the state. The words
-- over the front of the state's bytes are those that the definitions leave; bytes past the last whole word stay
abbrev pub Reading : List ℕ → List ℕ → List ℕ → Answer → List ℕ → Type 0
Reading batch grants st a left =
    (a ≡ read_answer (words_of batch) (words_of grants) (words_of st))
    × (left ≡ settle a (over (bytes_of (read_leaves (words_of batch) (words_of grants) (words_of st))) st) st)

-- `writer::size` on the bytes of a state and of a grant list answers a. No buffer is lent to be changed
abbrev pub Sizing : List ℕ → List ℕ → Answer → Type 0
Sizing st grants a = a ≡ size_answer (words_of st) (words_of grants)

-- `writer::write` on the bytes of a state, of a grant list and of an output answers a and leaves the bytes `left` of the output
abbrev pub Writing : List ℕ → List ℕ → List ℕ → Answer → List ℕ → Type 0
Writing st grants out a left =
    (a ≡ write_answer (words_of st) (words_of grants) (length out / 4)) × (left ≡ settle a (over (bytes_of (written (words_of st))) out) out)

-- what a caller is told who asks the size first, and then has the state written unless the size is refused: the answer z of the one, or the
-- answer a of the other
abbrev pub size_first : Answer → Answer → Answer
size_first z a = cond (eqb z.reason success) a z

-- `lister::list` on the bytes of a state and an output answers a and leaves the output `left`
abbrev pub Listing : List ℕ → List ℕ → Answer → List ℕ → Type 0
Listing st out a left = (a ≡ list_answer (words_of st) (length out)) × (left ≡ list_leaves (words_of st) out)

-- `listing_reader::read_listing` on the bytes of a text and of a state answers a and leaves the bytes `left` of the state. As with the reader,
-- the words over the front are those that the definitions leave
abbrev pub ReadingListing : List ℕ → List ℕ → Answer → List ℕ → Type 0
ReadingListing text st a left =
    (a ≡ listing_answer text (words_of st)) × (left ≡ settle a (over (bytes_of (listing_leaves text (words_of st))) st) st)

-- `query::which_grant` on the bytes of a state and of a grant list, and on any number, answers a. No buffer is lent to be changed
abbrev pub Querying : List ℕ → List ℕ → ℕ → Answer → Type 0
Querying st grants c a = a ≡ query_answer (words_of st) (words_of grants) (cell c)

-- the test that all of them use: in the part of a role of what `keeping::place` left of a grant list, in whatever room it was lent,
-- `which` of `RoleGrants` answers w to an address, in whichever memory or in one
pub record Testing (ws : List ℕ) (m : Memory) (role a : ℕ) (w : Option ℕ) : Type 0 where
  pub starts : List ℕ
  pub lasts : List ℕ
  pub numbers : List ℕ
  pub room : (length starts ≡ most_grants) × ((length lasts ≡ most_grants) × (length numbers ≡ most_grants))
  pub told : let k = kept_of (grants_of ws) starts lasts numbers in w ≡ which_in k.starts k.lasts k.numbers (part_of k.bounds role) m a

-- ---- the engine

-- `engine::open` on the bytes of a state and of a grant list makes the engine e
abbrev pub Opening : List ℕ → List ℕ → Engine → Type 0
Opening st grants e = e ≡ opened_with (words_of st) (words_of grants)

-- `engine::feed` makes the engine r of the engine e and a word, under whatever grants e keeps
abbrev pub Feeding : Engine → ℕ → Engine → Type 0
Feeding e w r = (g : Terms) → Keeps g e.starts e.lasts (capped e.bounds) → r ≡ fed_with g e w

-- the answer at closing
abbrev pub closing_answer : Closed → Answer
closing_answer c = answer c.reason c.place

-- `engine::close` makes c of the engine e: an answer and a state
abbrev pub Closing : Engine → Closed → Type 0
Closing e c = (closing_answer c ≡ closes (pair_judged e) (standing e)) × (c.state ≡ leaves (pair_judged e) (standing e) (behind e) (opening e))

-- an engine that was opened with the bytes of a state and of a grant list, and then fed these words, one after another
pub data Fed (st grants : List ℕ) : List ℕ → Engine → Type 0 where
  just_opened : {e : Engine} → Opening st grants e → Fed st grants [] e
  and_fed : {ws : List ℕ} {e r : Engine} (w : ℕ) → Fed st grants ws e → Feeding e w r → Fed st grants (ws ++ (w ∷ [])) r

-- the answer to the last call
abbrev pub answered : Engine → Answer
answered e = answer e.reason e.place

-- ---- the calls of the driver

-- `irangelda_read` on the bytes of a batch, of a grant list and of a state answers the number n and leaves the bytes `left` of the state
abbrev pub ReadingBytes : List ℕ → List ℕ → List ℕ → ℕ → List ℕ → Type 0
ReadingBytes batch grants st n left = (n ≡ number_of (exported_read batch grants st)) × (left ≡ exported_read_leaves batch grants st)

-- `irangelda_size` on the bytes of a state and of a grant list answers n
abbrev pub SizingBytes : List ℕ → List ℕ → ℕ → Type 0
SizingBytes st grants n = n ≡ number_of (exported_size st grants)

-- `irangelda_write` on the bytes of a state, of a grant list and of an output answers n and leaves the output `left`
abbrev pub WritingBytes : List ℕ → List ℕ → List ℕ → ℕ → List ℕ → Type 0
WritingBytes st grants out n left = (n ≡ number_of (exported_write st grants out)) × (left ≡ exported_write_leaves st grants out)

-- `irangelda_list` on the bytes of a state and an output answers n and leaves the output `left`
abbrev pub ListingBytes : List ℕ → List ℕ → ℕ → List ℕ → Type 0
ListingBytes st out n left = (n ≡ number_of (exported_list st out)) × (left ≡ exported_list_leaves st out)

-- `irangelda_read_listing` on the bytes of a text and of a state answers n and leaves the bytes `left` of the state
abbrev pub ReadingListingBytes : List ℕ → List ℕ → ℕ → List ℕ → Type 0
ReadingListingBytes text st n left = (n ≡ number_of (exported_read_listing text st)) × (left ≡ exported_read_listing_leaves text st)

-- `irangelda_which_grant` on the bytes of a state and of a grant list, and on any number, answers n
abbrev pub QueryingBytes : List ℕ → List ℕ → ℕ → ℕ → Type 0
QueryingBytes st grants c n = n ≡ number_of (exported_which_grant st grants (cell c))

-- what 13 lets through: not Y13 "a buffer has more than 65,536 bytes, or a buffer of words has a length that is no multiple of 4". The
-- buffers of reader and writer are words,
abbrev pub WordBuffers : List ℕ → List ℕ → List ℕ → Type 0
WordBuffers a b c = T (every word_buffer_fine (a ∷ b ∷ c ∷ []))

-- and so is the state of lister and listing reader; their other buffer is text
abbrev pub ListerBuffers : List ℕ → List ℕ → Type 0
ListerBuffers st text = T (word_buffer_fine st && buffer_fine text)

-- and both buffers of size and query
abbrev pub TwoBuffers : List ℕ → List ℕ → Type 0
TwoBuffers st grants = T (word_buffer_fine st && word_buffer_fine grants)

-- C3 "A C call answers one number: place × 256 + reason.": its reason and its place are those of a
abbrev pub Tells : ℕ → Answer → Type 0
Tells n a = (n % 256 ≡ a.reason) × (n / 256 ≡ a.place)

-- 13 is told exactly where the buffers are not fine, and then at place 0
abbrev pub BadBuffer : ℕ → Type 0 → Type 0
BadBuffer n Fine = ((n % 256 ≡ 13) ↔ (¬ Fine)) × (¬ Fine → n ≡ 13)

-- ---- the calls of one program, one after another

-- the bytes of a state before its first batch
abbrev pub zeros : List ℕ
zeros = replicate 808 0

-- irangelda_read accepts each batch under the program's grants, from the bytes that the one before it left; the last one leaves `end`
pub data Accepting (grants : List ℕ) : List ℕ → List (List ℕ) → List ℕ → Type 0 where
  no_more : {st : List ℕ} → Accepting grants st [] st
  and_then : {st end : List ℕ} (b : List ℕ) (bs : List (List ℕ)) (n : ℕ) (left : List ℕ) → All Byte b → ReadingBytes b grants st n left
      → n % 256 ≡ 0 → Accepting grants left bs end → Accepting grants st (b ∷ bs) end
