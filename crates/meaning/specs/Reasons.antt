-- Why a batch comes back: the table row by row, as what must be the case for a reason and a place.
-- A5 "A reason is given exactly if its row fits and nothing fits that goes before it in this order." is each_reason_exactly in
-- proofs/Promises. No answer is computed here: of Writer and Lister only the exact words, their number and the exact bytes are cited.
-- Assumes nothing.
use Rattle.std.specs.Prelude.{◌≡◌, ◌≢◌, ◌⊎◌, List, ℕ, zero, suc, ◌≤◌, ◌<◌, ◌^◌, T, length, get_or, Some, None}
use Rattle.std.specs.Int.Bits.{bit_and}
use Rattle.meaning.specs.declared.Cell.{Cell}
use Rattle.meaning.specs.declared.VideoOffset.{VideoOffset}
use Rattle.meaning.specs.declared.Kind.{Kind}
use Rattle.meaning.specs.declared.Kind.TheVariants.{Setting, Parameter}
use Rattle.meaning.specs.Words.{count, offset, video_offset, following}
use Rattle.meaning.specs.Registers.{cells, cell, address, is_found, find_video, register_at}
use Rattle.meaning.specs.Grants.{Terms, terms_of, grants_fine}
use Rattle.meaning.specs.Batch.{reaches, Fits, offset_3d, most_3d, allowed, named}
use Rattle.meaning.specs.State.{state_words, value_at, mark_at, well_formed}
use Rattle.meaning.specs.Pair.{target_cell, looked_at, pair_fine, pair_kept}
use Rattle.meaning.specs.Positions.{position_at, goes, carries, writes_of}
use Rattle.meaning.specs.Engine.{most_fed, Call, opening, feeding, closing, fed_by}
use Rattle.meaning.specs.Writer.{size_of}
use Rattle.meaning.specs.Fitter.{LowestOf, NoneOf}
use Rattle.meaning.specs.Lister.{listing}
use Rattle.meaning.specs.Listings.{Listed, LongestListing}

-- ---- a word at its position

-- the offset is a video register's
abbrev pub VideoRegister : VideoOffset → Type 0
VideoRegister o = T (is_found (find_video o))

-- n offsets from o on are
abbrev pub VideoRun : VideoOffset → ℕ → Type 0
VideoRun o zero = Unit {0}
VideoRun o (suc n) = VideoRegister o × VideoRun (following o) n

-- rows 3 to 9: a word w for which reason r is given. At a header no word of a packet is left; in a packet k + 1 are.
pub data Given (g : Terms) : Kind → ℕ → ℕ → ℕ → Type 0 where
  -- Y3 "the offset of a header is neither 043Ch nor a video register's"
  by_bad_offset : {kind : Kind} {h : ℕ} → offset h ≢ offset_3d → ¬ VideoRegister (video_offset h) → Given g kind 0 h 3
  -- Y4 "the count of a header is out of its range": of a 3D packet
  by_bad_count : {kind : Kind} {h : ℕ} → offset h ≡ offset_3d → (count h < 2) ⊎ (most_3d < count h) → Given g kind 0 h 4
  -- Y4 "the count of a header is out of its range, or its run does not stay within the video registers": of a video packet
  by_bad_run : {kind : Kind} {h : ℕ} → VideoRegister (video_offset h) → (count h < 1) ⊎ (¬ VideoRun (video_offset h) (count h)) → Given g kind 0 h 4
  -- Y5 "a setting is none of those allowed"
  by_bad_setting : {k s : ℕ} → ¬ T (allowed s) → Given g Setting (suc k) s 5
  -- Y6 "a parameter's name is no register's of the table"
  by_no_register : {k s w : ℕ} → named s w ≡ None → Given g (Parameter s) (suc k) w 6
  -- Y7 "a bit that must be clear is set"
  by_bit_set : {kind : Kind} {k w : ℕ} (c : Cell) → goes kind w ≡ Some c → bit_and (carries kind w) (register_at c).clear ≢ 0
      → Given g kind (suc k) w 7
  -- Y8 "a value does not keep its value rule", and not 7
  by_bad_value : {kind : Kind} {k w : ℕ} (c : Cell) → goes kind w ≡ Some c → bit_and (carries kind w) (register_at c).clear ≡ 0
      → ¬ T ((register_at c).values (carries kind w)) → Given g kind (suc k) w 8
  -- Y9 "an address is not granted", and neither 7 nor 8
  by_not_granted : {kind : Kind} {k w : ℕ} (c : Cell) → goes kind w ≡ Some c → bit_and (carries kind w) (register_at c).clear ≡ 0
      → T ((register_at c).values (carries kind w)) → ¬ T (reaches g ((register_at c).holds (carries kind w))) → Given g kind (suc k) w 9

-- the same of word i of a batch, at its position
abbrev pub GivenAt : Terms → List ℕ → ℕ → ℕ → Type 0
GivenAt g ws i r = Given g (position_at ws i).kind (position_at ws i).left (get_or ws i 0) r

-- none of the first n words is refused
abbrev pub NoneBefore : Terms → List ℕ → ℕ → Type 0
NoneBefore g ws n = (i : ℕ) → i < n → (r : ℕ) → ¬ GivenAt g ws i r

-- ---- the reader: reason r at place p

-- the columns Given when and Place, for batch, grants and state as they were handed in
pub data ReaderGives (batch grants st : List ℕ) : ℕ → ℕ → Type 0 where
  -- Y1 "the state is not 202 words, or is not well-formed | 0"
  by_bad_state : ¬ T (well_formed st) → ReaderGives batch grants st 1 0
  -- Y2 "the grant list does not keep its rules | 0"; A2 "1 before 2"
  by_bad_grants : T (well_formed st) → ¬ T (grants_fine grants) → ReaderGives batch grants st 2 0
  -- 3 to 9, A3 "the words from the front": place p is Y3 "the header", Y4 "the header", Y5 "the setting", else Y6 "the word"
  at_word : {r p : ℕ} → T (well_formed st) → T (grants_fine grants) → p < length batch → NoneBefore (terms_of grants) batch p
      → GivenAt (terms_of grants) batch p r → ReaderGives batch grants st r p
  -- Y10 "the batch is over before a packet is | the length of the batch"; A3 "then 10"
  by_ends_inside : T (well_formed st) → T (grants_fine grants) → NoneBefore (terms_of grants) batch (length batch)
      → 0 < (position_at batch (length batch)).left → ReaderGives batch grants st 10 (length batch)
  -- Y14 "the batch does not keep the pair | the length of the batch"; A3 "14 is last"
  by_bad_pair : T (well_formed st) → T (grants_fine grants) → NoneBefore (terms_of grants) batch (length batch)
      → (position_at batch (length batch)).left ≡ 0 → ¬ T (pair_kept (terms_of grants) st (writes_of batch)) → ReaderGives batch grants st 14 (length batch)
  -- Y0 "all is done | reader: the length of the batch"
  accepted : T (well_formed st) → T (grants_fine grants) → NoneBefore (terms_of grants) batch (length batch)
      → (position_at batch (length batch)).left ≡ 0 → T (pair_kept (terms_of grants) st (writes_of batch)) → ReaderGives batch grants st 0 (length batch)

-- ---- the engine: reason r at place p, to a call

-- Y0 to Y10, Y14 and Y23 of the engine, for state and grants as they were handed in at opening
pub data EngineGives (st grants : List ℕ) : Call → ℕ → ℕ → Type 0 where
  -- M1 "Opening gives 1, then 2, as the reader does.", M2 "every later call repeats that answer"
  by_bad_state : {c : Call} → ¬ T (well_formed st) → EngineGives st grants c 1 0
  by_bad_grants : {c : Call} → T (well_formed st) → ¬ T (grants_fine grants) → EngineGives st grants c 2 0
  -- M1 "Else it answers 0 at 0."
  opened : T (well_formed st) → T (grants_fine grants) → EngineGives st grants opening 0 0
  -- M3 "A word is refused exactly if the reader gives one of 3 to 9", M6 "They and closing are given the same answer."
  at_word : {c : Call} {r p : ℕ} → T (well_formed st) → T (grants_fine grants) → p < length (fed_by c) → p < most_fed
      → NoneBefore (terms_of grants) (fed_by c) p → GivenAt (terms_of grants) (fed_by c) p r → EngineGives st grants c r p
  -- Y23 "a word is fed after 2^32 − 1 that were taken | 2^32 − 1", and M6 again
  full : {c : Call} → T (well_formed st) → T (grants_fine grants) → most_fed < length (fed_by c)
      → NoneBefore (terms_of grants) (fed_by c) most_fed → EngineGives st grants c 23 most_fed
  -- M4 "A word that is taken is answered 0 at the number of words fed."
  taken : {ws : List ℕ} → T (well_formed st) → T (grants_fine grants) → length ws ≤ most_fed → NoneBefore (terms_of grants) ws (length ws)
      → EngineGives st grants (feeding ws) 0 (length ws)
  -- M7 "Closing gives the reader's answer on the words fed": Y10 "the batch is over before a packet is | the length of the batch",
  by_ends_inside : {ws : List ℕ} → T (well_formed st) → T (grants_fine grants) → length ws ≤ most_fed
      → NoneBefore (terms_of grants) ws (length ws) → 0 < (position_at ws (length ws)).left → EngineGives st grants (closing ws) 10 (length ws)
  -- Y14 "the batch does not keep the pair | the length of the batch",
  by_bad_pair : {ws : List ℕ} → T (well_formed st) → T (grants_fine grants) → length ws ≤ most_fed
      → NoneBefore (terms_of grants) ws (length ws) → (position_at ws (length ws)).left ≡ 0 → ¬ T (pair_kept (terms_of grants) st (writes_of ws))
      → EngineGives st grants (closing ws) 14 (length ws)
  -- Y0 "all is done"
  accepted : {ws : List ℕ} → T (well_formed st) → T (grants_fine grants) → length ws ≤ most_fed
      → NoneBefore (terms_of grants) ws (length ws) → (position_at ws (length ws)).left ≡ 0 → T (pair_kept (terms_of grants) st (writes_of ws))
      → EngineGives st grants (closing ws) 0 (length ws)

-- ---- the size; and the writer, given room for so many words

-- not Y12 "a value that 7, 8 or 9 would refuse, or a 3D value not below 2^24"
pub record MayHold (g : Terms) (c : Cell) (v : ℕ) : Type 0 where
  pub narrow : v < 2 ^ (register_at c).width
  pub fits : Fits g (register_at c) v

-- of a cell of a state, if it is marked
abbrev pub CellFine : Terms → List ℕ → Cell → Type 0
CellFine g st c = 0 < mark_at st c → MayHold g c (value_at st c)

-- a cell is not what Y12 has: its value, and Y12 "or it is cell 1 and the pair is not fine"
pub record Writable (g : Terms) (st : List ℕ) (c : Cell) : Type 0 where
  pub value : CellFine g st c
  pub pair : c.0 ≡ target_cell.0 → T (pair_fine g st)

-- Y1, Y2, Y12 and Y0 of the size, for state and grants as they were handed in
pub data SizeGives (st grants : List ℕ) : ℕ → ℕ → Type 0 where
  by_bad_state : ¬ T (well_formed st) → SizeGives st grants 1 0
  by_bad_grants : T (well_formed st) → ¬ T (grants_fine grants) → SizeGives st grants 2 0
  -- Y12 "the lowest such cell"
  by_not_writable : {c : ℕ} → T (well_formed st) → T (grants_fine grants) → c < cells → ¬ Writable (terms_of grants) st (cell c)
      → ((d : ℕ) → d < c → Writable (terms_of grants) st (cell d)) → SizeGives st grants 12 c
  -- Y0 "size: the words needed"
  done : T (well_formed st) → T (grants_fine grants) → ((c : ℕ) → c < cells → Writable (terms_of grants) st (cell c))
      → SizeGives st grants 0 (size_of st)

-- Y1, Y2, Y12, Y11 and Y0 of the writer, in the same way
pub data WriterGives (st grants : List ℕ) (room : ℕ) : ℕ → ℕ → Type 0 where
  by_bad_state : ¬ T (well_formed st) → WriterGives st grants room 1 0
  by_bad_grants : T (well_formed st) → ¬ T (grants_fine grants) → WriterGives st grants room 2 0
  -- Y12 "the lowest such cell"
  by_not_writable : {c : ℕ} → T (well_formed st) → T (grants_fine grants) → c < cells → ¬ Writable (terms_of grants) st (cell c)
      → ((d : ℕ) → d < c → Writable (terms_of grants) st (cell d)) → WriterGives st grants room 12 c
  -- Y11 "the output is shorter than they need | 0"; A4 "The writer gives 12 before 11"
  by_no_room : T (well_formed st) → T (grants_fine grants) → ((c : ℕ) → c < cells → Writable (terms_of grants) st (cell c))
      → room < size_of st → WriterGives st grants room 11 0
  -- Y0 "writer: the words written"
  done : T (well_formed st) → T (grants_fine grants) → ((c : ℕ) → c < cells → Writable (terms_of grants) st (cell c))
      → size_of st ≤ room → WriterGives st grants room 0 (size_of st)

-- ---- the query, of the cell of a number

-- the cell is marked, and its register then holds an address of the role: Q3 "The address alone is looked at"
pub record HoldsAddress (st : List ℕ) (c : Cell) (role a : ℕ) : Type 0 where
  pub there : c.0 < cells
  pub marked : 0 < mark_at st c
  pub held : (register_at c).holds (value_at st c) ≡ address role a

-- Y1, Y2 and Y0 of the query, for state and grants as they were handed in
pub data QueryGives (st grants : List ℕ) (c : Cell) : ℕ → ℕ → Type 0 where
  by_bad_state : ¬ T (well_formed st) → QueryGives st grants c 1 0
  by_bad_grants : T (well_formed st) → ¬ T (grants_fine grants) → QueryGives st grants c 2 0
  -- Y0 "query: the number of the grant, or 64": of the grant that admits the address,
  admitted : {role a n : ℕ} → T (well_formed st) → T (grants_fine grants) → HoldsAddress st c role a
      → LowestOf (terms_of grants).grants (looked_at st c) role a n → QueryGives st grants c 0 n
  -- and Q2 "No grant is told if there is no such cell, the cell is not marked, the register holds no address, or no grant admits it."
  nobody : T (well_formed st) → T (grants_fine grants)
      → ((role a : ℕ) → HoldsAddress st c role a → NoneOf (terms_of grants).grants (looked_at st c) role a) → QueryGives st grants c 0 64

-- ---- the lister, given room for so many bytes

-- Y1, Y11 and Y0 of the lister, for the state as it was handed in
pub data ListerGives (st : List ℕ) (room : ℕ) : ℕ → ℕ → Type 0 where
  by_bad_state : ¬ T (well_formed st) → ListerGives st room 1 0
  by_no_room : T (well_formed st) → room < length (listing st) → ListerGives st room 11 0
  -- Y0 "lister: the bytes written"
  done : T (well_formed st) → length (listing st) ≤ room → ListerGives st room 0 (length (listing st))

-- ---- the listing reader

-- A8, Y19 and Y0 of the listing reader, for the text and what the buffer of the state held
pub data ListingReaderGives (text old : List ℕ) : ℕ → ℕ → Type 0 where
  -- A8 "the listing reader gives 1 if the buffer is not 202 words, and that before 19"
  by_bad_state : length old ≢ state_words → ListingReaderGives text old 1 0
  -- Y19 "listing reader: the text is no listing | the length of the longest beginning of the text that some listing begins with"
  by_not_listing : {p : ℕ} → length old ≡ state_words → ((st : List ℕ) → ¬ Listed text st) → LongestListing text p
      → ListingReaderGives text old 19 p
  -- Y0 "listing reader: the length of the text"
  done : {st : List ℕ} → length old ≡ state_words → Listed text st → ListingReaderGives text old 0 (length text)
