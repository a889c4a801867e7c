-- Cases K1 to K12 as one table; batches for likely slips; K24 to K29, for reader and writer; K30 to K41, the pair; grant lists; the 39
-- permitted format bytes.
-- Assumes nothing.
use Rattle.std.specs.Prelude.{List, [], ◌∷◌, ◌++◌, map, ℕ, ◌+◌, ◌*◌, ◌≡◌, set, replicate}
use Rattle.laws.specs.Lists.{join}
use Rattle.meaning.specs.Words.{data24}
use Rattle.meaning.specs.Registers.{cells, Format, formats}
use Rattle.meaning.specs.State.{empty}
use Rattle.meaning.specs.Answers.{Answer, answer}
use Rattle.meaning.specs.Reader.{read_answer, read_leaves}
use Rattle.meaning.specs.Writer.{written, most_written, write_answer}

-- a batch and its grants, as words, and what the reader answers and leaves of the empty state
pub record Case : Type 0 where
  pub batch : List ℕ
  pub grants : List ℕ
  pub gives : Answer
  pub leaves : List ℕ

-- a state with a value in one cell more
unfoldable pub with : List ℕ → ℕ → ℕ → List ℕ
with st c v = set (set st c v) (cells + c) 1

-- the empty state but for one cell
unfoldable pub holding : ℕ → ℕ → List ℕ
holding c v = with empty c v

-- a setting and a word are accepted, and the cell then holds the value
abbrev pub accepted : List ℕ → ℕ → ℕ → ℕ → ℕ → Case
accepted grants s w c v = record { batch = 0x0002043C ∷ s ∷ w ∷ []; grants = grants; gives = answer 0 3; leaves = holding c v }

-- the word is refused
abbrev pub refused : List ℕ → ℕ → ℕ → ℕ → Case
refused grants s w r = record { batch = 0x0002043C ∷ s ∷ w ∷ []; grants = grants; gives = answer r 2; leaves = empty }

-- K1 "role 1, start 00100000h, length 00080000h": that grant with a reach, in a memory
abbrev pub grant_in : ℕ → ℕ → List ℕ
grant_in m reach = 1 ∷ 0x00100000 ∷ 0x00080000 ∷ reach ∷ m ∷ []

-- the grant of K1 and K2, with its reach
abbrev pub grant : ℕ → List ℕ
grant reach = grant_in 0 reach

-- the setting of K1 to K8
abbrev pub type01 : ℕ
type01 = 0x00010000

-- sample 3: the setting of K9 to K11, and of K24 to K29
abbrev pub sample3 : ℕ
sample3 = 0x23020000

-- stage 3: the setting of K12
abbrev pub stage3 : ℕ
stage3 = 0x03020000

-- K1 to K12, a line each: setting, word, grants, answer
unfoldable pub cases : List Case
cases =
    -- K1 "00010000 | 50001000 | role 1, start 00100000h, length 00080000h, reach 00080000h, memory 0 | accepted, cell 1"
    accepted (grant 0x00080000) type01 0x50001000 1 0x001000
    -- K2 "00010000 | 50001000 | the same with reach 00080001h | 9 at 2"
    ∷ refused (grant 0x00080001) type01 0x50001000 9
    -- K3 "00010000 | 50001000 | none | 9 at 2"
    ∷ refused [] type01 0x50001000 9
    -- K4 "00010000 | 3F400400 | none | accepted, cell 0"
    ∷ accepted [] type01 0x3F400400 0 0x400400
    -- K5 "00010000 | 3F000401 | none | 8 at 2"
    ∷ refused [] type01 0x3F000401 8
    -- K6 "00010000 | 3F000800 | none | 7 at 2"
    ∷ refused [] type01 0x3F000800 7
    -- K7 "00010000 | 52990000 | none | accepted, cell 3"
    ∷ accepted [] type01 0x52990000 3 0x990000
    -- K8 "00010000 | 52940000 | none | 8 at 2"
    ∷ refused [] type01 0x52940000 8
    -- K9 "23020000 | 31004100 | none | accepted, cell 46"
    ∷ accepted [] sample3 0x31004100 46 0x004100
    -- K10 "23020000 | 31004080 | none | 8 at 2"
    ∷ refused [] sample3 0x31004080 8
    -- K11 "23020000 | 50000001 | none | 6 at 2"; with K12 it is for E1 "A register is looked up by its sub-address alone (K11, K12)."
    ∷ refused [] sample3 0x50000001 6
    -- K12 "03020000 | 50000001 | none | accepted, cell 10"
    ∷ accepted [] stage3 0x50000001 10 0x000001
    ∷ []

-- slips to expect, a batch for each that K1 to K12 do not catch
unfoldable pub slips : List Case
slips =
    -- E2 "The address is tested and address + reach is not, or that sum wraps.": it is 2^32 + 1 here, past the end of memory
    refused (1 ∷ 0xFFFFFF00 ∷ 0x100 ∷ 0x101 ∷ 0 ∷ []) type01 0x50FFFFFF 9
    -- a 3D packet of 114 words, K18 "0072043C | 4 at 0",
    ∷ record { batch = 0x0072043C ∷ []; grants = []; gives = answer 4 0; leaves = empty }
    -- and a run that leaves the video registers, K21 "000823E4 | 4 at 0"
    ∷ record { batch = 0x000823E4 ∷ []; grants = []; gives = answer 4 0; leaves = empty }
    -- B15 "The batch of no words is permitted."
    ∷ record { batch = []; grants = []; gives = answer 0 0; leaves = empty }
    -- two packets are two writes
    ∷ record { batch = 0x00012208 ∷ 0x07FF07FF ∷ 0x0001220C ∷ 0x00000001 ∷ []; grants = []; gives = answer 0 4; leaves = set (set (holding 84 0x07FF07FF) 85 1) (cells + 85) 1 }
    -- the second packet is refused, so the first has not happened: E3 "half of a refused batch has happened"
    ∷ record { batch = 0x00012208 ∷ 0x07FF07FF ∷ 0x0001220C ∷ 0xF8000000 ∷ []; grants = []; gives = answer 7 3; leaves = empty }
    -- its bad word comes first: E4 "A batch that is cut short is called so before a bad word further in front is named."
    ∷ record { batch = 0x0003043C ∷ type01 ∷ 0x3F000800 ∷ []; grants = []; gives = answer 7 2; leaves = empty }
    ∷ []

-- what a case says of the definitions, from a state
abbrev pub HoldsFrom : List ℕ → Case → Type 0
HoldsFrom st c = (read_answer c.batch c.grants st ≡ c.gives) × (read_leaves c.batch c.grants st ≡ c.leaves)

-- and from the empty one
abbrev pub Holds : Case → Type 0
Holds c = HoldsFrom empty c

-- the shrinking filters, K24 to K29: words of a sample's filters that are refused,
unfoldable pub filters_refused : List ℕ
filters_refused =
    -- K24 "31000800, 31000810, 31000830 | 8 at 2 | 12 at 46"
    0x31000800
    ∷ 0x31000810
    ∷ 0x31000830
    -- K25 "31000020, 31000420, 31000C20 | 8 at 2 | 12 at 46"
    ∷ 0x31000020
    ∷ 0x31000420
    ∷ 0x31000C20
    -- K28 "31004900, 31004120 | 8 at 2 | 12 at 46"
    ∷ 0x31004900
    ∷ 0x31004120
    ∷ []

-- and words that are accepted
unfoldable pub filters_accepted : List ℕ
filters_accepted =
    -- K26 "31000820 | accepted, cell 46 | makes the batch"
    0x31000820
    -- K27 "31000000, 31000400, 31000C00, 31000010, 31000030 | accepted, cell 46 | makes the batch"
    ∷ 0x31000000
    ∷ 0x31000400
    ∷ 0x31000C00
    ∷ 0x31000010
    ∷ 0x31000030
    -- K29 "31004920 | accepted, cell 46 | makes the batch"
    ∷ 0x31004920
    ∷ []

-- what the writer is given: cell 46 alone is marked, and holds the word's data
abbrev pub holding_filters : ℕ → List ℕ
holding_filters w = holding 46 (data24 w)

-- the reader refuses the word, and the writer that state
abbrev pub BothRefuse : ℕ → Type 0
BothRefuse w = Holds (refused [] sample3 w 8) × (write_answer (holding_filters w) [] most_written ≡ answer 12 46)

-- the reader accepts the word and leaves that state, and of that state the writer makes the same batch
abbrev pub BothTake : ℕ → Type 0
BothTake w =
    Holds (accepted [] sample3 w 46 (data24 w))
    × (write_answer (holding_filters w) [] most_written ≡ answer 0 3)
    × (written (holding_filters w) ≡ 0x0002043C ∷ sample3 ∷ w ∷ [])

-- a case of the pair: the state that it is read from, and the case
pub record PairCase : Type 0 where
  pub entry : List ℕ
  pub case : Case

-- what it says
abbrev pub HoldsPaired : PairCase → Type 0
HoldsPaired p = HoldsFrom p.entry p.case

-- 01.00.50 with the address 00100000h
abbrev pub word50 : ℕ
word50 = 0x50001000

-- 01.00.51 with a memory
abbrev pub word51 : ℕ → ℕ
word51 m = 0x51000000 + m * 0x100000

-- a state that is read from, grants, words of type 01, and the answer: the state that is left
abbrev pub pair_case : List ℕ → List ℕ → List ℕ → Answer → List ℕ → PairCase
pair_case st grants ws a left = record { entry = st; case = record { batch = ws; grants = grants; gives = a; leaves = left } }

-- one word
abbrev pub single : ℕ → List ℕ
single w = 0x0002043C ∷ type01 ∷ w ∷ []

-- cell 1 with that address
abbrev pub addressed : List ℕ
addressed = holding 1 0x001000

-- and cell 2 with a memory
abbrev pub addressed_in : ℕ → List ℕ
addressed_in m = with addressed 2 (m * 0x100000)

-- K30 to K41, a line each: state, grants, words, answer
unfoldable pub pairs : List PairCase
pairs =
    -- K30 "empty | 1 | 50001000, 51100000 | accepted"
    pair_case empty (grant_in 1 1) (0x0003043C ∷ type01 ∷ word50 ∷ word51 1 ∷ []) (answer 0 4) (addressed_in 1)
    -- K31 "empty | 0 | 50001000, 51100000 | 14"
    ∷ pair_case empty (grant_in 0 1) (0x0003043C ∷ type01 ∷ word50 ∷ word51 1 ∷ []) (answer 14 4) empty
    -- K32 "empty | 1 | 50001000 | 14"
    ∷ pair_case empty (grant_in 1 1) (single word50) (answer 14 3) empty
    -- K33 "empty | none | 51200000 | 8 at 2"
    ∷ pair_case empty [] (single (word51 2)) (answer 8 2) empty
    -- K34 "empty | none | 51100000 | accepted"
    ∷ pair_case empty [] (single (word51 1)) (answer 0 3) (holding 2 0x100000)
    -- K35 "cell 1 holds 001000h | 0 | 51100000 | 14"
    ∷ pair_case addressed (grant_in 0 1) (single (word51 1)) (answer 14 3) addressed
    -- K36 "cell 1 holds 001000h, cell 2 holds 100000h | 0 | 50001000 | 14"
    ∷ pair_case (addressed_in 1) (grant_in 0 1) (single word50) (answer 14 3) (addressed_in 1)
    -- K37 "cell 1 holds 001000h, cell 2 holds 100000h | 1 | 50001000 | accepted"
    ∷ pair_case (addressed_in 1) (grant_in 1 1) (single word50) (answer 0 3) (addressed_in 1)
    -- K38 "cell 2 holds 200000h | 0 | 50001000 | 14"
    ∷ pair_case (holding 2 0x200000) (grant_in 0 1) (single word50) (answer 14 3) (holding 2 0x200000)
    -- K39 "cell 1 holds 1001000h | 0 | 51000000 | 14"
    ∷ pair_case (holding 1 0x1001000) (grant_in 0 1) (single (word51 0)) (answer 14 3) (holding 1 0x1001000)
    -- K40 "cell 1 holds 001000h | none | 3F400400 | accepted"
    ∷ pair_case addressed [] (single 0x3F400400) (answer 0 3) (with addressed 0 0x400400)
    -- K41 "empty | 1 | 50001000, and a header of 3 | 10"
    ∷ pair_case empty (grant_in 1 1) (0x0003043C ∷ type01 ∷ word50 ∷ []) (answer 10 3) empty
    ∷ []

-- both sides of each rule of the grant list, G2 to G4 and G9: lists that keep the rules
unfoldable pub keeping : List (List ℕ)
keeping =
    []
    ∷ (1 ∷ 0 ∷ 0 ∷ 1 ∷ 0 ∷ [])
    ∷ (1 ∷ 0 ∷ 0 ∷ 1 ∷ 1 ∷ [])
    ∷ (3 ∷ 0 ∷ 0 ∷ 1 ∷ 0 ∷ [])
    ∷ (1 ∷ 0xFFFFFFFF ∷ 1 ∷ 1 ∷ 0 ∷ [])
    ∷ join (replicate 64 (1 ∷ 0 ∷ 0 ∷ 1 ∷ 1 ∷ []))
    ∷ []

-- and lists that break one
unfoldable pub breaking : List (List ℕ)
breaking =
    (1 ∷ 0 ∷ 0 ∷ 1 ∷ [])
    ∷ (0 ∷ 0 ∷ 0 ∷ 1 ∷ 0 ∷ [])
    ∷ (4 ∷ 0 ∷ 0 ∷ 1 ∷ 0 ∷ [])
    ∷ (1 ∷ 0xFFFFFFFF ∷ 2 ∷ 1 ∷ 0 ∷ [])
    ∷ (1 ∷ 0 ∷ 0 ∷ 0 ∷ 0 ∷ [])
    ∷ (1 ∷ 0 ∷ 0 ∷ 1 ∷ 2 ∷ [])
    ∷ (2 ∷ 0 ∷ 0 ∷ 1 ∷ 1 ∷ [])
    ∷ (3 ∷ 0 ∷ 0 ∷ 1 ∷ 1 ∷ [])
    ∷ join (replicate 65 (1 ∷ 0 ∷ 0 ∷ 1 ∷ 0 ∷ []))
    ∷ []

-- a state with every cell marked
unfoldable pub full : List ℕ
full = replicate cells 0 ++ replicate cells 1

-- the permitted format bytes: each five-bit code with its three-bit codes
abbrev pub bytes_in : Format → List ℕ
bytes_in f = map (λ (x : ℕ). f.code * 8 + x) f.with

-- F9 "39 are"
unfoldable pub format_bytes : List ℕ
format_bytes = join (map bytes_in formats)
