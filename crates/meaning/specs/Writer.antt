-- Writing: the exact words, how many they are, and what the size and the writer answer.
-- P2 "The writer takes a state and a grant list, and makes a batch of the state."
-- P11 "The size takes a state and a grant list, and tells how many words the writer makes of the state."
-- Assumes nothing.
use Rattle.std.specs.Prelude.{Bool, true, false, ◌&&◌, cond, List, [], ◌∷◌, ◌++◌, ℕ, zero, suc, ◌+◌, ◌*◌, ◌^◌, leb, ltb, eqb, length, Option, Some, None}
use Rattle.laws.specs.Lists.{join}
use Rattle.laws.specs.Tests.{implies}
use Rattle.meaning.specs.declared.Cell.{Cell}
use Rattle.meaning.specs.declared.SubAddress.{SubAddress}
use Rattle.meaning.specs.declared.VideoOffset.{VideoOffset}
use Rattle.meaning.specs.Registers.{cells, cell, Row, Section, of_3d, of_video, sections, register_at}
use Rattle.meaning.specs.Grants.{Terms, terms_of, grants_fine}
use Rattle.meaning.specs.Batch.{offset_3d}
use Rattle.meaning.specs.State.{value_at, mark_at, marked, one, well_formed}
use Rattle.meaning.specs.Pair.{target_cell, pair_fine}
use Rattle.meaning.specs.Answers.{Answer, bad_state, bad_grants, no_room, not_writable, success, answer, provided}
use Rattle.meaning.specs.Reader.{value_reason}

-- ---- the words: W1 "The writer writes the marked cells, in the order of the cells."

-- a header of n words for an offset, as B2 has it
abbrev pub header_word : ℕ → ℕ → ℕ
header_word n o = n * 2 ^ 16 + o

-- the setting of a type and sub-type, as B5 has it; HParaAdr and HParaOS are 0
abbrev pub setting_word : ℕ → ℕ → ℕ
setting_word t u = u * 2 ^ 24 + t * 2 ^ 16

-- x goes in front where the test is true
abbrev pub if_so {ℓ} : {A : Type ℓ} → Bool → A → List A → List A
if_so true x xs = x ∷ xs
if_so false x xs = xs

-- W2 "their parameters in ascending order": of the chosen cells among a group's rows
unfoldable pub parameters : (Cell → Bool) → List ℕ → List (Row SubAddress) → List ℕ
parameters chosen st [] = []
parameters chosen st (r ∷ rs) = if_so (chosen r.cell) (r.name.0 * 2 ^ 24 + value_at st r.cell) (parameters chosen st rs)

-- W2 "The marked cells of one type and sub-type become one 3D packet .. without a marked cell there is no packet."
abbrev pub packet_3d_of : ℕ → List ℕ → List (List ℕ)
packet_3d_of s [] = []
packet_3d_of s (p ∷ ps) = (header_word (length (s ∷ p ∷ ps)) offset_3d ∷ s ∷ p ∷ ps) ∷ []

-- W3 "Each marked video cell becomes a packet with n = 1."
unfoldable pub packets_video : (Cell → Bool) → List ℕ → List (Row VideoOffset) → List (List ℕ)
packets_video chosen st [] = []
packets_video chosen st (r ∷ rs) =
    if_so (chosen r.cell) (header_word 1 r.name.0 ∷ value_at st r.cell ∷ []) (packets_video chosen st rs)

-- of a section
abbrev pub packets_in : (Cell → Bool) → List ℕ → Section → List (List ℕ)
packets_in chosen st (of_3d g) = packet_3d_of (setting_word g.type g.sub_type) (parameters chosen st g.rows)
packets_in chosen st (of_video rs) = packets_video chosen st rs

-- of sections, one after another
unfoldable pub packets_among : (Cell → Bool) → List ℕ → List Section → List (List ℕ)
packets_among chosen st [] = []
packets_among chosen st (s ∷ ss) = packets_in chosen st s ++ packets_among chosen st ss

-- the words for a chosen set of cells of a state, W1 "in the order of the cells"
unfoldable pub words_for : (Cell → Bool) → List ℕ → List ℕ
words_for chosen st = join (packets_among chosen st sections)

-- the packets that are written: for all marked cells
unfoldable pub packets_of : List ℕ → List (List ℕ)
packets_of st = packets_among (marked st) st sections

-- the words that are written, W1 "The writer writes the marked cells"
unfoldable pub written : List ℕ → List ℕ
written st = words_for (marked st) st

-- ---- how many words they are

-- W6 "The number of words that a state needs is that of the words that the writer writes for it."
abbrev pub size_of : List ℕ → ℕ
size_of st = length (written st)

-- W4 "No state needs more than 184 words."
abbrev pub most_written : ℕ
most_written = 184

-- how many cells among rows are chosen
unfoldable pub count_rows : {Name : Type 0} → (Cell → Bool) → List (Row Name) → ℕ
count_rows chosen [] = 0
count_rows chosen (r ∷ rs) = one (chosen r.cell) + count_rows chosen rs

-- a 3D packet of so many parameters: header and setting come with the first
unfoldable pub packet_need : ℕ → ℕ
packet_need zero = 0
packet_need (suc n) = 2 + suc n

-- of a section
abbrev pub need_in : (Cell → Bool) → Section → ℕ
need_in chosen (of_3d g) = packet_need (count_rows chosen g.rows)
need_in chosen (of_video rs) = 2 * count_rows chosen rs

-- of sections
unfoldable pub need_among : (Cell → Bool) → List Section → ℕ
need_among chosen [] = 0
need_among chosen (s ∷ ss) = need_in chosen s + need_among chosen ss

-- the words that a chosen set of cells needs
unfoldable pub need_for : (Cell → Bool) → ℕ
need_for chosen = need_among chosen sections

-- ---- 12

-- a cell is not what Y12 "a marked cell has a value that 7, 8 or 9 would refuse, or a 3D value not below 2^24" says
unfoldable pub writable : Terms → List ℕ → Cell → Bool
writable g st c =
    implies (ltb 0 (mark_at st c)) (ltb (value_at st c) (2 ^ (register_at c).width) && eqb (value_reason g (register_at c) (value_at st c)) success)

-- Y12 "the lowest such cell", among n cells from number i on
unfoldable pub lowest_bad : Terms → List ℕ → ℕ → ℕ → Option Cell
lowest_bad g st i zero = None
lowest_bad g st i (suc n) = let more = lowest_bad g st (suc i) n in cond (writable g st (cell i)) more (Some (cell i))

-- Y12 "or it is cell 1 and the pair is not fine": cell 0 alone goes before it
abbrev pub with_pair : Bool → Option Cell → Option Cell
with_pair true f = f
with_pair false (Some c) = cond (eqb c.0 0) (Some c) (Some target_cell)
with_pair false None = Some target_cell

-- ---- the calls

-- a bad cell is the answer; where there is none, what comes after
abbrev pub except_at : Option Cell → Answer → Answer
except_at (Some c) a = answer not_writable c.0
except_at None a = a

-- what size and writer ask alike of a state and a grant list, A2 "1 before 2, and 2 before all others"; then what comes after
abbrev pub once_writable : List ℕ → List ℕ → Answer → Answer
once_writable st grants a =
    provided (well_formed st) bad_state
    (provided (grants_fine grants) bad_grants (except_at (with_pair (pair_fine (terms_of grants) st) (lowest_bad (terms_of grants) st 0 cells)) a))

-- A10 "The size gives 1, 2 and 12 as the writer does, and is lent no output.", Y0 "size: the words needed"
unfoldable pub size_answer : List ℕ → List ℕ → Answer
size_answer st grants = once_writable st grants (answer success (size_of st))

-- A4 "The writer gives 12 before 11": the answer, given room for so many words; Y11 "the output is shorter than they need",
-- Y0 "writer: the words written"
unfoldable pub write_answer : List ℕ → List ℕ → ℕ → Answer
write_answer st grants room = once_writable st grants (provided (leb (size_of st) room) no_room (answer success (size_of st)))

-- D8 "The writer refuses what the size refuses, with the same answer; else it gives 11 exactly if the output has fewer words than the size
-- tells, and success at that number if it has not.": the answer that the size's and the room make. The writer's is not defined by it; that
-- it is this one is proved
abbrev pub in_room : ℕ → Answer → Answer
in_room room a = cond (eqb a.reason success) (provided (leb a.place room) no_room a) a
