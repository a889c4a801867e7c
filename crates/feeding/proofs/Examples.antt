-- K1, K2, K32 and K35 word by word, and what comes behind a refusal, each computed.
-- Assumes nothing.
use mathlib.Core.Path.{◌≡◌, refl}
use mathlib.Core.List.{List, [], ◌∷◌, ◌++◌}
use Prim.Native.Nat.{ℕ}
use lib.ListN.{set}
use Rattle.laws.specs.Lists.{All, every, some, from}
use Rattle.laws.specs.Tests.{one_of}
use Rattle.meaning.specs.Words.{count, offset, para_adr, para_os, para_type, para_sub_type, sub_address, data24}
use Rattle.meaning.specs.Registers.{location, target_group, stage, sample, sections, overlay, scaler, find, find_among, find_3d, find_offset, find_video, register_among, register_in, register_at}
use Rattle.meaning.specs.Grants.{memory_fine, grant_fine, grants_fine, covers, granted}
use Rattle.meaning.specs.Batch.{allowed_types, type_allowed, allowed}
use Rattle.meaning.specs.State.{cell_formed, well_formed, empty, apply, apply_all}
use Rattle.meaning.specs.Pair.{memory_of, pair_fine, wrote_pair, pair_kept}
use Rattle.meaning.specs.Positions.{kind_of, after, next_kind, next_left, goes, carries, write_at, writes_from, writes_of}
use Rattle.meaning.specs.Reader.{unless, run_in, header_reason, value_reason, word_reason, judge, run, batch_answer, paired_answer}
use Rattle.meaning.specs.Answers.{Answer, answer}
use Rattle.meaning.specs.Engine.{word_refused, counted, fed_answer, closed_answer, Call, opening, feeding, closing, call_answer, engine_answer, engine_leaves}
use Rattle.meaning.specs.Cases.{with, holding, grant_in, grant, type01, word51, single, addressed, addressed_in}

-- a call of an engine that was opened with a state and grants, and its answer
pub record Answered (st grants : List ℕ) : Type 0 where
  pub call : Call
  pub gives : Answer

abbrev pub told : {st grants : List ℕ} → Call → ℕ → ℕ → Answered st grants
told c r p = record { call = c; gives = answer r p }

abbrev pub Holds : (st grants : List ℕ) → Answered st grants → Type 0
Holds st grants x = engine_answer st grants x.call ≡ x.gives

-- the three words of K1, K2 and K32
abbrev header : ℕ
header = 0x0002043C

abbrev word : ℕ
word = 0x50001000

abbrev k1 : List ℕ
k1 = header ∷ type01 ∷ word ∷ []

-- K1 "role 1, start 00100000h, length 00080000h, reach 00080000h, memory 0 | accepted, cell 1": each word is taken, and closing is 10 inside
-- the packet
pub k1_word_by_word : All (Holds empty (grant 0x00080000)) (
    told opening 0 0
    ∷ told (feeding []) 0 0
    ∷ told (feeding (header ∷ [])) 0 1
    ∷ told (feeding (header ∷ type01 ∷ [])) 0 2
    ∷ told (feeding k1) 0 3
    ∷ told (closing []) 0 0
    ∷ told (closing (header ∷ [])) 10 1
    ∷ told (closing (header ∷ type01 ∷ [])) 10 2
    ∷ told (closing k1) 0 3
    ∷ []
    )
unfolding holding count offset para_adr para_os para_type para_sub_type sub_address data24 target_group stage sample sections overlay scaler find find_among find_3d find_video find_offset register_among register_in register_at memory_fine grant_fine grants_fine covers granted allowed_types type_allowed allowed cell_formed well_formed empty apply apply_all memory_of pair_fine wrote_pair pair_kept kind_of after next_kind next_left goes carries write_at writes_from writes_of unless run_in header_reason value_reason word_reason judge run batch_answer paired_answer every some from one_of word_refused counted fed_answer closed_answer call_answer engine_answer
k1_word_by_word = (refl, (refl, (refl, (refl, (refl, (refl, (refl, (refl, (refl, tt)))))))))

-- K2 "the same with reach 00080001h | 9 at 2": the third word is refused, and a fourth and closing are given the same, whatever it is
pub k2_word_by_word : All (Holds empty (grant 0x00080001)) (
    told (feeding (header ∷ type01 ∷ [])) 0 2
    ∷ told (feeding k1) 9 2
    ∷ told (feeding (header ∷ type01 ∷ word ∷ header ∷ [])) 9 2
    ∷ told (feeding (header ∷ type01 ∷ word ∷ 0 ∷ [])) 9 2
    ∷ told (closing k1) 9 2
    ∷ told (closing (header ∷ type01 ∷ word ∷ header ∷ [])) 9 2
    ∷ []
    )
unfolding holding count offset para_adr para_os para_type para_sub_type sub_address data24 target_group stage sample sections overlay scaler find find_among find_3d find_video find_offset register_among register_in register_at memory_fine grant_fine grants_fine covers granted allowed_types type_allowed allowed cell_formed well_formed empty apply apply_all kind_of after next_kind next_left goes carries write_at writes_from writes_of unless run_in header_reason value_reason word_reason judge run batch_answer paired_answer every some from one_of word_refused counted fed_answer closed_answer call_answer engine_answer
k2_word_by_word = (refl, (refl, (refl, (refl, (refl, (refl, tt))))))

-- M7 "hands back the state as it was at opening, changed as the batch says only if that answer is success": with 0, with 10 and with 9
pub handed_back :
    (engine_leaves (holding 0 5) (grant 0x00080000) k1 ≡ set (set (holding 0 5) 1 0x001000) 102 1)
    × (engine_leaves (holding 0 5) (grant 0x00080000) (header ∷ type01 ∷ []) ≡ holding 0 5)
    × (engine_leaves (holding 0 5) (grant 0x00080001) k1 ≡ holding 0 5)
unfolding with holding count offset para_adr para_os para_type para_sub_type sub_address data24 target_group stage sample sections overlay scaler find find_among find_3d find_video find_offset register_among register_in register_at memory_fine grant_fine grants_fine covers granted allowed_types type_allowed allowed cell_formed well_formed empty apply apply_all memory_of pair_fine wrote_pair pair_kept kind_of after next_kind next_left goes carries write_at writes_from writes_of unless run_in header_reason value_reason word_reason judge run batch_answer paired_answer every some from one_of word_refused counted fed_answer closed_answer engine_leaves
handed_back = (refl, refl, refl)

-- ---- the pair

-- the words of K35: they name memory 1
abbrev naming : List ℕ
naming = single (word51 1)

-- those behind the words of K32
abbrev mended : List ℕ
mended = k1 ++ naming

-- K32 "empty | 1 | 50001000 | 14": each word is taken, and closing gives 14. No word is refused by it, so that a packet that is fed behind may
-- still mend the pair
pub k32_word_by_word : All (Holds empty (grant_in 1 1)) (
    told (feeding (header ∷ type01 ∷ [])) 0 2
    ∷ told (feeding k1) 0 3
    ∷ told (closing (header ∷ type01 ∷ [])) 10 2
    ∷ told (closing k1) 14 3
    ∷ told (feeding mended) 0 6
    ∷ told (closing mended) 0 6
    ∷ []
    )
unfolding count offset para_adr para_os para_type para_sub_type sub_address data24 location target_group stage sample sections overlay scaler find find_among find_3d find_video find_offset register_among register_in register_at memory_fine grant_fine grants_fine covers granted allowed_types type_allowed allowed cell_formed well_formed empty apply apply_all memory_of pair_fine wrote_pair pair_kept kind_of after next_kind next_left goes carries write_at writes_from writes_of unless run_in header_reason value_reason word_reason judge run batch_answer paired_answer every some from one_of word_refused counted fed_answer closed_answer call_answer engine_answer
k32_word_by_word = (refl, (refl, (refl, (refl, (refl, (refl, tt))))))

-- K35 "cell 1 holds 001000h | 0 | 51100000 | 14": the address that is judged is that of the state at opening
pub k35_word_by_word : All (Holds addressed (grant_in 0 1)) (told (feeding naming) 0 3 ∷ told (closing naming) 14 3 ∷ [])
unfolding with holding count offset para_adr para_os para_type para_sub_type sub_address data24 location target_group stage sample sections overlay scaler find find_among find_3d find_video find_offset register_among register_in register_at memory_fine grant_fine grants_fine covers granted allowed_types type_allowed allowed cell_formed well_formed empty apply apply_all memory_of pair_fine wrote_pair pair_kept kind_of after next_kind next_left goes carries write_at writes_from writes_of unless run_in header_reason value_reason word_reason judge run batch_answer paired_answer every some from one_of word_refused counted fed_answer closed_answer call_answer engine_answer
k35_word_by_word = (refl, (refl, tt))

-- M7 "hands back the state as it was at opening": with 14, of K32 and of K35; and changed with 0, where the pair is mended
pub pair_handed_back :
    (engine_leaves empty (grant_in 1 1) k1 ≡ empty)
    × (engine_leaves addressed (grant_in 0 1) naming ≡ addressed)
    × (engine_leaves empty (grant_in 1 1) mended ≡ addressed_in 1)
unfolding with holding count offset para_adr para_os para_type para_sub_type sub_address data24 location target_group stage sample sections overlay scaler find find_among find_3d find_video find_offset register_among register_in register_at memory_fine grant_fine grants_fine covers granted allowed_types type_allowed allowed cell_formed well_formed empty apply apply_all memory_of pair_fine wrote_pair pair_kept kind_of after next_kind next_left goes carries write_at writes_from writes_of unless run_in header_reason value_reason word_reason judge run batch_answer paired_answer every some from one_of word_refused counted fed_answer closed_answer engine_leaves
pair_handed_back = (refl, refl, refl)

-- ---- opening, and the most words

-- M2 "After 1 or 2 at opening, every later call repeats that answer, and closing hands back the empty state.": 1 before 2, then 2
pub opened_badly :
    All (Holds [] (1 ∷ [])) (told opening 1 0 ∷ told (feeding k1) 1 0 ∷ told (closing k1) 1 0 ∷ [])
    × All (Holds empty (1 ∷ [])) (told opening 2 0 ∷ told (feeding k1) 2 0 ∷ told (closing k1) 2 0 ∷ [])
    × (engine_leaves (holding 0 5) (1 ∷ []) k1 ≡ empty)
unfolding with holding grants_fine cell_formed well_formed empty every from engine_answer engine_leaves
opened_badly = ((refl, (refl, (refl, tt))), (refl, (refl, (refl, tt))), refl)

-- M5 "23 at 2^32 − 1": the last number of words that is told, and one more
pub most_told : (counted 4294967295 ≡ answer 0 4294967295) × (counted 4294967296 ≡ answer 23 4294967295)
unfolding counted
most_told = (refl, refl)
