-- The pair from both sides, computed: K30 to K41 for the reader, and what the writer makes of a target's address.
-- Assumes nothing.
use mathlib.Core.Path.{◌≡◌, refl}
use Rattle.laws.specs.Lists.{All, every, some, from}
use Rattle.meaning.specs.Words.{count, offset, para_adr, para_os, para_type, para_sub_type, sub_address, data24}
use Rattle.meaning.specs.Registers.{alpha_constants, location, target_group, stage, sample, sections, overlay, scaler, find, find_among, find_3d, find_offset, find_video, register_among, register_in, register_at}
use Rattle.meaning.specs.Grants.{memory_fine, grant_fine, grants_fine, covers, granted}
use Rattle.meaning.specs.Batch.{allowed_types, type_allowed, allowed}
use Rattle.meaning.specs.State.{cell_formed, well_formed, empty, apply, apply_all}
use Rattle.meaning.specs.Pair.{memory_of, pair_fine, wrote_pair, pair_kept}
use Rattle.meaning.specs.Positions.{kind_of, after, next_kind, next_left, goes, carries, write_at, writes_from, writes_of}
use Rattle.meaning.specs.Reader.{unless, run_in, header_reason, value_reason, word_reason, judge, run, batch_answer, paired_answer, read_answer, read_leaves}
use Rattle.meaning.specs.Answers.{answer}
use Rattle.meaning.specs.Writer.{parameters, packets_video, packets_among, words_for, written, most_written, writable, lowest_bad, write_answer}
use Rattle.meaning.specs.Cases.{with, holding, grant_in, addressed, pairs, HoldsPaired}

-- K30 to K41, from the states that they name
pub pairs_hold : All HoldsPaired pairs
unfolding pairs with holding count offset para_adr para_os para_type para_sub_type sub_address data24 alpha_constants location target_group stage sample sections overlay scaler find find_among find_3d find_video find_offset register_among register_in register_at memory_fine grant_fine grants_fine covers granted allowed_types type_allowed allowed cell_formed well_formed empty apply apply_all memory_of pair_fine wrote_pair pair_kept kind_of after next_kind next_left goes carries write_at writes_from writes_of unless run_in header_reason value_reason word_reason judge run batch_answer paired_answer read_answer read_leaves every some from
pairs_hold = (
  (refl, refl),
  ((refl, refl), ((refl, refl), ((refl, refl), ((refl, refl), ((refl, refl), ((refl, refl), ((refl, refl), ((refl, refl), ((refl, refl), ((refl, refl), ((refl, refl), tt))))))))))),
)

-- Y12 "or it is cell 1 and the pair is not fine": the address is granted in the other memory, and then in that of the pair; and Y12 "the
-- lowest such cell", where cell 0 is one too
pub pair_written : (write_answer addressed (grant_in 1 1) most_written ≡ answer 12 1)
    × (write_answer addressed (grant_in 0 1) most_written ≡ answer 0 3)
    × (write_answer (with addressed 0 0x000800) (grant_in 1 1) most_written ≡ answer 12 0)
unfolding with holding empty cell_formed well_formed memory_fine grant_fine grants_fine covers granted memory_of pair_fine writable lowest_bad write_answer value_reason unless alpha_constants register_at register_in register_among parameters packets_video packets_among words_for written target_group stage sample sections overlay scaler every some from
pair_written = (refl, refl, refl)
