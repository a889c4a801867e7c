-- K42 to K51, computed: the size, and the writer in room around it.
-- Assumes nothing.
use mathlib.Core.Path.{refl}
use Rattle.laws.specs.Lists.{All, every, some, from}
use Rattle.laws.specs.Tests.{one_of}
use Rattle.meaning.specs.Registers.{filters, mapping, target_group, stage, sample, sections, overlay, scaler, register_among, register_in, register_at}
use Rattle.meaning.specs.Grants.{memory_fine, grant_fine, grants_fine, covers, granted}
use Rattle.meaning.specs.State.{cell_formed, well_formed, empty}
use Rattle.meaning.specs.Pair.{memory_of, pair_fine}
use Rattle.meaning.specs.Reader.{unless, value_reason}
use Rattle.meaning.specs.Writer.{parameters, packets_video, packets_among, words_for, written, writable, lowest_bad, size_answer, write_answer}
use Rattle.meaning.specs.Cases.{with, holding}
use Rattle.sizing.specs.Cases.{needing, HoldsNeeding, refusing, HoldsRefusing, HoldsEmpty}

-- K42
pub empty_needs_none : HoldsEmpty
unfolding empty cell_formed well_formed grants_fine memory_of pair_fine writable lowest_bad size_answer write_answer value_reason unless register_at register_in register_among parameters packets_video packets_among words_for written target_group stage sample sections overlay scaler every some from
empty_needs_none = (refl, refl, refl)

-- K43 to K47
pub needs_hold : All HoldsNeeding needing
unfolding needing with holding empty cell_formed well_formed memory_fine grant_fine grants_fine covers granted memory_of pair_fine writable lowest_bad size_answer write_answer value_reason unless register_at register_in register_among parameters packets_video packets_among words_for written mapping target_group stage sample sections overlay scaler every some from one_of
needs_hold = ((refl, refl, refl, refl), ((refl, refl, refl, refl), ((refl, refl, refl, refl), ((refl, refl, refl, refl), ((refl, refl, refl, refl), tt)))))

-- K48 to K51
pub refusals_hold : All HoldsRefusing refusing
unfolding refusing with holding empty cell_formed well_formed memory_fine grant_fine grants_fine covers granted memory_of pair_fine writable lowest_bad size_answer write_answer value_reason unless register_at register_in register_among parameters packets_video packets_among words_for written filters target_group stage sample sections overlay scaler every some from one_of
refusals_hold = ((refl, refl, refl), ((refl, refl, refl), ((refl, refl, refl), ((refl, refl, refl), tt))))
