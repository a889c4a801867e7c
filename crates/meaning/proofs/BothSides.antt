-- The cases and examples of docs/RULES.md, and what likely slips would change, each computed: K1 to K12, the slips, K24 to K29, the writer's
-- and the lister's words and bytes, the format bytes.
-- Assumes nothing.
use mathlib.Core.Path.{◌≡◌, refl}
use mathlib.Core.Logic.{◌↔◌}
use mathlib.Core.Bool.{Bool, not, ◌&&◌, beq}
use mathlib.Core.List.{[], ◌∷◌}
use Prim.Native.Nat.{ℕ, ◌+◌, ◌<◌}
use native.Mathlib.Omega.{arith}
use lib.Dec.{T, ltb, eqb}
use lib.ListN.{length, take, get_or, set, replicate}
use mir.Facts.{and_yes, eqb_yes, ltb_yes, yes_ltb}
use Rattle.laws.specs.Lists.{All, every, some, from}
use Rattle.laws.specs.Tests.{one_of}
use Rattle.laws.proofs.Lists.{every_from}
use Rattle.laws.proofs.Tests.{beq_iff}
use Rattle.meaning.specs.Words.{bytes_of, count, offset, para_adr, para_os, para_type, para_sub_type, sub_address, data24}
use Rattle.meaning.specs.Registers.{cells, formats, bytes_among, bytes_per_pixel, format_table, alpha_constants, location, format_byte, levels, filters, mapping, alpha_select, memory_location, target_group, stage, sample, sections, overlay, scaler, find, find_among, find_3d, find_offset, find_video, register_among, register_in, register_at}
use Rattle.meaning.specs.Grants.{memory_fine, grant_fine, grants_fine, covers, granted}
use Rattle.meaning.specs.Batch.{allowed_types, type_allowed, allowed}
use Rattle.meaning.specs.State.{state_words, cell_formed, well_formed, empty, apply, apply_all}
use Rattle.meaning.specs.Pair.{memory_of, pair_fine, wrote_pair, pair_kept}
use Rattle.meaning.specs.Positions.{kind_of, after, next_kind, next_left, goes, carries, write_at, writes_from, writes_of}
use Rattle.meaning.specs.Reader.{unless, run_in, header_reason, value_reason, word_reason, judge, run, batch_answer, paired_answer, read_answer, read_leaves}
use Rattle.meaning.specs.Answers.{answer}
use Rattle.meaning.specs.Writer.{parameters, packets_video, packets_among, words_for, written, most_written, count_rows, packet_need, need_among, need_for, writable, lowest_bad, write_answer}
use Rattle.meaning.specs.Text.{ascii}
use Rattle.meaning.specs.Lister.{digit, hex, decimal, lines_of, lines_among, cell_lines, listing}
use Rattle.meaning.specs.ListingReader.{is_hex, along, digit_worth, worth, table_lines, read_lines, read_count, read_first, read_text, listing_answer, listing_leaves}
use Rattle.meaning.specs.Cases.{with, holding, cases, slips, Holds, filters_refused, filters_accepted, BothRefuse, BothTake, keeping, breaking, full, format_bytes}

-- X8 "K1 to K12 are one table, and one statement about the definitions is proved of all of it."
pub cases_hold : All Holds cases
unfolding cases with holding count offset para_adr para_os para_type para_sub_type sub_address data24 formats bytes_among bytes_per_pixel alpha_constants location format_byte levels filters mapping alpha_select memory_location target_group stage sample sections overlay scaler find find_among find_3d find_video find_offset register_among register_in register_at memory_fine grant_fine grants_fine covers granted allowed_types type_allowed allowed cell_formed well_formed empty apply apply_all memory_of pair_fine wrote_pair pair_kept kind_of after next_kind next_left goes carries write_at writes_from writes_of unless run_in header_reason value_reason word_reason judge run batch_answer paired_answer read_answer read_leaves every some from one_of
cases_hold = (
  (refl, refl),
  ((refl, refl), ((refl, refl), ((refl, refl), ((refl, refl), ((refl, refl), ((refl, refl), ((refl, refl), ((refl, refl), ((refl, refl), ((refl, refl), ((refl, refl), tt))))))))))),
)

pub slips_hold : All Holds slips
unfolding slips with holding count offset para_adr para_os para_type para_sub_type sub_address data24 formats bytes_among bytes_per_pixel alpha_constants location format_byte levels filters mapping alpha_select memory_location target_group stage sample sections overlay scaler find find_among find_3d find_video find_offset register_among register_in register_at memory_fine grant_fine grants_fine covers granted allowed_types type_allowed allowed cell_formed well_formed empty apply apply_all memory_of pair_fine wrote_pair pair_kept kind_of after next_kind next_left goes carries write_at writes_from writes_of unless run_in header_reason value_reason word_reason judge run batch_answer paired_answer read_answer read_leaves every some from one_of
slips_hold = ((refl, refl), ((refl, refl), ((refl, refl), ((refl, refl), ((refl, refl), ((refl, refl), ((refl, refl), tt)))))))

-- R7 "bits 12:10 and bits 6:4 are both 2 or neither is", from both sides, for the reader and for the writer: K24 to K29
pub filters_hold : All BothRefuse filters_refused × All BothTake filters_accepted
unfolding filters_refused filters_accepted with holding count offset para_adr para_os para_type para_sub_type sub_address data24 filters target_group stage sample sections overlay scaler find find_among find_3d find_video find_offset register_among register_in register_at grants_fine allowed_types type_allowed allowed cell_formed well_formed empty apply apply_all memory_of pair_fine wrote_pair pair_kept kind_of after next_kind next_left goes carries write_at writes_from writes_of unless run_in header_reason value_reason word_reason judge run batch_answer paired_answer read_answer read_leaves every some from one_of parameters packets_video packets_among words_for written count_rows packet_need need_among need_for writable lowest_bad write_answer
filters_hold = (
  (((refl, refl), refl), (((refl, refl), refl), (((refl, refl), refl), (((refl, refl), refl), (((refl, refl), refl), (((refl, refl), refl), (((refl, refl), refl), (((refl, refl), refl), tt)))))))),
  (((refl, refl), refl, refl), (((refl, refl), refl, refl), (((refl, refl), refl, refl), (((refl, refl), refl, refl), (((refl, refl), refl, refl), (((refl, refl), refl, refl), (((refl, refl), refl, refl), tt))))))),
)

-- state and grants both bad: 1 comes before 2
pub order_example : read_answer [] (1 ∷ []) [] ≡ answer 1 0
unfolding well_formed grants_fine read_answer
order_example = refl

-- one packet for a stage's cell, and one for a video cell
pub written_example : written (set (set (holding 10 1) 84 0x07FF07FF) (cells + 84) 1) ≡ 0x0002043C ∷ 0x03020000 ∷ 0x50000001 ∷ 0x00012208 ∷ 0x07FF07FF ∷ []
unfolding with holding empty parameters packets_video packets_among words_for written target_group stage sample sections overlay scaler from
written_example = refl

-- Y12 "a 3D value not below 2^24"
pub unwritable_example : write_answer (holding 0 0x1000000) [] most_written ≡ answer 12 0
unfolding with holding empty cell_formed well_formed grants_fine writable lowest_bad pair_fine write_answer value_reason unless alpha_constants register_at register_in register_among target_group stage sample sections overlay scaler every from
unwritable_example = refl

-- C2 "four bytes are a word of 32 bits, the lowest byte first"
pub bytes_example : bytes_of (0x04030201 ∷ []) ≡ 1 ∷ 2 ∷ 3 ∷ 4 ∷ []
bytes_example = refl

-- L8 "The state that K1 leaves has this listing, and nothing more"
pub listing_example : listing (holding 1 0x001000) ≡ ascii "cells=1\nreg=01.00.50 val=00001000\n"
unfolding with holding empty digit hex decimal lines_of lines_among cell_lines listing target_group stage sample sections overlay scaler from
listing_example = refl

-- L5 "like `reg=23f0 val=00001000`: an offset of four digits and a value of eight", L3 "in lower case"
pub video_line_example : listing (holding 90 0x0009ABC0) ≡ ascii "cells=1\nreg=23f0 val=0009abc0\n"
unfolding with holding empty digit hex decimal lines_of lines_among cell_lines listing target_group stage sample sections overlay scaler from
video_line_example = refl

-- A8 "what the words are does not matter": K1's listing, read back into a buffer of ones, leaves nothing of them
pub restored_example : listing_leaves (ascii "cells=1\nreg=01.00.50 val=00001000\n") (replicate state_words 1) ≡ holding 1 0x001000
unfolding with holding empty apply apply_all digit hex is_hex along digit_worth worth table_lines read_lines read_count read_first read_text listing_answer listing_leaves target_group stage sample sections overlay scaler from
restored_example = refl

-- W4 "No state needs more than 184 words.", L6 "No listing has more than 2,568 bytes.": a state with every cell marked needs as many
pub full_is_the_most : (length (written full) ≡ 184) × (length (listing full) ≡ 2568) × (take 10 (listing full) ≡ ascii "cells=101\n")
unfolding full digit hex decimal lines_of lines_among cell_lines listing parameters packets_video packets_among words_for written target_group stage sample sections overlay scaler from
full_is_the_most = (refl, refl, refl)

-- the rules of the grant list, G2 to G4, from both sides
pub grant_rules_hold : T (every grants_fine keeping) × T (every (λ l. not (grants_fine l)) breaking)
unfolding keeping breaking memory_fine grant_fine grants_fine every
grant_rules_hold = (tt, tt)

-- ---- the format table

right : ℕ → Bool
right b = beq (ltb 0 (get_or format_table b 0)) (one_of b format_bytes) && eqb (get_or format_table b 0) (bytes_per_pixel b)

tested : T (every right (from 0 256))
unfolding right format_bytes formats bytes_among bytes_per_pixel format_table every some one_of from
tested = tt

-- F9 "39 are"
pub formats_39 : length format_bytes ≡ 39
unfolding format_bytes formats
formats_39 = refl

-- H4 "one computed test shows that an entry is nonzero exactly if the byte is one of the 39"
pub formats_exactly : (b : ℕ) → b < 256 → (0 < get_or format_table b 0) ↔ T (one_of b format_bytes)
unfolding right
formats_exactly b l =
    let same = beq_iff (ltb 0 (get_or format_table b 0)) (one_of b format_bytes) (and_yes (beq (ltb 0 (get_or format_table b 0)) _) _ (every_from right 0 256 tested b (omega arith) (omega arith))).0 in
    (λ p. same.0 (yes_ltb p), λ t. ltb_yes (same.1 t))

-- the table's entries are the bytes per pixel that the permitted rows give
pub formats_bytes : (b : ℕ) → b < 256 → get_or format_table b 0 ≡ bytes_per_pixel b
unfolding right
formats_bytes b l = eqb_yes (and_yes (beq (ltb 0 (get_or format_table b 0)) (one_of b format_bytes)) _ (every_from right 0 256 tested b (omega arith) (omega arith))).1
