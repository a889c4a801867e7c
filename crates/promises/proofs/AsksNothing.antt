-- What each public function asks of its caller, from its contract. The calls ask nothing. Some of the functions that they are made of ask
-- something, which spares a test at run time: their line says what, exactly, and their callers are proved to keep to it.
-- What a contract asks is taken as its callers read it: NAME.Asked, of lifetimes and arguments.
-- Assumes nothing.
use mathlib.Core.Path.{◌≡◌, refl, subst}
use mathlib.Core.Bool.{true}
use mathlib.Core.Logic.{◌↔◌}
use Prim.Native.Nat.{◌+◌, ◌-◌, ◌/◌, ◌≤◌, ◌<◌, ◌^◌}
use lib.Dec.{T}
use lib.ListN.{length}
use Rattle.meaning.specs.Words.{words_of}
use Rattle.meaning.specs.Registers.{cells, first_video, end_video, sections_3d}
use Rattle.meaning.specs.Grants.{most_grants, grants_of, grants_fine}
use Rattle.meaning.specs.State.{state_words, marked, well_formed}
use Rattle.meaning.specs.Writer.{written, need_among}
use Rattle.grants.specs.declared.Part.{Part}
use Rattle.grants.specs.declared.Kept.{Kept}
use Rattle.grants.specs.declared.RoleGrants.{RoleGrants}
use Rattle.grants.specs.Kept.{Bounded}
use Rattle.keeping.specs.Keeping.{no_bounds, beginnings}
use Rattle.pair.specs.Judged.{KnownBy}
use Rattle.rows_video.specs.Scalers.{IsScaler}
use Rattle.headers.specs.Told.{IsGroup}
use Rattle.cells.specs.Rows.{IsRow}
use Rattle.bodies.specs.Passes.{Places}
use Rattle.emitter_3d.specs.Emitted.{words_of_sections, Narrow}
use Rattle.lines.specs.Lines.{digit_pairs}
use Rattle.irangelda.proofs.AsksNothing as calls
use Rattle.irangelda.proofs.AsksNothing.{AsksNothing, nothing_asked}
use Rattle.meaning.proofs.Reason.at.Reads as at
use Rattle.fields.proofs.count.Reads as count
use Rattle.fields.proofs.offset.Reads as offset
use Rattle.fields.proofs.sub_type.Reads as sub_type
use Rattle.fields.proofs.sub_address.Reads as sub_address
use Rattle.fields.proofs.data.Reads as data_bits
use Rattle.words.proofs.word.Reads as word
use Rattle.words.proofs.put_word.Reads as put_word
use Rattle.states.proofs.value.Reads as value
use Rattle.states.proofs.mark.Reads as mark
use Rattle.states.proofs.well_formed.Reads as well_formed
use Rattle.states.proofs.marked_between.Reads as marked_between
use Rattle.states.proofs.load.Reads as load
use Rattle.states.proofs.store.Reads as store
use Rattle.registers.proofs.name_of.Reads as name_of
use Rattle.registers.proofs.offset_of.Reads as offset_of
use Rattle.grants.proofs.Part.of.Reads as part_by
use Rattle.grants.proofs.Kept.part_of.Reads as part_of
use Rattle.grants.proofs.RoleGrants.which.Reads as which
use Rattle.keeping.proofs.begin.Reads as begin
use Rattle.keeping.proofs.place.Reads as place
use Rattle.pair.proofs.which.Reads as pair_which
use Rattle.pair.proofs.fine.Reads as pair_fine
use Rattle.pair.proofs.kept.Reads as pair_kept
use Rattle.rules.proofs.must_be_clear.Reads as must_be_clear
use Rattle.rules.proofs.alpha_constants.Reads as alpha_constants
use Rattle.rules.proofs.location.Reads as location
use Rattle.rules.proofs.bytes_per_pixel.Reads as bytes_per_pixel
use Rattle.rules.proofs.format_byte.Reads as format_byte
use Rattle.rules.proofs.alpha_select.Reads as alpha_select
use Rattle.rules.proofs.memory_location.Reads as memory_location
use Rattle.sampling.proofs.levels.Reads as levels
use Rattle.sampling.proofs.filters.Reads as filters
use Rattle.sampling.proofs.mapping.Reads as mapping
use Rattle.rows_3d.proofs.alpha_constants_reason.Reads as alpha_constants_reason
use Rattle.rows_3d.proofs.target_address.Reads as target_address
use Rattle.rows_3d.proofs.target_address_reason.Reads as target_address_reason
use Rattle.rows_3d.proofs.location_reason.Reads as location_reason
use Rattle.rows_3d.proofs.format_reason.Reads as format_reason
use Rattle.rows_3d.proofs.stage_reason.Reads as stage_reason
use Rattle.rows_3d.proofs.levels_reason.Reads as levels_reason
use Rattle.rows_3d.proofs.filters_reason.Reads as filters_reason
use Rattle.rows_3d.proofs.mapping_reason.Reads as mapping_reason
use Rattle.rows_video.proofs.overlay_reason.Reads as overlay_reason
use Rattle.rows_video.proofs.alpha_select_reason.Reads as alpha_select_reason
use Rattle.rows_video.proofs.deinterlace_reason.Reads as deinterlace_reason
use Rattle.rows_video.proofs.sub_picture_reason.Reads as sub_picture_reason
use Rattle.rows_video.proofs.scaler_address.Reads as scaler_address
use Rattle.rows_video.proofs.first_address_reason.Reads as first_address_reason
use Rattle.rows_video.proofs.address_reason.Reads as address_reason
use Rattle.rows_video.proofs.destination_stride_reason.Reads as destination_stride_reason
use Rattle.rows_video.proofs.source_stride_reason.Reads as source_stride_reason
use Rattle.headers.proofs.header_of.Reads as header_of
use Rattle.headers.proofs.group_of.Reads as group_of
use Rattle.judging.proofs.judge_parameter.Reads as judge_parameter
use Rattle.judging.proofs.overlay_reason.Reads as overlay_word
use Rattle.judging.proofs.scaler_reason.Reads as scaler_word
use Rattle.cells.proofs.fine.Reads as fine
use Rattle.bodies.proofs.take_parameters.Reads as take_parameters
use Rattle.bodies.proofs.take_overlay.Reads as take_overlay
use Rattle.bodies.proofs.take_scaler.Reads as take_scaler
use Rattle.packets.proofs.read_packet.Reads as read_packet
use Rattle.packets.proofs.read_packets.Reads as read_packets
use Rattle.search.proofs.lowest_bad.Reads as lowest_bad
use Rattle.needs.proofs.needed.Reads as needed
use Rattle.emitter_3d.proofs.emit_3d.Reads as emit_3d
use Rattle.emitter.proofs.emit.Reads as emit
use Rattle.lines.proofs.put_line_3d.Reads as put_line_3d
use Rattle.lines.proofs.put_line_video.Reads as put_line_video
use Rattle.asking.proofs.part_in.Reads as byte_part_in
use Rattle.asking.proofs.Stored.part_of.Reads as byte_part_of
use Rattle.asking.proofs.ask.Reads as ask
use Rattle.engine.proofs.open.Reads as engine_open
use Rattle.engine.proofs.feed.Reads as engine_feed
use Rattle.engine.proofs.close.Reads as engine_close
use Rattle.reader.proofs.read.Reads as read
use Rattle.writer.proofs.size.Reads as size
use Rattle.writer.proofs.write.Reads as write
use Rattle.lister.proofs.list.Reads as list
use Rattle.query.proofs.which_grant.Reads as which_grant
use Rattle.line_reader.specs.Named.{digit_table}
use Rattle.line_reader.proofs.read_line.Reads as read_line
use Rattle.line_places.proofs.furthest.Reads as furthest
use Rattle.listing_reader.proofs.read_listing.Reads as read_listing
use Rattle.irangelda.proofs.irangelda_read.Reads as irangelda_read
use Rattle.irangelda.proofs.irangelda_size.Reads as irangelda_size
use Rattle.irangelda.proofs.irangelda_write.Reads as irangelda_write
use Rattle.irangelda.proofs.irangelda_list.Reads as irangelda_list
use Rattle.irangelda.proofs.irangelda_read_listing.Reads as irangelda_read_listing
use Rattle.irangelda.proofs.irangelda_which_grant.Reads as irangelda_which_grant

-- a contract that asks this of its caller, and no more
abbrev AsksExactly {ℓ} : {K : Type ℓ} {A : K → Type ℓ} (P Q : (κ : K) → A κ → Type ℓ) → Type ℓ
AsksExactly P Q = (κs : _) (a : _) → P κs a ↔ Q κs a

-- since it is what the contract says
asks_this {ℓ} : {A : Type ℓ} → A ↔ A
asks_this = (λ p. p, λ p. p)

-- or what it says and what an argument's type carries
asks_beside {ℓ} : {A B : Type ℓ} → B → A ↔ (A × B)
asks_beside b = (λ p. (p, b), λ q. q.0)

-- ==== The calls

-- of the library, on bytes of any length
pub read_asks : AsksNothing read.Asked
read_asks κs a = nothing_asked

pub size_asks : AsksNothing size.Asked
size_asks κs a = nothing_asked

pub write_asks : AsksNothing write.Asked
write_asks κs a = nothing_asked

pub list_asks : AsksNothing list.Asked
list_asks κs a = nothing_asked

pub read_listing_asks : AsksNothing read_listing.Asked
read_listing_asks κs a = nothing_asked

pub which_grant_asks : AsksNothing which_grant.Asked
which_grant_asks κs a = nothing_asked

-- of the engine, whatever engine they are handed
pub engine_open_asks : AsksNothing engine_open.Asked
engine_open_asks κs a = nothing_asked

pub engine_feed_asks : AsksNothing engine_feed.Asked
engine_feed_asks κs a = nothing_asked

pub engine_close_asks : AsksNothing engine_close.Asked
engine_close_asks κs a = nothing_asked

-- and of the driver, as their own crate has it
pub irangelda_read_asks : AsksNothing irangelda_read.Asked
irangelda_read_asks = calls.irangelda_read_asks

pub irangelda_size_asks : AsksNothing irangelda_size.Asked
irangelda_size_asks = calls.irangelda_size_asks

pub irangelda_write_asks : AsksNothing irangelda_write.Asked
irangelda_write_asks = calls.irangelda_write_asks

pub irangelda_list_asks : AsksNothing irangelda_list.Asked
irangelda_list_asks = calls.irangelda_list_asks

pub irangelda_read_listing_asks : AsksNothing irangelda_read_listing.Asked
irangelda_read_listing_asks = calls.irangelda_read_listing_asks

pub irangelda_which_grant_asks : AsksNothing irangelda_which_grant.Asked
irangelda_which_grant_asks = calls.irangelda_which_grant_asks

-- D1 "asks nothing of its caller": all fifteen
pub asks_nothing : AsksNothing read.Asked × AsksNothing size.Asked × AsksNothing write.Asked × AsksNothing list.Asked × AsksNothing read_listing.Asked × AsksNothing which_grant.Asked
    × AsksNothing engine_open.Asked × AsksNothing engine_feed.Asked × AsksNothing engine_close.Asked
    × AsksNothing irangelda_read.Asked × AsksNothing irangelda_size.Asked × AsksNothing irangelda_write.Asked × AsksNothing irangelda_list.Asked × AsksNothing irangelda_read_listing.Asked
    × AsksNothing irangelda_which_grant.Asked
asks_nothing = (
  read_asks,
  size_asks,
  write_asks,
  list_asks,
  read_listing_asks,
  which_grant_asks,
  engine_open_asks,
  engine_feed_asks,
  engine_close_asks,
  irangelda_read_asks,
  irangelda_size_asks,
  irangelda_write_asks,
  irangelda_list_asks,
  irangelda_read_listing_asks,
  irangelda_which_grant_asks,
)

-- ==== What they are made of

-- ---- refusals

pub at_asks : AsksNothing at.Asked
at_asks κs a = nothing_asked

-- ---- fields

pub count_asks : AsksNothing count.Asked
count_asks κs a = nothing_asked

pub offset_asks : AsksNothing offset.Asked
offset_asks κs a = nothing_asked

pub sub_type_asks : AsksNothing sub_type.Asked
sub_type_asks κs a = nothing_asked

pub sub_address_asks : AsksNothing sub_address.Asked
sub_address_asks κs a = nothing_asked

pub data_bits_asks : AsksNothing data_bits.Asked
data_bits_asks κs a = nothing_asked

-- ---- words

pub word_asks : AsksExactly word.Asked (λ _ (bytes, (i, _)). i < length bytes.now / 4)
word_asks κs a = asks_this

pub put_word_asks : AsksExactly put_word.Asked (λ _ (bytes, (i, _)). i < length bytes.now / 4)
put_word_asks κs a = asks_this

-- ---- states

pub value_asks : AsksExactly value.Asked (λ _ (state, (cell, _)). (length (words_of state.now) ≡ state_words) × (cell.0 < cells))
value_asks κs a = asks_this

pub mark_asks : AsksExactly mark.Asked (λ _ (state, (cell, _)). (length (words_of state.now) ≡ state_words) × (cell.0 < cells))
mark_asks κs a = asks_this

pub well_formed_asks : AsksNothing well_formed.Asked
well_formed_asks κs a = nothing_asked

pub marked_between_asks : AsksExactly marked_between.Asked (λ _ (state, (_, (end, _))). (end ≤ cells) × (length (words_of state.now) ≡ state_words))
marked_between_asks κs a = asks_this

pub load_asks : AsksExactly load.Asked (λ _ (bytes, (state, _)). (length (words_of bytes.now) ≡ state_words) × (length state.now ≡ state_words))
load_asks κs a = asks_this

pub store_asks : AsksExactly store.Asked (λ _ (state, (bytes, _)). (length (words_of bytes.now) ≡ state_words) × (length state.now ≡ state_words))
store_asks κs a = asks_this

-- ---- registers

pub name_of_asks : AsksExactly name_of.Asked (λ _ (cell, _). cell.0 < first_video)
name_of_asks κs a = asks_this

pub offset_of_asks : AsksExactly offset_of.Asked (λ _ (cell, _). (first_video ≤ cell.0) × (cell.0 < end_video))
offset_of_asks κs a = asks_this

-- ---- grants

-- What a lent value of kept grants asks, of whoever makes it: those of a role that their part lies inside the room of the arrays, and no more,
pub role_grants_ask : (starts lasts numbers : _) (part : Part)
    → ((r : RoleGrants) × ((r.starts ≡ starts) × ((r.lasts ≡ lasts) × ((r.numbers ≡ numbers) × (r.part ≡ part))))) ↔ (part.to ≤ most_grants)
role_grants_ask s l n p = (
  λ (r, (_, (_, (_, same)))). subst (λ (q : Part). q.to ≤ most_grants) same r.inside,
  λ inside. (record { starts = s; lasts = l; numbers = n; part = p; inside = inside }, (refl, (refl, (refl, refl)))),
)

-- and those of all roles that each part does
pub kept_ask : (starts lasts numbers bounds : _)
    → ((k : Kept) × ((k.starts ≡ starts) × ((k.lasts ≡ lasts) × ((k.numbers ≡ numbers) × (k.bounds ≡ bounds))))) ↔ Bounded bounds.now
kept_ask s l n b = (
  λ (k, (_, (_, (_, same)))). subst (λ c. Bounded c.now) same k.bounded,
  λ bounded. (record { starts = s; lasts = l; numbers = n; bounds = b; bounded = bounded }, (refl, (refl, (refl, refl)))),
)

pub part_by_asks : AsksExactly part_by.Asked (λ _ (_, (role, _)). role < 4)
part_by_asks κs a = asks_this

pub part_of_asks : AsksExactly part_of.Asked (λ _ (_, (role, _)). role < 4)
part_of_asks κs a = asks_this

pub which_asks : AsksExactly which.Asked (λ _ (part, _). part.now.part.to ≤ most_grants)
which_asks κs a = (λ _. a.0.now.inside, λ _. nothing_asked)

-- ---- keeping

pub begin_asks : AsksExactly begin.Asked (λ _ (_, (bounds, _)). bounds.now ≡ no_bounds)
begin_asks κs a = asks_this

pub place_asks : AsksExactly place.Asked (λ _ (grants, (_, (_, (_, (bounds, _))))).
    T (grants_fine (words_of grants.now)) × (bounds.now ≡ beginnings (grants_of (words_of grants.now))))
place_asks κs a = asks_this

-- ---- pair

pub pair_which_asks : AsksExactly pair_which.Asked (λ _ (state, (part, _)). (length (words_of state.now) ≡ state_words) × (part.now.part.to ≤ most_grants))
pair_which_asks κs a = asks_beside a.1.0.now.inside

pub pair_fine_asks : AsksExactly pair_fine.Asked (λ _ (state, (part, (known, _))). ((length (words_of state.now) ≡ state_words) × (known ≡ true → KnownBy part.now (words_of state.now))) × (part.now.part.to ≤ most_grants))
pair_fine_asks κs a = asks_beside a.1.0.now.inside

pub pair_kept_asks : AsksExactly pair_kept.Asked (λ _ (_, (_, (own, (part, (known, _))))). ((length own.now ≡ state_words) × (known ≡ true → KnownBy part.now own.now)) × (part.now.part.to ≤ most_grants))
pair_kept_asks κs a = asks_beside a.1.1.1.0.now.inside

-- ---- rules

pub must_be_clear_asks : AsksNothing must_be_clear.Asked
must_be_clear_asks κs a = nothing_asked

pub alpha_constants_asks : AsksNothing alpha_constants.Asked
alpha_constants_asks κs a = nothing_asked

pub location_asks : AsksNothing location.Asked
location_asks κs a = nothing_asked

pub bytes_per_pixel_asks : AsksNothing bytes_per_pixel.Asked
bytes_per_pixel_asks κs a = nothing_asked

pub format_byte_asks : AsksNothing format_byte.Asked
format_byte_asks κs a = nothing_asked

pub alpha_select_asks : AsksNothing alpha_select.Asked
alpha_select_asks κs a = nothing_asked

pub memory_location_asks : AsksNothing memory_location.Asked
memory_location_asks κs a = nothing_asked

-- ---- sampling

pub levels_asks : AsksNothing levels.Asked
levels_asks κs a = nothing_asked

pub filters_asks : AsksNothing filters.Asked
filters_asks κs a = nothing_asked

pub mapping_asks : AsksNothing mapping.Asked
mapping_asks κs a = nothing_asked

-- ---- rows_3d

pub alpha_constants_reason_asks : AsksNothing alpha_constants_reason.Asked
alpha_constants_reason_asks κs a = nothing_asked

pub target_address_asks : AsksExactly target_address.Asked (λ _ (value, _). value < 2 ^ 24)
target_address_asks κs a = asks_this

pub target_address_reason_asks : AsksExactly target_address_reason.Asked (λ _ (value, (part, _)). (value < 2 ^ 24) × (part.now.part.to ≤ most_grants))
target_address_reason_asks κs a = asks_beside a.1.0.now.inside

pub location_reason_asks : AsksNothing location_reason.Asked
location_reason_asks κs a = nothing_asked

pub format_reason_asks : AsksNothing format_reason.Asked
format_reason_asks κs a = nothing_asked

pub stage_reason_asks : AsksNothing stage_reason.Asked
stage_reason_asks κs a = nothing_asked

pub levels_reason_asks : AsksNothing levels_reason.Asked
levels_reason_asks κs a = nothing_asked

pub filters_reason_asks : AsksNothing filters_reason.Asked
filters_reason_asks κs a = nothing_asked

pub mapping_reason_asks : AsksNothing mapping_reason.Asked
mapping_reason_asks κs a = nothing_asked

-- ---- rows_video

pub overlay_reason_asks : AsksNothing overlay_reason.Asked
overlay_reason_asks κs a = nothing_asked

pub alpha_select_reason_asks : AsksNothing alpha_select_reason.Asked
alpha_select_reason_asks κs a = nothing_asked

pub deinterlace_reason_asks : AsksNothing deinterlace_reason.Asked
deinterlace_reason_asks κs a = nothing_asked

pub sub_picture_reason_asks : AsksNothing sub_picture_reason.Asked
sub_picture_reason_asks κs a = nothing_asked

pub scaler_address_asks : AsksNothing scaler_address.Asked
scaler_address_asks κs a = nothing_asked

pub first_address_reason_asks : AsksExactly first_address_reason.Asked (λ _ (_, (part, _)). part.now.part.to ≤ most_grants)
first_address_reason_asks κs a = (λ _. a.1.0.now.inside, λ _. nothing_asked)

pub address_reason_asks : AsksExactly address_reason.Asked (λ _ (_, (part, _)). part.now.part.to ≤ most_grants)
address_reason_asks κs a = (λ _. a.1.0.now.inside, λ _. nothing_asked)

pub destination_stride_reason_asks : AsksNothing destination_stride_reason.Asked
destination_stride_reason_asks κs a = nothing_asked

pub source_stride_reason_asks : AsksNothing source_stride_reason.Asked
source_stride_reason_asks κs a = nothing_asked

-- ---- headers

pub header_of_asks : AsksNothing header_of.Asked
header_of_asks κs a = nothing_asked

pub group_of_asks : AsksNothing group_of.Asked
group_of_asks κs a = nothing_asked

-- ---- judging

pub judge_parameter_asks : AsksExactly judge_parameter.Asked (λ _ (group, (_, (value, (part, _)))). (IsGroup group × (value < 2 ^ 24)) × (part.now.part.to ≤ most_grants))
judge_parameter_asks κs a = asks_beside a.1.1.1.0.now.inside

pub overlay_word_asks : AsksExactly overlay_word.Asked (λ _ (index, _). index < 3)
overlay_word_asks κs a = asks_this

pub scaler_word_asks : AsksExactly scaler_word.Asked (λ _ (index, (_, (part, _))). (index < 7) × (part.now.part.to ≤ most_grants))
scaler_word_asks κs a = asks_beside a.1.1.0.now.inside

-- ---- cells

pub fine_asks : AsksExactly fine.Asked (λ _ (state, (cell, (row, (part, _)))). (T (well_formed (words_of state.now)) × IsRow row cell.0) × (part.now.part.to ≤ most_grants))
fine_asks κs a = asks_beside a.1.1.1.0.now.inside

-- ---- bodies

pub take_parameters_asks : AsksExactly take_parameters.Asked (λ _ (batch, (first, (end, (group, (part, _))))). (Places first end batch.now × IsGroup group) × (part.now.part.to ≤ most_grants))
take_parameters_asks κs a = asks_beside a.1.1.1.1.0.now.inside

pub take_overlay_asks : AsksExactly take_overlay.Asked (λ _ (batch, (first, (end, (index, _)))). Places first end batch.now × (index + (end - first) ≤ 3))
take_overlay_asks κs a = asks_this

pub take_scaler_asks : AsksExactly take_scaler.Asked (λ _ (batch, (first, (end, (base, (index, (part, _)))))). (Places first end batch.now × ((index + (end - first) ≤ 7) × IsScaler base.0)) × (part.now.part.to ≤ most_grants))
take_scaler_asks κs a = asks_beside a.1.1.1.1.1.0.now.inside

-- ---- packets

pub read_packet_asks : AsksExactly read_packet.Asked (λ _ (batch, (at, (kept, _))). (at < length batch.now / 4) × Bounded kept.now.bounds.now)
read_packet_asks κs a = asks_beside a.1.1.0.now.bounded

pub read_packets_asks : AsksExactly read_packets.Asked (λ _ (_, (kept, _)). Bounded kept.now.bounds.now)
read_packets_asks κs a = (λ _. a.1.0.now.bounded, λ _. nothing_asked)

-- ---- search

pub lowest_bad_asks : AsksExactly lowest_bad.Asked (λ _ (state, (kept, _)). T (well_formed (words_of state.now)) × Bounded kept.now.bounds.now)
lowest_bad_asks κs a = asks_beside a.1.0.now.bounded

-- ---- needs

pub needed_asks : AsksExactly needed.Asked (λ _ (state, _). length (words_of state.now) ≡ state_words)
needed_asks κs a = asks_this

-- ---- emitter_3d

pub emit_3d_asks : AsksExactly emit_3d.Asked (λ _ (state, (out, (end, _))). (length (words_of state.now) ≡ state_words) × (Narrow (words_of state.now) × ((end ≡ length (words_of_sections (words_of state.now) sections_3d)) × (end ≤ length out.now / 4))))
emit_3d_asks κs a = asks_this

-- ---- emitter

pub emit_asks : AsksExactly emit.Asked (λ _ (state, (out, (before, _))). (length (words_of state.now) ≡ state_words) × (Narrow (words_of state.now) × ((length (written (words_of state.now)) ≤ length out.now / 4) × (before ≡ need_among (marked (words_of state.now)) sections_3d))))
emit_asks κs a = asks_this

-- ---- lines

pub put_line_3d_asks : AsksExactly put_line_3d.Asked (λ _ (pairs, (out, (at, (cell, _)))). (pairs.now ≡ digit_pairs) × ((cell.0 < first_video) × (at + 26 ≤ length out.now)))
put_line_3d_asks κs a = asks_this

pub put_line_video_asks : AsksExactly put_line_video.Asked (λ _ (pairs, (out, (at, (cell, _)))). (pairs.now ≡ digit_pairs) × ((first_video ≤ cell.0) × ((cell.0 < end_video) × (at + 22 ≤ length out.now))))
put_line_video_asks κs a = asks_this

-- ---- lines, read back

pub read_line_asks : AsksExactly read_line.Asked (λ _ (digits, (text, (at, (first, (end, _))))). (digits.now ≡ digit_table) × ((at ≤ length text.now) × (end ≤ cells)))
read_line_asks κs a = asks_this

pub furthest_asks : AsksExactly furthest.Asked (λ _ (text, (at, (first, (end, _)))). (at ≤ length text.now) × (end ≤ cells))
furthest_asks κs a = asks_this

-- ---- words one at a time

pub byte_part_in_asks : AsksExactly byte_part_in.Asked (λ _ (_, (role, _)). role < 4)
byte_part_in_asks κs a = asks_this

pub byte_part_of_asks : AsksExactly byte_part_of.Asked (λ _ (_, (role, _)). role < 4)
byte_part_of_asks κs a = asks_this

pub ask_asks : AsksNothing ask.Asked
ask_asks κs a = nothing_asked
