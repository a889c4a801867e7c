-- Two answers that one contract allows are equal, and so is what they leave in each lent buffer: of every public function.
-- A contract is taken as its callers read it: NAME.Learnt, of lifetimes, arguments, an answer and the buffers at exit. Where the callers'
-- part is needed too, it is NAME.Asked.
-- Assumes nothing.
use mathlib.Core.Path.{◌≡◌, sym, ap, ap₂, ◌∙◌}
use mathlib.Core.List.{List, []}
use Prim.Native.Nat.{ℕ}
use native.Mathlib.Omega.{arith}
use Rattle.meaning.specs.Answers.{Answer}
use Rattle.meaning.specs.Grants.{Terms}
use Rattle.std.specs.Prelude.{Result}
use Rattle.meaning.specs.declared.Cell.{Cell}
use Rattle.meaning.specs.declared.Reason.{Reason}
use Rattle.grants.specs.declared.Kept.{Kept}
use Rattle.grants.specs.declared.RoleGrants.{RoleGrants}
use Rattle.grants.specs.Held.{IsRole, IsKept}
use Rattle.grants.proofs.Keeping.{part_some, kept_some}
use Rattle.judging.specs.declared.Judged.{Judged}
use Rattle.engine.specs.declared.Closed.{Closed}
use Rattle.promises.proofs.Results.{one_verdict, one_result, one_asked, one_role}
use Rattle.rows_video.specs.Scalers.{first}
use Rattle.rows_video.proofs.Scalers.{the_scaler}
use Rattle.meaning.proofs.Reason.at.Reads as at
use Rattle.fields.proofs.count.Reads as count
use Rattle.fields.proofs.offset.Reads as offset
use Rattle.fields.proofs.sub_type.Reads as sub_type
use Rattle.fields.proofs.sub_address.Reads as sub_address
use Rattle.fields.proofs.data.Reads as data_bits
use Rattle.rules.proofs.must_be_clear.Reads as must_be_clear
use Rattle.rules.proofs.alpha_constants.Reads as alpha_constants
use Rattle.rules.proofs.location.Reads as location
use Rattle.rules.proofs.bytes_per_pixel.Reads as bytes_per_pixel
use Rattle.rules.proofs.format_byte.Reads as format_byte
use Rattle.sampling.proofs.levels.Reads as levels
use Rattle.sampling.proofs.filters.Reads as filters
use Rattle.sampling.proofs.mapping.Reads as mapping
use Rattle.rules.proofs.alpha_select.Reads as alpha_select
use Rattle.rules.proofs.memory_location.Reads as memory_location
use Rattle.registers.proofs.name_of.Reads as name_of
use Rattle.registers.proofs.offset_of.Reads as offset_of
use Rattle.words.proofs.word.Reads as word
use Rattle.words.proofs.put_word.Reads as put_word
use Rattle.states.proofs.value.Reads as value
use Rattle.states.proofs.mark.Reads as mark
use Rattle.states.proofs.load.Reads as load
use Rattle.states.proofs.store.Reads as store
use Rattle.states.proofs.well_formed.Reads as well_formed
use Rattle.states.proofs.marked_between.Reads as marked_between
use Rattle.grants.proofs.Part.of.Reads as part_by
use Rattle.grants.proofs.Kept.part_of.Reads as part_of
use Rattle.grants.proofs.RoleGrants.which.Reads as which
use Rattle.rows_3d.proofs.alpha_constants_reason.Reads as alpha_constants_reason
use Rattle.rows_3d.proofs.target_address.Reads as target_address
use Rattle.rows_3d.proofs.target_address_reason.Reads as target_address_reason
use Rattle.rows_3d.proofs.location_reason.Reads as location_reason
use Rattle.rows_3d.proofs.format_reason.Reads as format_reason
use Rattle.rows_3d.proofs.stage_reason.Reads as stage_reason
use Rattle.rows_3d.proofs.levels_reason.Reads as levels_reason
use Rattle.rows_3d.proofs.filters_reason.Reads as filters_reason
use Rattle.rows_3d.proofs.mapping_reason.Reads as mapping_reason
use Rattle.rows_video.proofs.overlay_reason.Reads as overlay_reason
use Rattle.rows_video.proofs.alpha_select_reason.Reads as alpha_select_reason
use Rattle.rows_video.proofs.deinterlace_reason.Reads as deinterlace_reason
use Rattle.rows_video.proofs.sub_picture_reason.Reads as sub_picture_reason
use Rattle.rows_video.proofs.scaler_address.Reads as scaler_address
use Rattle.rows_video.proofs.first_address_reason.Reads as first_address_reason
use Rattle.rows_video.proofs.address_reason.Reads as address_reason
use Rattle.rows_video.proofs.destination_stride_reason.Reads as destination_stride_reason
use Rattle.rows_video.proofs.source_stride_reason.Reads as source_stride_reason
use Rattle.headers.proofs.Groups.{some_setting}
use Rattle.headers.proofs.header_of.Reads as header_of
use Rattle.headers.proofs.group_of.Reads as group_of
use Rattle.judging.proofs.judge_parameter.Reads as judge_parameter
use Rattle.judging.proofs.overlay_reason.Reads as overlay_word
use Rattle.judging.proofs.scaler_reason.Reads as scaler_word
use Rattle.cells.proofs.fine.Reads as fine
use Rattle.needs.specs.declared.Need.{Need}
use Rattle.needs.proofs.needed.Reads as needed
use Rattle.lines.proofs.put_line_3d.Reads as put_line_3d
use Rattle.lines.proofs.put_line_video.Reads as put_line_video
use Rattle.keeping.proofs.begin.Reads as begin
use Rattle.keeping.proofs.place.Reads as place
use Rattle.pair.proofs.which.Reads as pair_which
use Rattle.pair.proofs.fine.Reads as pair_fine
use Rattle.pair.proofs.kept.Reads as pair_kept
use Rattle.asking.specs.Asked.{capped}
use Rattle.asking.proofs.part_in.Reads as byte_part_in
use Rattle.asking.proofs.Stored.part_of.Reads as byte_part_of
use Rattle.asking.proofs.ask.Reads as ask
use Rattle.engine.proofs.open.Reads as engine_open
use Rattle.engine.proofs.feed.Reads as engine_feed
use Rattle.engine.proofs.close.Reads as engine_close
use Rattle.reader.proofs.read.Reads as read
use Rattle.search.proofs.lowest_bad.Reads as lowest_bad
use Rattle.writer.proofs.size.Reads as size
use Rattle.writer.proofs.write.Reads as write
use Rattle.lister.proofs.list.Reads as list
use Rattle.query.proofs.which_grant.Reads as which_grant
use Rattle.line_reader.proofs.Whole.{line_once}
use Rattle.line_reader.proofs.read_line.Reads as read_line
use Rattle.line_places.proofs.furthest.Reads as furthest
use Rattle.listing_reader.proofs.read_listing.Reads as read_listing
use Rattle.emitter_3d.proofs.emit_3d.Reads as emit_3d
use Rattle.emitter.proofs.emit.Reads as emit
use Rattle.bodies.proofs.take_parameters.Reads as take_parameters
use Rattle.bodies.proofs.take_overlay.Reads as take_overlay
use Rattle.bodies.proofs.take_scaler.Reads as take_scaler
use Rattle.packets.proofs.read_packet.Reads as read_packet
use Rattle.packets.proofs.read_packets.Reads as read_packets
use Rattle.irangelda.proofs.irangelda_read.Reads as irangelda_read
use Rattle.irangelda.proofs.irangelda_size.Reads as irangelda_size
use Rattle.irangelda.proofs.irangelda_write.Reads as irangelda_write
use Rattle.irangelda.proofs.irangelda_list.Reads as irangelda_list
use Rattle.irangelda.proofs.irangelda_read_listing.Reads as irangelda_read_listing
use Rattle.irangelda.proofs.irangelda_which_grant.Reads as irangelda_which_grant

-- what is equal to one thing is equal
one_answer {ℓ} : {A : Type ℓ} {x y z : A} → x ≡ z → y ≡ z → x ≡ y
one_answer p q = p ∙ sym q

-- a contract that allows one answer
abbrev Determined {ℓ} : {K : Type ℓ} {A R S : K → Type ℓ} (L : (κ : K) → A κ → R κ → S κ → Type ℓ) → Type ℓ
Determined L = (κs : _) (a : _) (r r' : _) (s s' : _) → L κs a r s → L κs a r' s' → r ≡ r'

-- ---- refusals

pub at_one : Determined at.Learnt
at_one κs a r r' s s' p q = one_answer p q

-- ---- fields

pub count_one : Determined count.Learnt
count_one κs a r r' s s' p q = one_answer p q

pub offset_one : Determined offset.Learnt
offset_one κs a r r' s s' p q = one_answer p q

pub sub_type_one : Determined sub_type.Learnt
sub_type_one κs a r r' s s' p q = one_answer p q

pub sub_address_one : Determined sub_address.Learnt
sub_address_one κs a r r' s s' p q = one_answer p q

pub data_bits_one : Determined data_bits.Learnt
data_bits_one κs a r r' s s' p q = one_answer p q

-- ---- rules

pub must_be_clear_one : Determined must_be_clear.Learnt
must_be_clear_one κs a r r' s s' p q = one_answer p q

pub alpha_constants_one : Determined alpha_constants.Learnt
alpha_constants_one κs a r r' s s' p q = one_answer p q

pub location_one : Determined location.Learnt
location_one κs a r r' s s' p q = one_answer p q

pub bytes_per_pixel_one : Determined bytes_per_pixel.Learnt
bytes_per_pixel_one κs a r r' s s' p q = one_answer p q

pub format_byte_one : Determined format_byte.Learnt
format_byte_one κs a r r' s s' p q = one_answer p q

pub levels_one : Determined levels.Learnt
levels_one κs a r r' s s' p q = one_answer p q

pub filters_one : Determined filters.Learnt
filters_one κs a r r' s s' p q = one_answer p q

pub mapping_one : Determined mapping.Learnt
mapping_one κs a r r' s s' p q = one_answer p q

pub alpha_select_one : Determined alpha_select.Learnt
alpha_select_one κs a r r' s s' p q = one_answer p q

pub memory_location_one : Determined memory_location.Learnt
memory_location_one κs a r r' s s' p q = one_answer p q

-- ---- registers

pub name_of_one : Determined name_of.Learnt
name_of_one κs a r r' s s' p q = one_answer p q

pub offset_of_one : Determined offset_of.Learnt
offset_of_one κs a r r' s s' p q = one_answer p q

-- ---- words and states

pub word_one : Determined word.Learnt
word_one κs a r r' s s' p q = one_answer p q

pub value_one : Determined value.Learnt
value_one κs a r r' s s' p q = one_answer p q

pub mark_one : Determined mark.Learnt
mark_one κs a r r' s s' p q = one_answer p q

pub well_formed_one : Determined well_formed.Learnt
well_formed_one κs a r r' s s' p q = one_answer p q

pub marked_between_one : Determined marked_between.Learnt
marked_between_one κs a r r' s s' p q = one_answer p q

-- ---- grants

pub part_by_one : Determined part_by.Learnt
part_by_one κs a r r' s s' p q = one_answer p q

pub part_of_one : Determined part_of.Learnt
part_of_one κs a r r' s s' p q =
    one_role r r' (one_answer p.starts q.starts) (one_answer p.lasts q.lasts) (one_answer p.numbers q.numbers) (one_answer p.part q.part)

pub which_one : Determined which.Learnt
which_one κs a r r' s s' p q = one_answer p q

-- ---- rows

-- some terms that a role's grants, or all that are kept, are the kept ones of
role_some : (role : ℕ) (r : RoleGrants) → (g : Terms) × IsRole g role r
role_some role r = part_some role r.starts.now r.lasts.now r.part

all_some : (k : Kept) → (g : Terms) × IsKept g k
all_some k = kept_some k.starts.now k.lasts.now k.bounds.now

-- a contract that holds for any terms is taken at those without a grant; one that asks what is kept, at terms that are kept so
abbrev ungranted : Terms
ungranted = record { grants = [] }

pub alpha_constants_reason_one : Determined alpha_constants_reason.Learnt
alpha_constants_reason_one κs a r r' s s' p q = one_verdict r r' (one_answer (p ungranted) (q ungranted))

pub target_address_one : Determined target_address.Learnt
target_address_one κs a r r' s s' p q = one_answer p q

pub target_address_reason_one : Determined target_address_reason.Learnt
target_address_reason_one κs a r r' s s' p q =
    let k = role_some 1 a.1.0.now in
    one_verdict r r' (one_answer (p k.0 k.1) (q k.0 k.1))

pub location_reason_one : Determined location_reason.Learnt
location_reason_one κs a r r' s s' p q = one_verdict r r' (one_answer (p ungranted) (q ungranted))

pub format_reason_one : Determined format_reason.Learnt
format_reason_one κs a r r' s s' p q = one_verdict r r' (one_answer (p ungranted) (q ungranted))

pub stage_reason_one : Determined stage_reason.Learnt
stage_reason_one κs a r r' s s' p q = one_verdict r r' (one_answer (p ungranted 4 (omega arith) (omega arith)) (q ungranted 4 (omega arith) (omega arith)))

pub levels_reason_one : Determined levels_reason.Learnt
levels_reason_one κs a r r' s s' p q = one_verdict r r' (one_answer (p ungranted 0 (omega arith)) (q ungranted 0 (omega arith)))

pub filters_reason_one : Determined filters_reason.Learnt
filters_reason_one κs a r r' s s' p q = one_verdict r r' (one_answer (p ungranted 0 (omega arith)) (q ungranted 0 (omega arith)))

pub mapping_reason_one : Determined mapping_reason.Learnt
mapping_reason_one κs a r r' s s' p q = one_verdict r r' (one_answer (p ungranted 0 (omega arith)) (q ungranted 0 (omega arith)))

pub overlay_reason_one : Determined overlay_reason.Learnt
overlay_reason_one κs a r r' s s' p q = one_verdict r r' (one_answer (p ungranted 84 (omega arith) (omega arith)) (q ungranted 84 (omega arith) (omega arith)))

pub alpha_select_reason_one : Determined alpha_select_reason.Learnt
alpha_select_reason_one κs a r r' s s' p q = one_verdict r r' (one_answer (p ungranted) (q ungranted))

pub deinterlace_reason_one : Determined deinterlace_reason.Learnt
deinterlace_reason_one κs a r r' s s' p q = one_verdict r r' (one_answer (p ungranted 87 2 first) (q ungranted 87 2 first))

pub sub_picture_reason_one : Determined sub_picture_reason.Learnt
sub_picture_reason_one κs a r r' s s' p q = one_verdict r r' (one_answer (p ungranted 87 2 first) (q ungranted 87 2 first))

pub scaler_address_one : Determined scaler_address.Learnt
scaler_address_one κs a r r' s s' p q = one_answer p q

pub first_address_reason_one : Determined first_address_reason.Learnt
first_address_reason_one κs a r r' s s' p q =
    let k = role_some 2 a.1.0.now in
    one_verdict r r' (one_answer (p k.0 87 2 first k.1) (q k.0 87 2 first k.1))

pub address_reason_one : Determined address_reason.Learnt
address_reason_one κs a r r' s s' p q =
    let k = role_some 2 a.1.0.now in
    one_verdict r r' (one_answer (p.0 k.0 87 2 first k.1) (q.0 k.0 87 2 first k.1))

pub destination_stride_reason_one : Determined destination_stride_reason.Learnt
destination_stride_reason_one κs a r r' s s' p q = one_verdict r r' (one_answer (p ungranted 87 2 first) (q ungranted 87 2 first))

pub source_stride_reason_one : Determined source_stride_reason.Learnt
source_stride_reason_one κs a r r' s s' p q = one_verdict r r' (one_answer (p ungranted 87 2 first) (q ungranted 87 2 first))

-- ---- headers, and words by their position

pub header_of_one : Determined header_of.Learnt
header_of_one κs a r r' s s' p q = one_answer p q

pub group_of_one : Determined group_of.Learnt
group_of_one κs a r r' s s' p q = one_answer p q

abbrev judged : Result (Unit {0}) Reason → Cell → Judged
judged v c = record { verdict = v; cell = c }

pub judge_parameter_one : Determined judge_parameter.Learnt
judge_parameter_one κs a r r' s s' p q =
    let k = role_some 1 a.1.1.1.0.now in
    ap₂ judged (one_verdict r.verdict r'.verdict (one_answer (p.0 k.0 k.1) (q.0 k.0 k.1))) (one_answer p.1 q.1)

pub overlay_word_one : Determined overlay_word.Learnt
overlay_word_one κs a r r' s s' p q = one_verdict r r' (one_answer (p ungranted) (q ungranted))

pub scaler_word_one : Determined scaler_word.Learnt
scaler_word_one κs a r r' s s' p q =
    let k = role_some 2 a.1.1.0.now in
    one_verdict r r' (one_answer (p k.0 87 2 first k.1) (q k.0 87 2 first k.1))

-- ---- cells, the lowest bad one, and words that are needed

-- the cell that its callers must hand it is one of the row
pub fine_one : (κs : _) (a : _) (r r' : _) (s s' : _) → fine.Asked κs a → fine.Learnt κs a r s → fine.Learnt κs a r' s' → r ≡ r'
fine_one κs a r r' s s' asked p q =
    let row = asked.1 in
    let k = role_some row.0 a.1.1.1.0.now in
    one_answer (p k.0 row.0 row.1 (λ other. k.1)) (q k.0 row.0 row.1 (λ other. k.1))

pub lowest_bad_one : Determined lowest_bad.Learnt
lowest_bad_one κs a r r' s s' p q =
    let k = all_some a.1.0.now in
    one_answer (p k.0 k.1) (q k.0 k.1)

abbrev need : ℕ → ℕ → Need
need x y = record { before_video = x; in_all = y }

pub needed_one : Determined needed.Learnt
needed_one κs a r r' s s' p q = ap₂ need (one_answer p.0 q.0) (one_answer p.1 q.1)

-- ---- functions that change a lent buffer: the answer and the buffer

pub put_word_one : (κs : _) (a : _) (r r' : _) (s s' : _) → put_word.Learnt κs a r s → put_word.Learnt κs a r' s' → s.0.now ≡ s'.0.now
put_word_one κs a r r' s s' p q = one_answer p q

pub load_one : (κs : _) (a : _) (r r' : _) (s s' : _) → load.Learnt κs a r s → load.Learnt κs a r' s' → s.1.0.now ≡ s'.1.0.now
load_one κs a r r' s s' p q = one_answer p q

pub store_one : (κs : _) (a : _) (r r' : _) (s s' : _) → store.Learnt κs a r s → store.Learnt κs a r' s' → s.1.0.now ≡ s'.1.0.now
store_one κs a r r' s s' p q = one_answer p q

pub begin_one : (κs : _) (a : _) (r r' : _) (s s' : _) → begin.Learnt κs a r s → begin.Learnt κs a r' s' → (r ≡ r') × (s.1.0.now ≡ s'.1.0.now)
begin_one κs a r r' s s' p q = (one_answer p.0 q.0, one_answer p.1 q.1)

pub place_one : (κs : _) (a : _) (r r' : _) (s s' : _) → place.Learnt κs a r s → place.Learnt κs a r' s'
    → (s.1.0.now ≡ s'.1.0.now) × (s.1.1.0.now ≡ s'.1.1.0.now) × (s.1.1.1.0.now ≡ s'.1.1.1.0.now)
    × (s.1.1.1.1.0.now ≡ s'.1.1.1.1.0.now)
place_one κs a r r' s s' p q = (
  one_answer p.0 q.0,
  one_answer p.1.0 q.1.0,
  one_answer p.1.1.0 q.1.1.0,
  one_answer p.1.1.1 q.1.1.1,
)

pub pair_which_one : Determined pair_which.Learnt
pair_which_one κs a r r' s s' p q = one_answer p q

pub pair_fine_one : Determined pair_fine.Learnt
pair_fine_one κs a r r' s s' p q = one_answer p q

pub pair_kept_one : (κs : _) (a : _) (r r' : _) (s s' : _) → pair_kept.Learnt κs a r s → pair_kept.Learnt κs a r' s' → (r ≡ r') × (s.1.1.0.now ≡ s'.1.1.0.now)
pair_kept_one κs a r r' s s' p q = (one_answer p.0 q.0, one_answer p.1 q.1)

-- where what is left is told by the answer, the answers are equal first
pub read_one : (κs : _) (a : _) (r r' : _) (s s' : _) → read.Learnt κs a r s → read.Learnt κs a r' s' → (r ≡ r') × (s.1.1.0.now ≡ s'.1.1.0.now)
read_one κs a r r' s s' p q = let same = one_result r r' (one_answer p.0 q.0) in (same, one_answer (rw same at p.1) q.1)

pub size_one : Determined size.Learnt
size_one κs a r r' s s' p q = one_result r r' (one_answer p q)

pub write_one : (κs : _) (a : _) (r r' : _) (s s' : _) → write.Learnt κs a r s → write.Learnt κs a r' s' → (r ≡ r') × (s.1.1.0.now ≡ s'.1.1.0.now)
write_one κs a r r' s s' p q = let same = one_result r r' (one_answer p.0 q.0) in (same, one_answer (rw same at p.1) q.1)

pub list_one : (κs : _) (a : _) (r r' : _) (s s' : _) → list.Learnt κs a r s → list.Learnt κs a r' s' → (r ≡ r') × (s.1.0.now ≡ s'.1.0.now)
list_one κs a r r' s s' p q = (one_result r r' (one_answer p.0 q.0), one_answer p.1 q.1)

pub which_grant_one : Determined which_grant.Learnt
which_grant_one κs a r r' s s' p q = one_result r r' (one_answer p q)

-- no text has two lines at its front
pub read_line_one : Determined read_line.Learnt
read_line_one κs a r r' s s' p q = line_once _ _ _ r r' p q

pub furthest_one : Determined furthest.Learnt
furthest_one κs a r r' s s' p q = one_answer p q

pub read_listing_one : (κs : _) (a : _) (r r' : _) (s s' : _) → read_listing.Learnt κs a r s → read_listing.Learnt κs a r' s' → (r ≡ r') × (s.1.0.now ≡ s'.1.0.now)
read_listing_one κs a r r' s s' p q = let same = one_result r r' (one_answer p.0 q.0) in (same, one_answer (rw same at p.1) q.1)

pub emit_3d_one : (κs : _) (a : _) (r r' : _) (s s' : _) → emit_3d.Learnt κs a r s → emit_3d.Learnt κs a r' s' → s.1.0.now ≡ s'.1.0.now
emit_3d_one κs a r r' s s' p q = one_answer p q

pub emit_one : (κs : _) (a : _) (r r' : _) (s s' : _) → emit.Learnt κs a r s → emit.Learnt κs a r' s' → s.1.0.now ≡ s'.1.0.now
emit_one κs a r r' s s' p q = one_answer p q

pub put_line_3d_one : (κs : _) (a : _) (r r' : _) (s s' : _) → put_line_3d.Learnt κs a r s → put_line_3d.Learnt κs a r' s' → s.1.0.now ≡ s'.1.0.now
put_line_3d_one κs a r r' s s' p q = one_answer p q

pub put_line_video_one : (κs : _) (a : _) (r r' : _) (s s' : _) → put_line_video.Learnt κs a r s → put_line_video.Learnt κs a r' s' → s.1.0.now ≡ s'.1.0.now
put_line_video_one κs a r r' s s' p q = one_answer p q

-- the group that its callers must hand it is one of the table, and some setting names it
pub take_parameters_one : (κs : _) (a : _) (r r' : _) (s s' : _) → take_parameters.Asked κs a → take_parameters.Learnt κs a r s → take_parameters.Learnt κs a r' s'
    → (r ≡ r') × (s.1.1.1.1.1.0.now ≡ s'.1.1.1.1.1.0.now)
take_parameters_one κs a r r' s s' asked p q =
    let named = some_setting a.1.1.1.0 asked.1 in
    let k = role_some 1 a.1.1.1.1.0.now in (
      one_result r r' (one_answer (p.0 k.0 named.0 named.1 k.1) (q.0 k.0 named.0 named.1 k.1)),
      one_answer (p.1 k.0 named.0 named.1 k.1) (q.1 k.0 named.0 named.1 k.1),
    )

pub take_overlay_one : (κs : _) (a : _) (r r' : _) (s s' : _) → take_overlay.Learnt κs a r s → take_overlay.Learnt κs a r' s' → (r ≡ r') × (s.1.1.1.1.0.now ≡ s'.1.1.1.1.0.now)
take_overlay_one κs a r r' s s' p q = (one_result r r' (one_answer (p.0 ungranted) (q.0 ungranted)), one_answer (p.1 ungranted) (q.1 ungranted))

-- the cell that its callers must hand it is a scaler's first
pub take_scaler_one : (κs : _) (a : _) (r r' : _) (s s' : _) → take_scaler.Asked κs a → take_scaler.Learnt κs a r s → take_scaler.Learnt κs a r' s'
    → (r ≡ r') × (s.1.1.1.1.1.1.0.now ≡ s'.1.1.1.1.1.1.0.now)
take_scaler_one κs a r r' s s' asked p q =
    let sc = the_scaler asked.1.1 in
    let k = role_some _ a.1.1.1.1.1.0.now in
    (one_result r r' (one_answer (p.0 k.0 _ sc k.1) (q.0 k.0 _ sc k.1)), one_answer (p.1 k.0 _ sc k.1) (q.1 k.0 _ sc k.1))

pub read_packet_one : (κs : _) (a : _) (r r' : _) (s s' : _) → read_packet.Learnt κs a r s → read_packet.Learnt κs a r' s' → (r ≡ r') × (s.1.1.1.0.now ≡ s'.1.1.1.0.now)
read_packet_one κs a r r' s s' p q =
    let k = all_some a.1.1.0.now in
    (one_result r r' (one_answer (p.0 k.0 k.1) (q.0 k.0 k.1)), one_answer (p.1.0 k.0 k.1) (q.1.0 k.0 k.1))

pub read_packets_one : (κs : _) (a : _) (r r' : _) (s s' : _) → read_packets.Learnt κs a r s → read_packets.Learnt κs a r' s' → (r ≡ r') × (s.1.1.0.now ≡ s'.1.1.0.now)
read_packets_one κs a r r' s s' p q =
    let k = all_some a.1.0.now in
    (one_result r r' (one_answer (p.0 k.0 k.1) (q.0 k.0 k.1)), one_answer (p.1 k.0 k.1) (q.1 k.0 k.1))

-- whatever an engine keeps keeps some grants
pub byte_part_in_one : Determined byte_part_in.Learnt
byte_part_in_one κs a r r' s s' p q = one_answer p.0 q.0

pub byte_part_of_one : Determined byte_part_of.Learnt
byte_part_of_one κs a r r' s s' p q =
    one_role r r' (one_answer p.starts q.starts) (one_answer p.lasts q.lasts) (one_answer p.numbers q.numbers) (one_answer p.part q.part)

pub ask_one : Determined ask.Learnt
ask_one κs a r r' s s' p q =
    let g = a.1.1.1.0.now in
    let k = kept_some g.starts.now g.lasts.now (capped g.bounds.now) in
    one_asked r r' (one_answer (p k.0 k.1) (q k.0 k.1))

-- all of the engine, so also every answer to a later call
pub engine_open_one : Determined engine_open.Learnt
engine_open_one κs a r r' s s' p q = one_answer p q

pub engine_feed_one : Determined engine_feed.Learnt
engine_feed_one κs a r r' s s' p q =
    let k = kept_some a.0.starts a.0.lasts (capped a.0.bounds) in
    one_answer (p k.0 k.1) (q k.0 k.1)

abbrev closed : ℕ → ℕ → List ℕ → Closed
closed r p st = record { reason = r; place = p; state = st }

closed_same : (c c' : Closed) → c.reason ≡ c'.reason → c.place ≡ c'.place → c.state ≡ c'.state → c ≡ c'
closed_same c c' r p s =
    ap (λ (x : ℕ). closed x c.place c.state) r
    ∙ ap (λ (x : ℕ). closed c'.reason x c.state) p
    ∙ ap (closed c'.reason c'.place) s

pub engine_close_one : Determined engine_close.Learnt
engine_close_one κs a r r' s s' p q =
    let same = one_answer p.0 q.0 in
    closed_same r r' (ap (λ (x : Answer). x.reason) same) (ap (λ (x : Answer). x.place) same) (one_answer p.1 q.1)

pub irangelda_read_one : (κs : _) (a : _) (r r' : _) (s s' : _) → irangelda_read.Learnt κs a r s → irangelda_read.Learnt κs a r' s'
    → (r ≡ r') × (s.1.1.0.now ≡ s'.1.1.0.now)
irangelda_read_one κs a r r' s s' p q = (one_answer p.0 q.0, one_answer p.1 q.1)

pub irangelda_size_one : Determined irangelda_size.Learnt
irangelda_size_one κs a r r' s s' p q = one_answer p q

pub irangelda_write_one : (κs : _) (a : _) (r r' : _) (s s' : _) → irangelda_write.Learnt κs a r s → irangelda_write.Learnt κs a r' s'
    → (r ≡ r') × (s.1.1.0.now ≡ s'.1.1.0.now)
irangelda_write_one κs a r r' s s' p q = (one_answer p.0 q.0, one_answer p.1 q.1)

pub irangelda_list_one : (κs : _) (a : _) (r r' : _) (s s' : _) → irangelda_list.Learnt κs a r s → irangelda_list.Learnt κs a r' s'
    → (r ≡ r') × (s.1.0.now ≡ s'.1.0.now)
irangelda_list_one κs a r r' s s' p q = (one_answer p.0 q.0, one_answer p.1 q.1)

pub irangelda_read_listing_one : (κs : _) (a : _) (r r' : _) (s s' : _) → irangelda_read_listing.Learnt κs a r s → irangelda_read_listing.Learnt κs a r' s'
    → (r ≡ r') × (s.1.0.now ≡ s'.1.0.now)
irangelda_read_listing_one κs a r r' s s' p q = (one_answer p.0 q.0, one_answer p.1 q.1)

pub irangelda_which_grant_one : Determined irangelda_which_grant.Learnt
irangelda_which_grant_one κs a r r' s s' p q = one_answer p q
