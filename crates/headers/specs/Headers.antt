-- What a header opens, and the group that a setting names, as the tests of the code have it. Told says what each of them tells.
-- Assumes nothing.
use Rattle.std.specs.Prelude.{◌&&◌, cond, ℕ, ◌+◌, ◌*◌, ◌-◌, ◌/◌, ◌%◌, ◌^◌, leb, eqb, Option, Some, None, Result, Ok, Err}
use Rattle.laws.specs.Tests.{within}
use Rattle.meaning.specs.declared.Reason.{Reason}
use Rattle.meaning.specs.declared.Reason.TheVariants.{BadOffset, BadCount}
use Rattle.meaning.specs.declared.VideoOffset.{VideoOffset}
use Rattle.meaning.specs.Words.{count, offset, video_offset, para_sub_type}
use Rattle.meaning.specs.Registers.{cell}
use Rattle.meaning.specs.Batch.{offset_3d, most_3d}
use Rattle.headers.specs.declared.ScalerOffset.{ScalerOffset}
use Rattle.headers.specs.declared.Header.{Header}
use Rattle.headers.specs.declared.Header.TheVariants.{Setting, Overlay, Scaler}
use Rattle.headers.specs.declared.Group.{Group}
use Rattle.headers.specs.declared.Group.TheVariants.{Target, Stage, Sample}

-- ---- the header of a run

-- the first register of n words from so many bytes behind the first of a row of video registers on; 3 and 4 where there is none
unfoldable pub run_index : ℕ → ℕ → ℕ → Result ℕ Reason
run_index distance n row =
    cond (eqb (distance % 4) 0) (cond (leb 1 n && leb (distance / 4 + n) row) (Ok (distance / 4)) (Err BadCount)) (Err BadOffset)

-- where an offset stands among the registers of a scaler, if it does
unfoldable pub scaler_at : VideoOffset → Option ScalerOffset
scaler_at o =
    cond (within 0x23E4 0x23FC o.0) (Some (record { base = cell 87; role = 2; distance = o.0 - 0x23E4 }))
    (cond (within 0x33E4 0x33FC o.0) (Some (record { base = cell 94; role = 3; distance = o.0 - 0x33E4 }))
    None)

-- what a run opens, by its first register
abbrev pub opened_at : (ℕ → Header) → Result ℕ Reason → Result Header Reason
opened_at header (Ok i) = Ok (header i)
opened_at header (Err r) = Err r

-- a run for 2208 to 2210,
unfoldable pub overlay_run : VideoOffset → ℕ → Result Header Reason
overlay_run o n = opened_at Overlay (run_index (o.0 - 0x2208) n 3)

-- one for a scaler,
abbrev pub run_at : Option ScalerOffset → ℕ → Result Header Reason
run_at (Some s) n = opened_at (λ i. Scaler (record { base = s.base; role = s.role; index = i })) (run_index s.distance n 7)
run_at None n = Err BadOffset

-- or for no register
unfoldable pub scaler_run : VideoOffset → ℕ → Result Header Reason
scaler_run o n = run_at (scaler_at o) n

-- ---- a header, and a setting

-- what a header opens
unfoldable pub header_of : ℕ → Result Header Reason
header_of h =
    cond (eqb (offset h) offset_3d) (cond (within 2 most_3d (count h)) (Ok Setting) (Err BadCount))
    (cond (within 0x2208 0x2210 (offset h)) (overlay_run (video_offset h) (count h)) (scaler_run (video_offset h) (count h)))

-- the group of a sub-type of 02
unfoldable pub group_of02 : ℕ → Option Group
group_of02 u = cond (leb u 0x0F) (Some (Stage (cell (4 + 2 * u)))) (cond (within 0x20 0x2F u) (Some (Sample (cell (3 * u - 60)))) None)

-- the group that a setting names, which is a word
unfoldable pub group_of : ℕ → Option Group
group_of s = cond (eqb (s % 0x1000000) 0x20000) (group_of02 (para_sub_type s)) (cond (eqb (s % 2 ^ 32) 0x10000) (Some Target) None)
