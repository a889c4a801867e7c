-- What a header that is opened tells of its offset; so the header of a run of one word tells the video register at an offset.
-- Assumes nothing.
use Rattle.std.specs.Prelude.{Option, Some, None}
use mathlib.Core.Path.{◌≡◌, refl, sym, ap, ◌∙◌}
use Prim.Native.Nat.{ℕ, ◌+◌, ◌≤◌, ◌<◌}
use native.Mathlib.Omega.{arith}
use native.Mathlib.Decide.{ℕ_discrete}
use Rattle.meaning.specs.declared.Cell.{Cell}
use Rattle.meaning.specs.declared.VideoOffset.{VideoOffset}
use Rattle.meaning.specs.declared.Reason.{Reason}
use Rattle.meaning.specs.Answers.{number}
use Rattle.meaning.specs.declared.Kind.{Kind}
use Rattle.meaning.specs.declared.Kind.TheVariants.{Setting, Video}
use Rattle.meaning.specs.Words.{count, offset, video_offset}
use Rattle.meaning.specs.Registers.{first_video, end_video, cell, find_video}
use Rattle.meaning.specs.Batch.{offset_3d}
use Rattle.meaning.specs.Positions.{kind_of}
use Rattle.meaning.specs.Reader.{unless, run_in, header_reason}
use Rattle.meaning.proofs.Packets.{never_both}
use Rattle.meaning.proofs.Stretches.{kind_3d, kind_video}
use Rattle.registers.proofs.Names.{named_video}
use Rattle.headers.specs.Told.{Runs}
use Rattle.meaning.proofs.Refusals.{refused}

-- no word is both a setting and one of a run
kinds_apart : {k : Kind} {o : VideoOffset} → k ≡ Setting → k ≡ Video o → ⊥
kinds_apart e f = let z : ◌≡◌ {A = ℕ} 0 1 = cc in omega arith

-- a run is bound for the offset of its header
pub run_offset : (h : ℕ) {o : VideoOffset} → kind_of h ≡ Video o → video_offset h ≡ o
run_offset h e =
    elim (ℕ_discrete (offset h) offset_3d) [
      | yes z ↦ absurd (kinds_apart (kind_3d h refl z) e)
      | no n ↦ let own = kind_video h refl n in cc
    ]

-- ---- the header of a run of one word

-- bound for an offset
abbrev pub single : ℕ → ℕ
single o = 0x10000 + o

-- where the offset is a video register's, nothing speaks against such a header, and it opens a run
opens_run : (h : ℕ) → count h ≡ 1 → {c : Cell} → find_video (video_offset h) ≡ Some c → (header_reason h ≡ 0) × (kind_of h ≡ Video (video_offset h))
unfolding header_reason unless run_in kind_of
opens_run h one e = let other = never_both (offset h) (rw e tt) in (rw (other, one, e), rw other)

none_at : (f : Option Cell) → ((c : Cell) → f ≡ Some c → ⊥) → f ≡ None
none_at (Some c) out = absurd (out c refl)
none_at None out = refl

module _ (u : ℕ) {o : ℕ} (e : o ≡ offset u) where
  one_word : count (single o) ≡ 1
  unfolding count offset
  one_word = omega arith

  same_offset : video_offset (single o) ≡ video_offset u
  unfolding offset
  same_offset = ap (λ (x : ℕ). record { 0 = x }) (omega arith)

  -- one that is refused has no video register's offset,
  pub none_refused : (r : Reason) → header_reason (single o) ≡ number r → find_video (video_offset u) ≡ None
  none_refused r q = rw (← same_offset) (none_at _ (λ c f. refused r (sym q ∙ (opens_run (single o) one_word f).0)))

  -- nor has one that opens a setting
  pub none_setting : kind_of (single o) ≡ Setting → find_video (video_offset u) ≡ None
  none_setting k = rw (← same_offset) (none_at _ (λ c f. kinds_apart k (opens_run (single o) one_word f).1))

  module _ {c i m : ℕ} (run : Runs (single o) c i m) where
    -- one that opens a run starts with a register of the row,
    pub in_row : i < m
    in_row = omega (arith, run.row, one_word)

    -- and that register is found at the offset
    pub found_at : first_video ≤ c → c + m ≤ end_video → find_video (video_offset u) ≡ Some (cell (c + i))
    found_at low high =
        let inside = in_row in
        rw (← same_offset, run_offset (single o) run.kind) (named_video (c + i) (omega arith) (omega arith))
