-- Where a word is taken, the number that is kept for the next one tells its kind again.
-- Assumes nothing.
use Rattle.meaning.specs.declared.Cell.{Cell}
use Rattle.std.specs.Prelude.{Option, Some, None}
use mathlib.Core.Path.{◌≡◌, refl, ap, ◌∙◌}
use mathlib.Core.Bool.{Bool, true, false, ◌&&◌, cond, and-false}
use Prim.Native.Nat.{ℕ, zero, suc, ◌+◌, ◌/◌, ◌%◌, ◌^◌, ◌≤◌, ◌<◌}
use native.Mathlib.Omega.{arith}
use native.Mathlib.Decide.{dec_lt}
use lib.Dec.{T, eqb}
use Rattle.laws.specs.Lists.{every, from, some}
use Rattle.laws.specs.Tests.{within}
use Rattle.laws.proofs.Lists.{every_from}
use Rattle.laws.proofs.Tests.{within_iff, true_of}
use Rattle.meaning.specs.declared.VideoOffset.{VideoOffset}
use Rattle.meaning.specs.declared.Kind.TheVariants.{Setting, Parameter, Video}
use Rattle.meaning.specs.Words.{offset, video_offset, following, para_adr, para_os, para_type, para_sub_type}
use Rattle.meaning.specs.Registers.{first_video, end_video, cell, is_found, find_video}
use Rattle.meaning.specs.Grants.{Terms}
use Rattle.meaning.specs.Batch.{offset_3d, allowed_types, type_allowed, allowed}
use Rattle.meaning.specs.Positions.{kind_of, after, next_kind}
use Rattle.meaning.specs.Reader.{reason_video, header_reason, found_reason, word_reason, judge}
use Rattle.meaning.proofs.Verdicts.{unless_fine}
use Rattle.registers.specs.Names.{offset_of}
use Rattle.registers.proofs.Names.{no_video}
use Rattle.asking.specs.Asked.{kind_from, under_of}
use Rattle.asking.proofs.Positions.{from_setting, from_zero, from_offset}

-- ---- numbers below the settings

no_type : (u : ℕ) → type_allowed 0 u ≡ false
unfolding type_allowed allowed_types some
no_type u = refl

-- no number of 16 bits is a setting that is allowed
not_allowed : (u : ℕ) → u < 65536 → allowed u ≡ false
unfolding allowed para_type
not_allowed u h =
    let z : u / 2 ^ 16 % 2 ^ 8 ≡ 0 = omega arith in
    rw (z, no_type (para_sub_type u)) (ap (λ (b : Bool). eqb (para_adr u) 0 && b) (and-false (eqb (para_os u) 0)) ∙ and-false (eqb (para_adr u) 0))

-- a video register's offset
in_range : (c : ℕ) → first_video ≤ c → c < end_video → (0x2208 ≤ (offset_of (cell c)).0) × ((offset_of (cell c)).0 ≤ 0x33FC)
unfolding offset_of every from
in_range c l h = (within_iff 0x2208 0x33FC (offset_of (cell c)).0).0 (every_from (λ n. within 0x2208 0x33FC (offset_of (cell n)).0) first_video 17 tt c l (omega arith))

found_by : (o : VideoOffset) → ¬ ((0x2208 ≤ o.0) × (o.0 ≤ 0x33FC)) → find_video o ≡ None
found_by o n = no_video o (λ c l h e. n (let r = in_range c l h in (omega (arith, r.0), omega (arith, r.1))))

pub found_range : (o : VideoOffset) → T (is_found (find_video o)) → (0x2208 ≤ o.0) × (o.0 ≤ 0x33FC)
found_range o t =
    elim (dec_lt o.0 0x2208) [
      | yes l ↦ absurd (rw (found_by o (λ r. omega (arith, r.0))) at t)
      | no l ↦ elim (dec_lt 0x33FC o.0) [
        | yes h ↦ absurd (rw (found_by o (λ r. omega (arith, r.1))) at t)
        | no h ↦ (omega arith, omega arith)
      ]
    ]

-- ---- the numbers of kinds

pub again_setting : kind_from 0 ≡ Setting
again_setting = from_zero 0 (not_allowed 0 (omega arith)) refl

again_video : (o : VideoOffset) → 0 < o.0 → o.0 < 65536 → kind_from o.0 ≡ Video o
unfolding offset
again_video o l h =
    let same : o.0 / 2 ^ 0 % 2 ^ 16 ≡ o.0 = omega arith in
    from_offset o.0 (not_allowed o.0 h) (λ z. omega arith) ∙ ap (λ (n : ℕ). Video (record { 0 = n })) same

-- ---- the next word

module _ (g : Terms) where
  -- behind a header
  header_next : (h : ℕ) (b : Bool) → eqb (offset h) offset_3d ≡ b → header_reason h ≡ 0 → kind_from (under_of (cond b Setting (Video (video_offset h)))) ≡ cond b Setting (Video (video_offset h))
  unfolding header_reason
  header_next h true e z = again_setting
  header_next h false e z =
      let f : reason_video h ≡ 0 = rw e at z in
      let r = found_range (video_offset h) ((unless_fine (is_found (find_video (video_offset h))) 3 (omega arith)).0 f).0 in
      again_video (video_offset h) (omega (arith, r.0)) (omega (arith, r.1))

  -- behind a word of a run
  video_next : (o : VideoOffset) (f : Option Cell) (w : ℕ) → find_video o ≡ f → found_reason g 4 f w ≡ 0 → kind_from (o.0 + 4) ≡ Video (following o)
  video_next o (Some c) w e z =
      let r = found_range o (rw e tt) in
      again_video (following o) (omega arith) (omega (arith, r.1))
  video_next o None w e z = absurd (omega arith)

  -- behind a word of a packet, by what it stands under
  word_next : (u w : ℕ) (a b : Bool) → allowed u ≡ a → word_reason g (cond a (Parameter u) (cond b Setting (Video (video_offset u)))) w ≡ 0
      → kind_from (under_of (after (cond a (Parameter u) (cond b Setting (Video (video_offset u)))) w)) ≡ after (cond a (Parameter u) (cond b Setting (Video (video_offset u)))) w
  unfolding after word_reason
  word_next u w true b e z = from_setting u e
  word_next u w false true e z = from_setting w (true_of (allowed w) ((unless_fine (allowed w) 5 (omega arith)).0 z).0)
  word_next u w false false e z = video_next (video_offset u) (find_video (video_offset u)) w refl z

  -- a word that is taken, at any position
  pub next_again : (u k w : ℕ) → judge g (kind_from u) k w ≡ 0 → kind_from (under_of (next_kind (kind_from u) k w)) ≡ next_kind (kind_from u) k w
  unfolding judge next_kind kind_of kind_from
  next_again u zero w z = header_next w (eqb (offset w) offset_3d) refl z
  next_again u (suc k) w z = word_next u w (allowed u) (eqb u 0) refl z
