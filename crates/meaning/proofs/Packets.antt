-- A packet as the reader meets it: a header that it takes, and a body that it takes word by word.
-- Assumes nothing.
use mathlib.Core.Path.{◌≡◌, refl, subst}
use mathlib.Core.Logic.{◌↔◌}
use mathlib.Core.Bool.{Bool, true, false, ◌&&◌, cond}
use mathlib.Core.List.{List, [], ◌∷◌}
use Prim.Native.Nat.{ℕ, ◌≤◌}
use native.Mathlib.Omega.{arith}
use borrow.Author.Tests.{ne_eqb}
use lib.Dec.{T, leb, eqb, lit<}
use lib.ListN.{length}
use mir.Facts.{and_yes, yes_and, leb_yes, yes_leb, eqb_yes}
use Rattle.laws.specs.Lists.{All, from}
use Rattle.laws.specs.Tests.{within}
use Rattle.laws.proofs.Tests.{within_iff}
use Rattle.meaning.specs.declared.VideoOffset.{VideoOffset}
use Rattle.meaning.specs.declared.Kind.{Kind}
use Rattle.meaning.specs.declared.Kind.TheVariants.{Setting, Parameter, Video}
use Rattle.meaning.specs.Words.{count, offset, video_offset, following, data24}
use Rattle.meaning.specs.Registers.{is_found, find, find_offset, find_video, sections, overlay, scaler}
use Rattle.meaning.specs.Grants.{Terms}
use Rattle.meaning.specs.Batch.{offset_3d, most_3d, allowed, named, ParameterStands, Run, PacketVideo, Packet, packet_3d, packet_video}
use Rattle.meaning.specs.Positions.{kind_of, after}
use Rattle.meaning.specs.Reader.{run_in, reason_3d, reason_video, header_reason, word_reason}
use Rattle.meaning.proofs.Verdicts.{unless_fine, stands_fine, stands_found}

-- ---- what the header's tests say

pub count_fine : (h : ℕ) → (reason_3d h ≡ 0) ↔ ((2 ≤ count h) × (count h ≤ most_3d))
count_fine h =
    let u = unless_fine (within 2 most_3d (count h)) 4 {v = 0} (lit< tt) in
    let w = within_iff 2 most_3d (count h) in
    (λ e. w.0 (u.0 e).0, λ p. u.1 (w.1 p, refl))

pub run_header_fine : (h : ℕ)
    → (reason_video h ≡ 0) ↔ (T (is_found (find_video (video_offset h))) × (1 ≤ count h) × T (run_in (video_offset h) (count h)))
run_header_fine h =
    let first = unless_fine (is_found (find_video (video_offset h))) 3 (lit< tt) in
    let rest = unless_fine (leb 1 (count h) && run_in (video_offset h) (count h)) 4 {v = 0} (lit< tt) in (
      λ e. let p = first.0 e in let q = and_yes (leb 1 (count h)) _ (rest.0 p.1).0 in (p.0, leb_yes q.0, q.1),
      λ p. first.1 (p.0, rest.1 (yes_and (leb 1 (count h)) _ (yes_leb p.1) p.2, refl)),
    )

-- ---- a packet's body, word by word

abbrev pub Body : Terms → Kind → List ℕ → Type 0
Body g kind [] = Unit {0}
Body g kind (w ∷ ws) = (word_reason g kind w ≡ 0) × Body g (after kind w) ws

body_parameters : (g : Terms) (s : ℕ) (ps : List ℕ) → All (ParameterStands g s) ps ↔ Body g (Parameter s) ps
unfolding word_reason after
body_parameters g s [] = (λ x. x, λ x. x)
body_parameters g s (p ∷ ps) =
    let one = stands_fine g 6 (named s p) (data24 p) (lit< tt) in
    let more = body_parameters g s ps in
    (λ x. (one.0 x.0, more.0 x.1), λ x. (one.1 x.0, more.1 x.1))

body_run : (g : Terms) (o : VideoOffset) (vs : List ℕ) → Run g o vs ↔ Body g (Video o) vs
unfolding word_reason after
body_run g o [] = (λ x. x, λ x. x)
body_run g o (v ∷ vs) =
    let one = stands_fine g 4 (find_video o) v (lit< tt) in
    let more = body_run g (following o) vs in
    (λ x. (one.0 x.0, more.0 x.1), λ x. (one.1 x.0, more.1 x.1))

-- ---- a packet as a header and a body

pub data Opened (g : Terms) : List ℕ → Type 0 where
  opened : (h : ℕ) (t : List ℕ) → header_reason h ≡ 0 → length t ≡ count h → Body g (kind_of h) t → Opened g (h ∷ t)

-- a run of words that stand is a run of video registers
run_in_lem : (g : Terms) (o : VideoOffset) (vs : List ℕ) → Run g o vs → T (run_in o (length vs))
unfolding run_in
run_in_lem g o [] r = tt
run_in_lem g o (v ∷ vs) r = yes_and (is_found (find_video o)) _ (stands_found g (find_video o) v r.0) (run_in_lem g (following o) vs r.1)

run_first : (g : Terms) (h : ℕ) (vs : List ℕ) → PacketVideo g h vs → T (is_found (find_video (video_offset h)))
run_first g h [] c = absurd (omega (arith, c.low, c.whole))
run_first g h (v ∷ vs) c = stands_found g (find_video (video_offset h)) v c.run.0

-- the 3D packets' offset is no video register
pub never_both : (o : ℕ) → T (is_found (find_video (record { 0 = o }))) → eqb o offset_3d ≡ false
unfolding find_video find_offset find sections overlay scaler from
never_both o t = ne_eqb o offset_3d (λ e. subst (λ (x : ℕ). T (is_found (find_video (record { 0 = x })))) e t)

pub not_3d : (g : Terms) (h : ℕ) (vs : List ℕ) → PacketVideo g h vs → eqb (offset h) offset_3d ≡ false
not_3d g h vs c = never_both (offset h) (run_first g h vs c)

pub open_packet : (g : Terms) {p : List ℕ} → Packet g p → Opened g p
unfolding header_reason kind_of word_reason after
open_packet g (packet_3d {h} {s} {ps} c) =
    opened h (s ∷ ps)
    (rw c.bound ((count_fine h).1 (c.low, c.high)))
    c.whole
    (rw c.bound ((unless_fine (allowed s) 5 (lit< tt)).1 (c.setting, refl), (body_parameters g s ps).0 c.parameters))
open_packet g (packet_video {h} {vs} c) =
    let ran : T (run_in (video_offset h) (count h)) = rw c.whole at (run_in_lem g (video_offset h) vs c.run) in
    opened h vs
    (rw (not_3d g h vs c) ((run_header_fine h).1 (run_first g h vs c, c.low, ran)))
    c.whole
    (rw (not_3d g h vs c) ((body_run g (video_offset h) vs).0 c.run))

close_as : (g : Terms) (h : ℕ) (t : List ℕ) (b : Bool) → (T b → offset h ≡ offset_3d) → cond b (reason_3d h) (reason_video h) ≡ 0
    → length t ≡ count h → Body g (cond b Setting (Video (video_offset h))) t → Packet g (h ∷ t)
unfolding word_reason after
close_as g h [] true f v n d = absurd (omega (arith, ((count_fine h).0 v).0))
close_as g h (s ∷ ps) true f v n d =
    packet_3d (record {
      bound = f tt;
      low = ((count_fine h).0 v).0;
      high = ((count_fine h).0 v).1;
      whole = n;
      setting = ((unless_fine (allowed s) 5 (lit< tt)).0 d.0).0;
      parameters = (body_parameters g s ps).1 d.1;
    })
close_as g h t false f v n d = packet_video (record { low = ((run_header_fine h).0 v).1; whole = n; run = (body_run g (video_offset h) t).1 d })

pub close_packet : (g : Terms) {p : List ℕ} → Opened g p → Packet g p
unfolding header_reason kind_of
close_packet g (opened h t v n d) = close_as g h t (eqb (offset h) offset_3d) eqb_yes v n d
