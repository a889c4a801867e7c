-- What permitted packets store: one law for any property of their writes.
-- Assumes nothing.
use Rattle.std.specs.Prelude.{Option, Some, None}
use mathlib.Core.Path.{◌≡◌}
use mathlib.Core.List.{List, [], ◌∷◌}
use Prim.Native.Nat.{ℕ, suc, ◌+◌, ◌<◌, ◌^◌}
use native.Mathlib.Omega.{arith}
use lib.ListN.{length}
use Rattle.laws.specs.Lists.{All, join}
use Rattle.laws.proofs.Lists.{all_append, all_split}
use Rattle.meaning.specs.declared.Cell.{Cell}
use Rattle.meaning.specs.declared.SubAddress.{SubAddress}
use Rattle.meaning.specs.declared.VideoOffset.{VideoOffset}
use Rattle.meaning.specs.Words.{video_offset, following, para_type, para_sub_type, sub_address, data24}
use Rattle.meaning.specs.Registers.{cells, Row, Section, of_3d, of_video, sections, find_3d, find_video, register_at}
use Rattle.meaning.specs.Grants.{Terms}
use Rattle.meaning.specs.Batch.{Fits, Stands, named, ParameterStands, Run, Packet, packet_3d, packet_video}
use Rattle.meaning.specs.State.{Write, write_to, writes_3d, writes_run, packet_writes, all_writes}
use Rattle.meaning.proofs.Packets.{not_3d}
use Rattle.meaning.proofs.Table.{Of, found_3d_of, found_video_of, Row3D, RowVideo, Rows, Rows3D, RowsVideo, Sections, table}

-- ---- where the cells lie

rows_all : {Name : Type 0} (P : ℕ → Row Name → Type 0) (Q : Cell → Type 0) → ((i : ℕ) (r : Row Name) → P i r → Q r.cell)
    → (i : ℕ) (rs : List (Row Name)) → Rows P i rs → All (λ r. Q r.cell) rs
rows_all P Q h i [] a = tt
rows_all P Q h i (r ∷ rs) a = (h i r a.0, rows_all P Q h (suc i) rs a.1)

-- a cell of the table, and the width of its register
abbrev pub Wide : ℕ → Cell → Type 0
Wide n c = (c.0 < cells) × ((register_at c).width ≡ n)

wide_3d : (i : ℕ) (ss : List Section) → Sections i ss → All (Rows3D (λ r. Wide 24 r.cell)) ss
wide_3d i [] b = tt
wide_3d i (of_3d G ∷ ss) b =
    (rows_all (Row3D G.type G.sub_type) (Wide 24) (λ j r x. rw x.numbered (x.high, x.width)) i G.rows b.0.rows, wide_3d (i + length G.rows) ss b.1)
wide_3d i (of_video rs ∷ ss) b = (tt, wide_3d (i + length rs) ss b.1)

wide_video : (i : ℕ) (ss : List Section) → Sections i ss → All (RowsVideo (λ r. Wide 32 r.cell)) ss
wide_video i [] b = tt
wide_video i (of_3d G ∷ ss) b = (tt, wide_video (i + length G.rows) ss b.1)
wide_video i (of_video rs ∷ ss) b = (rows_all RowVideo (Wide 32) (λ j r x. rw x.numbered (x.high, x.width)) i rs b.0, wide_video (i + length rs) ss b.1)

pub found_3d : (t u : ℕ) (a : SubAddress) → Of (Wide 24) (find_3d t u a)
unfolding find_3d
found_3d t u a = found_3d_of (Wide 24) t u a sections (wide_3d 0 sections table)

pub found_video : (o : VideoOffset) → Of (Wide 32) (find_video o)
unfolding find_video
found_video o = found_video_of (Wide 32) o sections (wide_video 0 sections table)

-- ---- the law

pub data_small : (p : ℕ) → data24 p < 2 ^ 24
unfolding data24
data_small p = omega arith

-- P of each write, from what is known of a 3D write, of a video write, and of each word of the packets (W)
module _ (g : Terms) (P : Write → Type 0) (W : ℕ → Type 0)
    (on_3d : (c : Cell) (v : ℕ) → Wide 24 c → v < 2 ^ 24 → Fits g (register_at c) v → P (record { cell = c; value = v }))
    (on_video : (c : Cell) (v : ℕ) → Wide 32 c → W v → Fits g (register_at c) v → P (record { cell = c; value = v })) where
  each_3d : (f : Option Cell) (v : ℕ) → Of (Wide 24) f → v < 2 ^ 24 → Stands g f v → All P (write_to f v)
  each_3d (Some c) v l n s = (on_3d c v l n s, tt)
  each_3d None v l n s = tt

  each_video : (f : Option Cell) (v : ℕ) → Of (Wide 32) f → W v → Stands g f v → All P (write_to f v)
  each_video (Some c) v l n s = (on_video c v l n s, tt)
  each_video None v l n s = tt

  each_parameter : (s : ℕ) (ps : List ℕ) → All (ParameterStands g s) ps → All P (writes_3d s ps)
  unfolding writes_3d
  each_parameter s [] a = tt
  each_parameter s (p ∷ ps) a =
      all_append P (write_to (named s p) (data24 p)) (writes_3d s ps)
      (each_3d (named s p) (data24 p) (found_3d (para_type s) (para_sub_type s) (sub_address p)) (data_small p) a.0) (each_parameter s ps a.1)

  each_run : (o : VideoOffset) (vs : List ℕ) → All W vs → Run g o vs → All P (writes_run o vs)
  unfolding writes_run
  each_run o [] w a = tt
  each_run o (v ∷ vs) w a =
      all_append P (write_to (find_video o) v) (writes_run (following o) vs) (each_video (find_video o) v (found_video o) w.0 a.0)
      (each_run (following o) vs w.1 a.1)

  each_packet : {p : List ℕ} → Packet g p → All W p → All P (packet_writes p)
  unfolding packet_writes
  each_packet (packet_3d {h} {s} {ps} c) w = rw c.bound (each_parameter s ps c.parameters)
  each_packet (packet_video {h} {vs} c) w = rw (not_3d g h vs c) (each_run (video_offset h) vs w.1 c.run)

  pub each_write : (ps : List (List ℕ)) → All (Packet g) ps → All W (join ps) → All P (all_writes ps)
  unfolding all_writes
  each_write [] a w = tt
  each_write (p ∷ ps) a w =
      let r = all_split W p (join ps) w in
      all_append P (packet_writes p) (all_writes ps) (each_packet a.0 r.0) (each_write ps a.1 r.1)
