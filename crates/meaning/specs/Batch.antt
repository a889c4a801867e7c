-- Permitted packets, said of the words alone; a cut; addresses that registers can hold.
-- Assumes nothing.
use Rattle.meaning.specs.declared.Cell.{Cell}
use Rattle.std.specs.Prelude.{◌≡◌, Bool, true, ◌&&◌, List, [], ◌∷◌, ℕ, ◌%◌, ◌≤◌, ◌<◌, ◌^◌, T, eqb, length, Option, Some, None}
use Rattle.std.specs.Int.Bits.{bit_and}
use Rattle.laws.specs.Lists.{All, some, join}
use Rattle.laws.specs.Tests.{within}
use Rattle.meaning.specs.declared.VideoOffset.{VideoOffset}
use Rattle.meaning.specs.declared.Memory.TheVariants.{Either}
use Rattle.meaning.specs.Words.{count, offset, video_offset, following, para_adr, para_os, para_type, para_sub_type, sub_address, data24}
use Rattle.meaning.specs.Registers.{Content, nothing, address, Register, find_3d, find_video, register_at}
use Rattle.meaning.specs.Grants.{Terms, granted}

-- ---- a value in a register

-- B12 "holds no address that is not granted, in whichever memory"
abbrev pub reaches : Terms → Content → Bool
reaches g nothing = true
reaches g (address role a) = granted g.grants Either role a

-- B12 "A value may stand in a register if it has no bit set that must be clear, keeps the value rule, and holds no address that is not
-- granted, in whichever memory."
pub record Fits (g : Terms) (r : Register) (v : ℕ) : Type 0 where
  pub clear : bit_and v r.clear ≡ 0
  pub value : T (r.values v)
  pub granted : T (reaches g (r.holds v))

-- B13 "names a register of the table, and each value may stand in its register": of one value
abbrev pub Stands : Terms → Option Cell → ℕ → Type 0
Stands g (Some c) v = Fits g (register_at c) v
Stands g None v = ⊥

-- ---- packets

-- B4 "A packet with offset 043Ch is a 3D packet"
abbrev pub offset_3d : ℕ
offset_3d = 0x043C

-- B4 "its count is from 2 to 113": the setting and B9 "at most 112 parameters, since Rx40h to Rx1FFh hold as many"
abbrev pub most_3d : ℕ
most_3d = 113

-- a type and the sub-types that it may have, from the first to the last
pub record SubTypes : Type 0 where
  pub type : ℕ
  pub first : ℕ
  pub last : ℕ

-- B7 "Allowed are type 01h with sub-type 00h, and type 02h with two rows of sub-types: 00h to 0Fh for stages 0 to 15, 20h to 2Fh for
-- samples 0 to 15."
unfoldable pub allowed_types : List SubTypes
allowed_types =
    record { type = 0x01; first = 0x00; last = 0x00 }
    ∷ record { type = 0x02; first = 0x00; last = 0x0F }
    ∷ record { type = 0x02; first = 0x20; last = 0x2F }
    ∷ []

-- a type and a sub-type are among them
unfoldable pub type_allowed : ℕ → ℕ → Bool
type_allowed t u = some (λ r. eqb t r.type && within r.first r.last u) allowed_types

-- B6 "A setting is allowed only if HParaAdr and HParaOS are 0 in it."
unfoldable pub allowed : ℕ → Bool
allowed s = eqb (para_adr s) 0 && (eqb (para_os s) 0 && type_allowed (para_type s) (para_sub_type s))

-- the register that a parameter names under a setting: R19 "its type, its sub-type and its sub-address, all three"
abbrev pub named : ℕ → ℕ → Option Cell
named s p = find_3d (para_type s) (para_sub_type s) (sub_address p)

-- B13 "each parameter names a register of the table", and its data may stand there
abbrev pub ParameterStands : Terms → ℕ → ℕ → Type 0
ParameterStands g s p = Stands g (named s p) (data24 p)

-- B4 "a 3D packet, and its count is from 2 to 113"; B13 "with an allowed setting". A header h, a setting s, and B8 "The words behind the
-- setting are parameters"
pub record Packet3D (g : Terms) (h s : ℕ) (ps : List ℕ) : Type 0 where
  pub bound : offset h ≡ offset_3d
  pub low : 2 ≤ count h
  pub high : count h ≤ most_3d
  pub whole : length (s ∷ ps) ≡ count h
  pub setting : T (allowed s)
  pub parameters : All (ParameterStands g s) ps

-- B10 "every offset that a word of it is bound for is that of a video register of the table": words for a run from offset o on
abbrev pub Run : Terms → VideoOffset → List ℕ → Type 0
Run g o [] = Unit {0}
Run g o (v ∷ vs) = Stands g (find_video o) v × Run g (following o) vs

-- B10 "a video packet. Its count is at least 1": a header h and a run of words. Its offset is not 043Ch, which is no video register's
pub record PacketVideo (g : Terms) (h : ℕ) (vs : List ℕ) : Type 0 where
  pub low : 1 ≤ count h
  pub whole : length vs ≡ count h
  pub run : Run g (video_offset h) vs

-- B13 "A packet is permitted if it is a 3D packet with an allowed setting or a video packet"
pub data Packet (g : Terms) : List ℕ → Type 0 where
  packet_3d : {h s : ℕ} {ps : List ℕ} → Packet3D g h s ps → Packet g (h ∷ s ∷ ps)
  packet_video : {h : ℕ} {vs : List ℕ} → PacketVideo g h vs → Packet g (h ∷ vs)

-- ---- rows of packets

-- B14 "a row of whole permitted packets": a way to cut the words into them. The batch of no words is no packets
pub record Cut (g : Terms) (ws : List ℕ) : Type 0 where
  pub packets : List (List ℕ)
  pub joined : join packets ≡ ws
  pub permitted : All (Packet g) packets

-- ---- addresses

-- the role, D3 "has a granted address that its registers can hold": a multiple of a unit below a limit, in whichever memory
pub record Holdable (g : Terms) (role unit limit : ℕ) : Type 0 where
  pub address : ℕ
  pub multiple : address % unit ≡ 0
  pub small : address < limit
  pub allows : T (granted g.grants Either role address)

-- R2 "the data × 256": of 24 bits
abbrev pub HoldableTarget : Terms → Type 0
HoldableTarget g = Holdable g 1 256 (2 ^ 32)

-- R22 "a multiple of 16 below 2^29"
abbrev pub HoldableScaler : Terms → ℕ → Type 0
HoldableScaler g role = Holdable g role 16 (2 ^ 29)
