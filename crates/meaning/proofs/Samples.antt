-- Words that may stand at each position: where each scaler role has a granted address that its registers hold, there is one.
-- Assumes nothing.
use Rattle.std.specs.Prelude.{Option, Some, None}
use mathlib.Core.Path.{◌≡◌, refl, sym, ap, ◌∙◌, subst, subst₂}
use mathlib.Core.Bool.{Bool, ◌&&◌, cond}
use mathlib.Core.List.{List, [], ◌∷◌}
use Prim.Native.Nat.{ℕ, suc, ◌+◌, ◌*◌, ◌-◌, ◌/◌, ◌%◌, ◌<◌, ◌^◌}
use native.Mathlib.Omega.{arith}
use lib.Dec.{T, eqb, ltb, lit<}
use lib.Bits.{bit_and, and_block, and_comm, and_shifted, and_zero_l}
use mir.Facts.{and_yes, eqb_yes, yes_eqb, ltb_yes}
use Rattle.laws.specs.Lists.{All, every, some, from}
use Rattle.laws.proofs.Tests.{within_iff}
use Rattle.laws.proofs.Lists.{all_both, every_from, every_some}
use Rattle.meaning.specs.declared.Cell.{Cell}
use Rattle.meaning.specs.declared.VideoOffset.{VideoOffset}
use Rattle.meaning.specs.declared.SubAddress.{SubAddress}
use Rattle.meaning.specs.declared.Kind.TheVariants.{Setting, Parameter, Video}
use Rattle.meaning.specs.declared.Memory.TheVariants.{Either}
use Rattle.meaning.specs.Words.{Word, bits, para_adr, para_os, para_type, para_sub_type, sub_address, data24}
use Rattle.meaning.specs.Registers.{any, scaled, no_address, alpha_select, memory_location, alpha_constants, levels, Register, Row, Section, of_3d, of_video, target_group, stage, sample, overlay, scaler, sections, find, find_among, find_3d, find_video, is_found, register_among, register_in, register_at}
use Rattle.meaning.specs.Grants.{Terms, granted}
use Rattle.meaning.specs.Batch.{Fits, SubTypes, allowed_types, type_allowed, allowed, HoldableScaler}
use Rattle.meaning.specs.Reader.{unless, value_reason, found_reason, word_reason}
use Rattle.meaning.proofs.Verdicts.{fits_fine}
use Rattle.meaning.proofs.Table.{Of, OwnIn, RowsVideo, own_registers, found_video_of}
use Rattle.meaning.proofs.Places.{Sample, Samples}

-- ---- a setting, and a parameter under each: one test over the allowed types

a_setting : (g : Terms) → Sample g Setting
unfolding word_reason allowed para_adr para_os para_type para_sub_type allowed_types type_allowed some unless
a_setting g = record { word = 0x10000; small = lit< tt; taken = refl }

-- the sub-address of a group's first register
first_name : List (Row SubAddress) → ℕ
first_name [] = 0
first_name (r ∷ rs) = r.name.0

-- a parameter for a type and sub-type: 0 in the first register of their group
candidate_in : ℕ → ℕ → List Section → ℕ
candidate_in t u [] = 0
candidate_in t u (of_3d G ∷ ss) = let more = candidate_in t u ss in cond (eqb t G.type && eqb u G.sub_type) (first_name G.rows * 2 ^ 24) more
candidate_in t u (of_video rs ∷ ss) = candidate_in t u ss

candidate : ℕ → ℕ → ℕ
candidate t u = candidate_in t u sections

fine : Terms → ℕ → ℕ → Bool
fine g t u =
    let p = candidate t u in
    ltb p (2 ^ 32) && eqb (found_reason g 6 (find_3d t u (sub_address p)) (data24 p)) 0

-- it may stand under each sub-type of the range
fine_under : Terms → SubTypes → Bool
fine_under g r = every (fine g r.type) (from r.first (suc r.last - r.first))

tested : (g : Terms) → T (every (fine_under g) allowed_types)
unfolding fine_under allowed_types fine candidate candidate_in first_name sub_address data24 find_3d find_among find sections target_group stage sample register_at register_in register_among overlay scaler value_reason unless alpha_constants levels every from
tested g = tt

fine_allowed : (g : Terms) (t u : ℕ) → T (type_allowed t u) → T (fine g t u)
unfolding type_allowed fine_under
fine_allowed g t u a =
    let under = every_some (fine_under g) _ allowed_types (tested g) a in
    let r : SubTypes = under.0 in
    let named = and_yes (eqb t r.type) _ under.2 in
    let inside = (within_iff r.first r.last u).0 named.1 in
    subst (λ (x : ℕ). T (fine g x u)) (sym (eqb_yes named.0))
    (every_from (fine g r.type) r.first (suc r.last - r.first) under.1 u inside.0 (omega arith))

a_parameter : (g : Terms) (s : ℕ) → T (allowed s) → Sample g (Parameter s)
unfolding allowed fine word_reason
a_parameter g s a =
    let t = para_type s in
    let u = para_sub_type s in
    let b = (and_yes (eqb (para_os s) 0) _ (and_yes (eqb (para_adr s) 0) _ a).1).1 in
    let c = and_yes (ltb (candidate t u) (2 ^ 32)) _ (fine_allowed g t u b) in
    record { word = candidate t u; small = ltb_yes c.0; taken = eqb_yes c.1 }

-- ---- a word for each video register

record Holds (g : Terms) (r : Register) : Type 0 where
  word : ℕ
  small : Word word
  fits : Fits g r word

-- an address that the registers hold meets no mask that leaves bits 28:4 alone
masked : (a m : ℕ) → a % 16 ≡ 0 → a < 2 ^ 29 → bits 28 4 m ≡ 0 → bit_and a m ≡ 0
masked a m e l z =
    let split_a : a ≡ a / 16 * 2 ^ 4 + 0 = omega arith in
    let split_m : m ≡ m / 2 ^ 29 * 2 ^ 25 * 2 ^ 4 + m % 16 = omega arith in
    let none : bit_and (a / 16) (m / 2 ^ 29 * 2 ^ 25) ≡ 0 = and_comm (a / 16) _ ∙ and_shifted (m / 2 ^ 29) 25 (a / 16) (omega arith) in
    subst₂ (λ (x y : ℕ). bit_and x y ≡ 0) (sym split_a) (sym split_m)
    (and_block 4 (a / 16) (m / 2 ^ 29 * 2 ^ 25) 0 (m % 16) (lit< tt) (omega arith)
    ∙ ap (λ (x : ℕ). x * 2 ^ 4 + bit_and 0 (m % 16)) none ∙ and_zero_l (m % 16))

held : (a : ℕ) → a % 16 ≡ 0 → a < 2 ^ 29 → bits 28 4 a * 16 ≡ a
held a m l = omega arith

-- an address that is granted to its role fits such a register
pub address_fits : (g : Terms) (role m a : ℕ) → T (eqb (bits 28 4 m) 0) → a % 16 ≡ 0 → a < 2 ^ 29 → T (granted g.grants Either role a)
    → Fits g (record { width = 32; clear = m; values = memory_location; holds = scaled role }) a
unfolding memory_location
address_fits g role m a z e l t =
    let low : bits 1 0 a ≡ 0 = omega arith in
    record { clear = masked a m e l (eqb_yes z); value = yes_eqb low; granted = rw (held a e l) t }

an_address : (g : Terms) (role m : ℕ) → T (eqb (bits 28 4 m) 0) → HoldableScaler g role → Holds g (record { width = 32; clear = m; values = memory_location; holds = scaled role })
an_address g role m z h =
    record { word = h.address; small = omega (arith, h.small); fits = address_fits g role m h.address z h.multiple h.small h.allows }

-- 0 may stand where no address is held and the rule takes 0
nothing_held : (g : Terms) (m : ℕ) (f : ℕ → Bool) → T (f 0) → Holds g (record { width = 32; clear = m; values = f; holds = no_address })
nothing_held g m f t = record { word = 0; small = lit< tt; fits = record { clear = and_zero_l m; value = t; granted = tt } }

scaler_rows : (g : Terms) (c o role : ℕ) → HoldableScaler g role → All (λ r. Holds g r.register) (scaler c o role)
unfolding scaler
scaler_rows g c o role h = (
  nothing_held g _ any tt,
  (
    nothing_held g _ any tt,
    (
      an_address g role _ tt h,
      (an_address g role _ tt h, (nothing_held g _ any tt, (nothing_held g _ any tt, (an_address g role _ tt h, tt)))),
    ),
  ),
)

-- every row of the table's video sections holds something
abbrev RowsHold : Terms → Section → Type 0
RowsHold g = RowsVideo (λ r. Holds g r.register)

-- the rows of video registers, wherever they stand in the table
video_rows : List Section → List (List (Row VideoOffset))
video_rows [] = []
video_rows (of_3d G ∷ ss) = video_rows ss
video_rows (of_video rs ∷ ss) = rs ∷ video_rows ss

in_place : (g : Terms) (ss : List Section) → All (All (λ r. Holds g r.register)) (video_rows ss) → All (RowsHold g) ss
unfolding video_rows
in_place g [] a = tt
in_place g (of_3d G ∷ ss) a = (tt, in_place g ss a)
in_place g (of_video rs ∷ ss) a = (a.0, in_place g ss a.1)

video_rows_lem : (g : Terms) → HoldableScaler g 2 → HoldableScaler g 3 → All (RowsHold g) sections
unfolding video_rows sections from overlay alpha_select
video_rows_lem g h2 h3 =
    in_place g sections (
      (nothing_held g _ any tt, (nothing_held g _ any tt, (nothing_held g _ alpha_select tt, tt))),
      (scaler_rows g 87 0x2000 2 h2, (scaler_rows g 94 0x3000 3 h3, tt)),
    )

-- the register of a video row's cell is the row's
held_at : (g : Terms) (s : Section) → OwnIn register_at s → RowsHold g s → RowsVideo (λ r. Holds g (register_at r.cell)) s
held_at g (of_3d G) o h = tt
held_at g (of_video rs) o h = all_both _ _ _ (λ r e x. subst (Holds g) (sym e) x) rs o h

word_of : (g : Terms) (f : Option Cell) → T (is_found f) → Of (λ c. Holds g (register_at c)) f → (w : ℕ) × Word w × (found_reason g 4 f w ≡ 0)
word_of g (Some c) t h = (h.word, h.small, (fits_fine g (register_at c) h.word).0 h.fits)
word_of g None t h = absurd t

a_video_word : (g : Terms) → HoldableScaler g 2 → HoldableScaler g 3 → (o : VideoOffset) → T (is_found (find_video o)) → Sample g (Video o)
unfolding word_reason find_video
a_video_word g h2 h3 o t =
    let rows = all_both _ _ _ (held_at g) sections own_registers (video_rows_lem g h2 h3) in
    let w = word_of g (find_video o) t (found_video_of (λ (c : Cell). Holds g (register_at c)) o sections rows) in
    record { word = w.0; small = w.1; taken = w.2 }

pub samples_of : (g : Terms) → HoldableScaler g 2 → HoldableScaler g 3 → Samples g
samples_of g h2 h3 = record { a_setting = a_setting g; a_parameter = a_parameter g; a_video_word = a_video_word g h2 h3 }
