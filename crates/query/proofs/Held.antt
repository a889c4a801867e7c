-- Which cells other than cell 1 hold an address: six of them, and no other number.
-- Assumes nothing.
use Rattle.std.specs.Prelude.{Option, Some, None}
use mathlib.Core.Path.{◌≡◌, refl, ap}
use mathlib.Core.Logic.{◌≢◌}
use mathlib.Core.List.{List, [], ◌∷◌, map}
use Prim.Native.Nat.{ℕ, zero, suc, ◌+◌, ◌≤◌, ◌<◌}
use native.Mathlib.Omega.{arith}
use native.Mathlib.Decide.{ℕ_discrete}
use borrow.Author.Tests.{eq-eqb, ne_eqb}
use Rattle.laws.specs.Lists.{All, from}
use Rattle.laws.proofs.Lists.{all_append, one_of_two}
use Rattle.meaning.specs.declared.Cell.{Cell}
use Rattle.meaning.specs.Registers.{cell, nothing, Register, Row, Section, of_3d, of_video, target_group, stage, sample, stage_section, sample_section, overlay, scaler, sections_3d, sections_video, sections, register_among, register_in, register_at}
use Rattle.rows_video.specs.Scalers.{Scaler}
use Rattle.rows_video.proofs.Registers.{own_scaler}
use Rattle.query.specs.Held.{held_as}

-- what the register of a cell holds is known by a role
abbrev pub HeldBy : ℕ → Option ℕ → Type 0
HeldBy c role = (v : ℕ) → (register_at (cell c)).holds v ≡ held_as role v

-- by another name
pub same_held : (x k : ℕ) (role : Option ℕ) → x ≡ k → HeldBy k role → HeldBy x role
same_held x k role e h = rw e h

-- ---- the six

-- of either scaler
module _ (c role : ℕ) (s : Scaler c role) where
  pub first_held : HeldBy (c + 2) (Some role)
  unfolding scaler
  first_held v = ap (λ (r : Register). r.holds v) (own_scaler c role s).1.1.0

  pub second_held : HeldBy (c + 3) (Some role)
  unfolding scaler
  second_held v = ap (λ (r : Register). r.holds v) (own_scaler c role s).1.1.1.0

  pub third_held : HeldBy (c + 6) (Some role)
  unfolding scaler
  third_held v = ap (λ (r : Register). r.holds v) (own_scaler c role s).1.1.1.1.1.1.0

-- the first two stand side by side
pub first_two_held : (c role : ℕ) → Scaler c role → (k : ℕ) → c + 2 ≤ k → k < c + 4 → HeldBy k (Some role)
first_two_held c role s k low high = one_of_two (λ (i : ℕ). HeldBy i (Some role)) (c + 2) (c + 3) k (first_held c role s) (second_held c role s) (omega arith) low (omega arith)

-- ---- the others

-- a register holds no address
abbrev Quiet : Register → Type 0
Quiet r = (v : ℕ) → r.holds v ≡ nothing

module _ (c : Cell) where
  -- the row's does not, if it is the cell's
  abbrev QuietRow : {Name : Type 0} → Row Name → Type 0
  QuietRow r = c.0 ≡ r.cell.0 → Quiet r.register

  abbrev QuietIn : Section → Type 0
  QuietIn (of_3d g) = All QuietRow g.rows
  QuietIn (of_video rs) = All QuietRow rs

  quiet_among : {Name : Type 0} (rs : List (Row Name)) (other : Register) → All QuietRow rs → Quiet other → Quiet (register_among c rs other)
  unfolding register_among
  quiet_among [] other a q v = q v
  quiet_among (r ∷ rs) other a q v =
      elim (ℕ_discrete c.0 r.cell.0) [
        | yes e ↦ rw (eq-eqb c.0 r.cell.0 e) (a.0 e v)
        | no n ↦ rw (ne_eqb c.0 r.cell.0 n) (quiet_among rs other a.1 q v)
      ]

  quiet_in : (ss : List Section) → All QuietIn ss → Quiet (register_in c ss)
  unfolding register_in
  quiet_in [] a = λ v. refl
  quiet_in (of_3d g ∷ ss) a = quiet_among g.rows (register_in c ss) a.0 (quiet_in ss a.1)
  quiet_in (of_video rs ∷ ss) a = quiet_among rs (register_in c ss) a.0 (quiet_in ss a.1)

  -- sections that are numbered
  quiet_series : (f : ℕ → Section) → ((n : ℕ) → QuietIn (f n)) → (i n : ℕ) → All QuietIn (map f (from i n))
  unfolding from
  quiet_series f q i zero = tt
  quiet_series f q i (suc n) = (q i, quiet_series f q (suc i) n)

  quiet_stage : (n : ℕ) → QuietIn (stage_section n)
  unfolding stage
  quiet_stage n = (λ e v. refl, (λ e v. refl, tt))

  quiet_sample : (n : ℕ) → QuietIn (sample_section n)
  unfolding sample
  quiet_sample n = (λ e v. refl, (λ e v. refl, (λ e v. refl, tt)))

  -- none of a scaler's three
  quiet_scaler : (k o role : ℕ) → c.0 ≢ k + 2 → c.0 ≢ k + 3 → c.0 ≢ k + 6 → QuietIn (of_video (scaler k o role))
  unfolding scaler
  quiet_scaler k o role x y z = (λ e v. refl, (λ e v. refl, (λ e v. absurd (x e), (λ e v. absurd (y e), (λ e v. refl, (λ e v. refl, (λ e v. absurd (z e), tt)))))))

  quiet_3d : c.0 ≢ 1 → All QuietIn sections_3d
  unfolding target_group
  quiet_3d n =
      ((λ e v. refl, (λ e v. absurd (n e), (λ e v. refl, (λ e v. refl, tt)))), all_append QuietIn (map stage_section (from 0 16)) (map sample_section (from 0 16)) (quiet_series stage_section quiet_stage 0 16) (quiet_series sample_section quiet_sample 0 16))

  quiet_overlay : QuietIn (of_video overlay)
  unfolding overlay
  quiet_overlay = (λ e v. refl, (λ e v. refl, (λ e v. refl, tt)))

-- a number that is none of the seven
pub none_held : (c : ℕ) → c ≢ 1 → c ≢ 89 → c ≢ 90 → c ≢ 93 → c ≢ 96 → c ≢ 97 → c ≢ 100 → HeldBy c None
unfolding register_at sections
none_held c a b d e f g h =
    quiet_in (cell c) sections
    (all_append (QuietIn (cell c)) sections_3d sections_video (quiet_3d (cell c) a)
    (quiet_overlay (cell c), (quiet_scaler (cell c) 87 0x2000 2 b d e, (quiet_scaler (cell c) 94 0x3000 3 f g h, tt))))
