-- What a header that is opened tells.
-- Assumes nothing.
use Rattle.std.specs.Prelude.{Option, Some, None, Result, Ok, Err}
use mathlib.Core.Path.{◌≡◌, refl, ap, ◌∙◌}
use mathlib.Core.Bool.{Bool, true, false, ◌&&◌, cond}
use Prim.Native.Nat.{ℕ, ◌+◌, ◌*◌, ◌-◌, ◌/◌, ◌%◌, ◌≤◌, ◌<◌}
use native.Mathlib.Omega.{arith}
use native.Mathlib.Decide.{ℕ_discrete}
use borrow.Author.Tests.{eq-eqb, ne_eqb}
use lib.Dec.{T, leb, eqb}
use mir.Facts.{and_yes, leb_yes, eqb_yes, yes_eqb}
use Rattle.laws.specs.Tests.{within}
use Rattle.laws.proofs.Tests.{within_iff, true_of, false_of}
use Rattle.meaning.specs.declared.Reason.{Reason}
use Rattle.meaning.specs.declared.Reason.TheVariants.{BadCount}
use Rattle.meaning.specs.declared.Kind.TheVariants.{Video}
use Rattle.meaning.specs.Words.{count, offset, video_offset}
use Rattle.meaning.specs.Registers.{cell, find_video}
use Rattle.meaning.specs.Batch.{offset_3d, most_3d}
use Rattle.meaning.specs.Answers.{bad_offset, bad_count, success, reason_in}
use Rattle.meaning.specs.Positions.{kind_of}
use Rattle.meaning.specs.Reader.{unless, header_reason}
use Rattle.meaning.proofs.Stretches.{kind_3d, kind_video}
use Rattle.registers.specs.Names.{offset_of}
use Rattle.registers.proofs.Rows.{VideoRow, overlay, first, second, register, stays, starts, between, outside}
use Rattle.rows_video.specs.Scalers as scalers
use Rattle.headers.specs.declared.Header.{Header}
use Rattle.headers.specs.declared.Header.TheVariants.{Setting, Overlay}
use Rattle.headers.specs.declared.ScalerOffset.{ScalerOffset}
use Rattle.headers.specs.Headers.{run_index, scaler_at, opened_at, run_at, overlay_run, scaler_run, header_of}
use Rattle.headers.specs.Told.{Runs, Opens}

-- ---- tests

-- what is shown of either side of a test holds of what it chooses
by_test : {A : Type 0} (P : A → Type 0) (b : Bool) {x y : A} → (T b → P x) → ((T b → ⊥) → P y) → P (cond b x y)
by_test P true f g = f tt
by_test P false f g = g (λ t. t)

-- a run that has a first register starts with it and stays in its row
module _ (d k n i : ℕ) where
  abbrev Starts : Result ℕ Reason → Type 0
  Starts x = x ≡ Ok i → (d % 4 ≡ 0) × (d / 4 + k ≤ n) × (i ≡ d / 4)

  starts_at : Starts (run_index d k n)
  unfolding run_index
  starts_at =
      by_test Starts (eqb (d % 4) 0) (λ t.
      by_test Starts (leb 1 k && leb (d / 4 + k) n) (λ u e. (eqb_yes t, leb_yes (and_yes (leb 1 k) _ u).1, grind (arith, e))) (λ u e. grind (arith, e)))
      (λ t e. grind (arith, e))

-- the reason of a count
counted : (b : Bool) (i : ℕ) → unless b bad_count success ≡ reason_in (cond b (Ok i) (Err BadCount))
unfolding unless
counted true i = refl
counted false i = refl

-- ---- the header of a run

module _ (h : ℕ) (other : offset h ≡ offset_3d → ⊥) where
  -- there is no video register at its offset
  nowhere : find_video (video_offset h) ≡ None → header_reason h ≡ bad_offset
  unfolding header_reason unless
  nowhere none = rw (ne_eqb (offset h) offset_3d other, none)

  -- its offset lies in a row of registers, so many bytes behind the first
  module _ {o c n : ℕ} (r : VideoRow o c n) (d : ℕ) (at : offset h ≡ o + d) (inside : d / 4 < n) where
    -- the register that the run starts with
    run_start : d % 4 ≡ 0 → video_offset h ≡ offset_of (cell (c + d / 4))
    run_start z = ap (λ (x : ℕ). record { 0 = x }) (at ∙ omega (arith, (register r (d / 4) inside).offset))

    in_a_row : header_reason h ≡ reason_in (run_index d (count h) n)
    unfolding header_reason run_index unless
    in_a_row =
        elim (ℕ_discrete (d % 4) 0) [
          | yes z ↦ let own = stays r (d / 4) inside (count h) in rw (ne_eqb (offset h) offset_3d other, run_start z, own.0, own.1, eq-eqb (d % 4) 0 z) (counted _ _)
          | no m ↦ nowhere (between (video_offset h) (λ z. m (omega (arith, (starts r).0)))) ∙ rw (ne_eqb (d % 4) 0 m)
        ]

    runs : {i : ℕ} → run_index d (count h) n ≡ Ok i → Runs h c i n
    runs e =
        let start = starts_at d (count h) n _ e in
        let kind : kind_of h ≡ Video (offset_of (cell (c + d / 4))) = kind_video h refl other ∙ ap Video (run_start start.0) in
        record {
          fine = in_a_row ∙ rw e;
          kind = rw start.2 kind;
          row = rw start.2 start.1;
        }

-- refused with the reason, or opened
opens_run : (h : ℕ) (header : ℕ → Header) (x : Result ℕ Reason) → header_reason h ≡ reason_in x → ((i : ℕ) → x ≡ Ok i → Opens h (Ok (header i))) → Opens h (opened_at header x)
opens_run h header (Ok i) e f = f i refl
opens_run h header (Err r) e f = e

module _ (h : ℕ) (other : offset h ≡ offset_3d → ⊥) where
  opens_overlay : T (within 0x2208 0x2210 (offset h)) → Opens h (overlay_run (video_offset h) (count h))
  unfolding overlay_run
  opens_overlay t =
      let b = (within_iff 0x2208 0x2210 (offset h)).0 t in
      let row = in_a_row h other overlay (offset h - 0x2208) (omega (arith, b)) (omega (arith, b)) in
      opens_run h Overlay _ row (λ i. runs h other overlay (offset h - 0x2208) (omega (arith, b)) (omega (arith, b)))

  of_row_lem : {o c role : ℕ} → VideoRow o c 7 → scalers.Scaler c role → T (within o (o + 24) (offset h)) → Opens h (run_at (Some (record { base = cell c; role = role; distance = offset h - o })) (count h))
  of_row_lem {o} r s t =
      let b = (within_iff o (o + 24) (offset h)).0 t in
      let at : offset h ≡ o + (offset h - o) = omega (arith, b) in
      let inside : (offset h - o) / 4 < 7 = omega (arith, b) in
      opens_run h _ _ (in_a_row h other r (offset h - o) at inside) (λ i e. (runs h other r (offset h - o) at inside e, s))

  opens_scaler : (T (within 0x2208 0x2210 (offset h)) → ⊥) → Opens h (scaler_run (video_offset h) (count h))
  unfolding scaler_run scaler_at
  opens_scaler a =
      by_test Opened (within 0x23E4 0x23FC (offset h)) (of_row_lem first scalers.first) (λ b.
      by_test Opened (within 0x33E4 0x33FC (offset h)) (of_row_lem second scalers.second) (λ c.
      nowhere h other (outside (video_offset h) (none b c))))
    where
      Opened : Option ScalerOffset → Type 0
      Opened s = Opens h (run_at s (count h))

      none : (T (within 0x23E4 0x23FC (offset h)) → ⊥) → (T (within 0x33E4 0x33FC (offset h)) → ⊥) → (s c n : ℕ) → VideoRow s c n → (i : ℕ) → i < n → offset h ≡ s + 4 * i → ⊥
      none b c _ _ _ overlay i l q = a ((within_iff 0x2208 0x2210 (offset h)).1 (omega arith, omega arith))
      none b c _ _ _ first i l q = b ((within_iff 0x23E4 0x23FC (offset h)).1 (omega arith, omega arith))
      none b c _ _ _ second i l q = c ((within_iff 0x33E4 0x33FC (offset h)).1 (omega arith, omega arith))

-- ---- every header

opens_3d : (h : ℕ) → offset h ≡ offset_3d → Opens h (cond (within 2 most_3d (count h)) (Ok Setting) (Err BadCount))
unfolding header_reason unless
opens_3d h e =
    by_test (Opens h) (within 2 most_3d (count h)) (λ t. (rw (eq-eqb (offset h) offset_3d e, true_of (within 2 most_3d (count h)) t), kind_3d h refl e))
    (λ f. rw (eq-eqb (offset h) offset_3d e, false_of (within 2 most_3d (count h)) f))

pub opens : (h : ℕ) → Opens h (header_of h)
unfolding header_of
opens h =
    by_test (Opens h) (eqb (offset h) offset_3d) (λ t. opens_3d h (eqb_yes t)) (λ f.
    let other : offset h ≡ offset_3d → ⊥ = λ e. f (yes_eqb e) in
    by_test (Opens h) (within 0x2208 0x2210 (offset h)) (opens_overlay h other) (opens_scaler h other))

-- the same of what the code has of a header
pub told : (h : ℕ) {x y : Result Header Reason} → x ≡ header_of h → x ≡ y → Opens h y
told h e f = rw (← e, f) at (opens h)
