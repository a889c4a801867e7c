-- A number's eight bytes, in front of what is put behind them.
-- Assumes nothing.
use mathlib.Core.Path.{◌≡◌, refl, sym, ap, ◌∙◌}
use mathlib.Core.List.{List, [], ◌∷◌, ◌++◌, append-nil, append_assoc}
use Prim.Native.Nat.{ℕ, zero, suc, ◌-◌, ◌/◌, ◌%◌, ◌≤◌, ◌^◌}
use native.Mathlib.Nat.{div-one}
use native.Mathlib.Omega.{arith}
use lib.ListN.{length, take, drop, length-append, length-drop, drop_of_length-le}
use lib.Seq.{length-take-le, take_all, take_at, drop_at, drop-drop}
use lib.Pow.{shr-shr}
use borrow.Rule.Slice.PartMut.{mid_of, put_mid}
use Rattle.laws.specs.Lists.{over}
use Rattle.restore_listing.specs.Restored.{number_bytes}

-- ---- a number in bytes

-- the k lowest bytes of a number, the lowest first
abbrev pub low_bytes : ℕ → ℕ → List ℕ
low_bytes zero n = []
low_bytes (suc k) n = n % 2 ^ 8 ∷ low_bytes k (n / 2 ^ 8)

pub eight_bytes : (n : ℕ) → low_bytes 8 n ≡ number_bytes n
unfolding number_bytes
eight_bytes n = rw (div-one n, shr-shr n 8 8, shr-shr n 16 8, shr-shr n 24 8, shr-shr n 32 8, shr-shr n 40 8, shr-shr n 48 8)

pub eight : (n : ℕ) → length (number_bytes n) ≡ 8
unfolding number_bytes
eight n = refl

-- ---- what stands behind the first eight bytes is lent, and put back

abbrev pub behind : List ℕ → List ℕ
behind out = mid_of 8 (length out - 8) out

abbrev pub put_behind : List ℕ → List ℕ → List ℕ
put_behind out part = put_mid 8 (length out - 8) out part

-- it is all that there is
pub behind_all : (out : List ℕ) → behind out ≡ drop 8 out
behind_all out = take_all (length out - 8) (drop 8 out) (omega (arith, length-drop 8 out))

put_all : (out part : List ℕ) → put_behind out part ≡ take 8 out ++ part
put_all out part =
    let few : length (drop 8 out) ≤ length out - 8 = omega (arith, length-drop 8 out) in
    let none : drop (length out - 8) (drop 8 out) ≡ [] = drop_of_length-le (drop 8 out) few in
    rw none (ap (λ (l : List ℕ). take 8 out ++ l) (append-nil part))

-- a text in front, and another over what was behind it
over_both : (u v old : List ℕ) → u ++ over v (drop (length u) old) ≡ over (u ++ v) old
over_both u v old =
    sym (append_assoc u v (drop (length v) (drop (length u) old)))
    ∙ ap (λ (l : List ℕ). (u ++ v) ++ l) (drop-drop (length v) (length u) old ∙ ap (λ (n : ℕ). drop n old) (sym (length-append u v)))

module _ (n : ℕ) (v old : List ℕ) where
  -- the number first, and then what stands behind it,
  pub number_first : (mid : List ℕ) → mid ≡ over (number_bytes n) old → put_behind mid (over v (behind mid)) ≡ over (number_bytes n ++ v) old
  number_first mid e =
      let u = number_bytes n in
      let rest = drop (length u) old in
      rw e
      (put_all (u ++ rest) (over v (behind (u ++ rest)))
      ∙ rw (behind_all (u ++ rest), take_at u rest 8 (eight n), drop_at u rest 8 (eight n)) (over_both u v old))

  -- or the number last
  pub number_last : 8 ≤ length old → over (number_bytes n) (put_behind old (over v (behind old))) ≡ over (number_bytes n ++ v) old
  number_last room =
      let u = number_bytes n in
      let cut : length (take 8 old) ≡ length u = length-take-le 8 old room ∙ sym (eight n) in
      rw (put_all old (over v (behind old)), drop_at (take 8 old) (over v (behind old)) (length u) cut, behind_all old, ← eight n) (over_both u v old)

-- ---- the text in its buffer

pub within : (text old : List ℕ) {new : List ℕ} {n : ℕ} → n ≡ length text → new ≡ over text old → n ≤ length new
within text old e l = rw l (omega (arith, e, length-append text (drop (length text) old)))
