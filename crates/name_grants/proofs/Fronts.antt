-- A text, in front of what is put behind it.
-- Assumes nothing.
use mathlib.Core.Path.{◌≡◌, sym, ap, ◌∙◌}
use mathlib.Core.List.{List, [], ◌++◌, append-nil, append_assoc}
use Prim.Native.Nat.{ℕ, ◌-◌, ◌≤◌}
use native.Mathlib.Omega.{arith}
use lib.ListN.{length, take, drop, length-append, length-drop, drop_of_length-le}
use lib.Seq.{take_all, take_at, drop_at, drop-drop}
use borrow.Rule.Slice.PartMut.{mid_of, put_mid}
use Rattle.laws.specs.Lists.{over}

-- ---- what stands behind the first k bytes is lent, and put back

abbrev pub behind : ℕ → List ℕ → List ℕ
behind k out = mid_of k (length out - k) out

abbrev pub put_behind : ℕ → List ℕ → List ℕ → List ℕ
put_behind k out part = put_mid k (length out - k) out part

module _ (k : ℕ) (out : List ℕ) where
  few : length (drop k out) ≤ length out - k
  few = omega (arith, length-drop k out)

  -- it is all that there is
  behind_all : behind k out ≡ drop k out
  behind_all = take_all (length out - k) (drop k out) few

  pub length_behind : length (behind k out) ≡ length out - k
  length_behind = ap length behind_all ∙ length-drop k out

  put_all : (part : List ℕ) → put_behind k out part ≡ take k out ++ part
  put_all part =
      let none : drop (length out - k) (drop k out) ≡ [] = drop_of_length-le (drop k out) few in
      rw none (ap (λ (l : List ℕ). take k out ++ l) (append-nil part))

-- a text in front, and another over what was behind it
over_both : (u v old : List ℕ) → u ++ over v (drop (length u) old) ≡ over (u ++ v) old
over_both u v old =
    sym (append_assoc u v (drop (length v) (drop (length u) old)))
    ∙ ap (λ (l : List ℕ). (u ++ v) ++ l) (drop-drop (length v) (length u) old ∙ ap (λ (n : ℕ). drop n old) (sym (length-append u v)))

pub both : (u v old : List ℕ) {mid : List ℕ} {k : ℕ} → k ≡ length u → mid ≡ over u old → put_behind k mid (over v (behind k mid)) ≡ over (u ++ v) old
both u v old {mid} {k} cut e =
    let rest = drop (length u) old in
    rw e
    (put_all k (u ++ rest) (over v (behind k (u ++ rest)))
    ∙ rw (behind_all k (u ++ rest), take_at u rest k (sym cut), drop_at u rest k (sym cut)) (over_both u v old))

-- ---- the text in its buffer

pub within : (text old : List ℕ) {new : List ℕ} {n : ℕ} → n ≡ length text → new ≡ over text old → n ≤ length new
within text old e l = rw l (omega (arith, e, length-append text (drop (length text) old)))
