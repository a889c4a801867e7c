-- How far a list's grants are counted: those from a number on are fine exactly if all are, and complete the counts.
-- Assumes nothing.
use mathlib.Core.Path.{◌≡◌, refl, sym, ap, ◌∙◌}
use mathlib.Core.Bool.{Bool, true, false, ◌&&◌, and-false}
use mathlib.Core.List.{List, [], ◌∷◌}
use Prim.Native.Nat.{ℕ, zero, suc, ◌+◌, ◌*◌, ◌/◌, ◌%◌, ◌≤◌, ◌<◌}
use native.Mathlib.Omega.{arith}
use native.Mathlib.Numerals.{unary_clauses}
use native.Mathlib.Decide.{ℕ_discrete}
use lib.ListN.{length, get_or, drop, set, length-set, get_or-replicate}
use lib.Seq.{get_or-set_same, get_or-set_other, drop-cons}
use Rattle.std.proofs.Math.ListN.{drop_of_length-le}
use borrow.Author.Tests.{le-leb}
use Rattle.laws.specs.Lists.{every}
use Rattle.laws.proofs.Tests.{holds_of}
use Rattle.meaning.specs.Grants.{Grant, grants_of, grant_fine, grants_fine}
use Rattle.meaning.proofs.Fitter.{grant_rules}
use Rattle.numbering.proofs.Grants.{grant_at, length_grants}
use Rattle.keeping.specs.Keeping.{Counts, number_of, with_role}
use Rattle.keeping.proofs.Room.{with_none, with_own, with_other, with_few}

-- the five words of the grant of a number
pub words_read : (ws : List ℕ) (n : ℕ) → n < length ws / 5 → grant_at ws (5 * n) ≡ number_of (grants_of ws) n
words_read (r ∷ s ∷ l ∷ h ∷ m ∷ ws) zero low = refl
words_read (r ∷ s ∷ l ∷ h ∷ m ∷ ws) (suc n) low =
    let next : 5 * suc n ≡ suc (suc (suc (suc (suc (5 * n))))) = omega arith in
    rw next (simp unary_clauses (simp unary_clauses at (words_read ws n (omega arith))))
words_read [] n low = absurd (omega arith)
words_read (r ∷ []) n low = absurd (omega arith)
words_read (r ∷ s ∷ []) n low = absurd (omega arith)
words_read (r ∷ s ∷ l ∷ []) n low = absurd (omega arith)
words_read (r ∷ s ∷ l ∷ h ∷ []) n low = absurd (omega arith)

-- the grant of a number, and those behind it
pub numbered : (gs : List Grant) (n : ℕ) → n < length gs → drop n gs ≡ number_of gs n ∷ drop (n + 1) gs
numbered gs n low = let next : n + 1 ≡ suc n = omega arith in rw next (drop-cons gs n _ low)

pub record Counted (gs : List Grant) (counts : List ℕ) (n : ℕ) : Type 0 where
  pub long : length counts ≡ 4
  pub fine : every grant_fine (drop n gs) ≡ every grant_fine gs
  pub counted : (role : ℕ) → role < 4 → get_or counts role 0 + with_role role (drop n gs) ≡ with_role role gs

pub first : (gs : List Grant) → Counted gs (0 ∷ 0 ∷ 0 ∷ 0 ∷ []) 0
first gs = record {
  long = refl;
  fine = refl;
  counted = λ role high. rw (get_or-replicate {A = ℕ} 4 role 0 0 high) (omega arith);
}

module _ {gs : List Grant} {counts : List ℕ} {n : ℕ} (inv : Counted gs counts n) where
  module _ (low : n < length gs) {g : Grant} (is : g ≡ number_of gs n) where
    -- all are fine exactly if the next one and those after it are
    turn : (grant_fine g && every grant_fine (drop (n + 1) gs)) ≡ every grant_fine gs
    unfolding every
    turn = rw is (sym (ap (every grant_fine) (numbered gs n low)) ∙ inv.fine)

    pub bad_one : {r : Bool} → r ≡ grant_fine g → r ≡ false → every grant_fine gs ≡ false
    bad_one e f = sym turn ∙ ap (λ (b : Bool). b && every grant_fine (drop (n + 1) gs)) (sym e ∙ f)

    module _ {r : Bool} (e : r ≡ grant_fine g) (t : r ≡ true) where
      pub next_role : g.role < 4
      next_role = omega (arith, (grant_rules g (holds_of (sym e ∙ t))).high)

      -- it is counted
      pub good_one : Counted gs (set counts g.role (get_or counts g.role 0 + 1)) (n + 1)
      good_one =
          let one = get_or counts g.role 0 + 1 in
          let rest = drop (n + 1) gs in
          let on : drop n gs ≡ g ∷ rest = rw is (numbered gs n low) in
          record {
            long = length-set counts g.role one ∙ inv.long;
            fine = sym (ap (λ (b : Bool). b && every grant_fine rest) (sym e ∙ t)) ∙ turn;
            counted = λ role high.
                let old : get_or counts role 0 + with_role role (g ∷ rest) ≡ with_role role gs = rw on at (inv.counted role high) in
                elim (ℕ_discrete g.role role) [
                  | yes own ↦ rw (own, get_or-set_same counts role (get_or counts role 0 + 1) 0 (omega (arith, inv.long))) (omega (arith, with_own g rest role own))
                  | no other ↦ rw (get_or-set_other counts g.role role one 0 (λ same. other (sym same))) (omega (arith, with_other g rest role other))
                ];
          }

  -- no count is more than there are grants
  pub count_few : (role : ℕ) → role < 4 → get_or counts role 0 ≤ length gs
  count_few role high = omega (arith, inv.counted role high, with_few role gs)

-- the last is counted
pub all_counted : {ws counts : List ℕ} {n : ℕ} → Counted (grants_of ws) counts n → n ≡ length ws / 5 → n * 5 ≡ length ws → n ≤ 64 → Counts ws counts
unfolding every grants_fine
all_counted {ws} {counts} {n} inv all whole few =
    let over : drop n (grants_of ws) ≡ [] = drop_of_length-le (grants_of ws) (omega (arith, length_grants ws)) in
    let none : length ws % 5 ≡ 0 = omega arith in
    let most : length ws / 5 ≤ 64 = omega arith in
    record {
      fine = rw (none, le-leb (length ws / 5) 64 most) (sym inv.fine ∙ ap (every grant_fine) over);
      counted = λ role high. omega (arith, inv.counted role high, ap (with_role role) over, with_none role);
    }

-- a list of which one is bad breaks its rules
pub one_bad : (ws : List ℕ) → every grant_fine (grants_of ws) ≡ false → grants_fine ws ≡ false
unfolding grants_fine
one_bad ws f = rw (f, and-false, and-false)
