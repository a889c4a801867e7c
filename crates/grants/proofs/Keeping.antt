-- Whatever is kept keeps some grants; and the test, beside what is covered.
-- Assumes nothing.
use Rattle.std.specs.Prelude.{Option, Some, None}
use mathlib.Core.Path.{◌≡◌, refl, sym, ap, ◌∙◌}
use mathlib.Core.Bool.{Bool, true, false, ◌&&◌, ◌||◌, or_assoc, or-false, and-true, and-false, and-or_distrib_left}
use mathlib.Core.List.{List, [], ◌∷◌, ◌++◌}
use Prim.Native.Nat.{ℕ, zero, suc, ◌+◌, ◌-◌, ◌≤◌, ◌<◌}
use native.Mathlib.Omega.{arith}
use lib.Dec.{T, leb, eqb, leb→le, le→leb}
use lib.ListN.{get_or}
use mir.Facts.{and_yes, yes_and}
use borrow.Author.Tests.{eq-eqb}
use Rattle.laws.specs.Lists.{some}
use Rattle.meaning.specs.declared.Memory.TheVariants.{Either}
use Rattle.meaning.specs.Grants.{Grant, Terms, covers, granted, is_grant}
use Rattle.numbering.proofs.Numbering.{some_first, granted_which}
use Rattle.grants.specs.declared.Part.{Part}
use Rattle.grants.specs.Kept.{Keeps, Granting, Names, number_in, spans_at, covers_at, covered_from, covered_in, which_kept, which_in, part_of}

-- two tests that tell the same are equal
pub same_test : (a b : Bool) → (T a → T b) → (T b → T a) → a ≡ b
same_test true true f g = refl
same_test true false f g = absurd (f tt)
same_test false true f g = absurd (g tt)
same_test false false f g = refl

-- kept grants as grants of a role, in some memory: a length of one more than the last address is past the first, and a reach of 1
as_grants : ℕ → List ℕ → List ℕ → ℕ → ℕ → List Grant
as_grants role starts lasts i zero = []
as_grants role starts lasts i (suc n) =
    record { role = role; start = get_or starts i 0; length = suc (get_or lasts i 0) - get_or starts i 0; reach = 1; memory = 0 } ∷ as_grants role starts lasts (suc i) n

spanned_again : (first last a : ℕ) → (leb first a && leb (a + 1) (first + (suc last - first))) ≡ (leb first a && leb a last)
spanned_again first last a =
    same_test _ _
    (λ t.
    let p = and_yes (leb first a) _ t in
    let from = leb→le first a p.0 in
    let to = leb→le (a + 1) (first + (suc last - first)) p.1 in
    yes_and (leb first a) _ p.0 (le→leb a last (omega arith)))
    (λ t.
    let p = and_yes (leb first a) _ t in
    let from = leb→le first a p.0 in
    let to = leb→le a last p.1 in
    yes_and (leb first a) _ p.0 (le→leb (a + 1) (first + (suc last - first)) (omega arith)))

-- they grant what is covered, to that role alone
granted_again : (r : ℕ) (starts lasts : List ℕ) (i n role a : ℕ) → granted (as_grants r starts lasts i n) Either role a ≡ (eqb r role && covered_from starts lasts i n a)
unfolding granted some covers covered_from spans_at as_grants
granted_again r starts lasts i zero role a = sym (and-false (eqb r role))
granted_again r starts lasts i (suc n) role a =
    rw (spanned_again (get_or starts i 0) (get_or lasts i 0) a, granted_again r starts lasts (suc i) n role a)
    (sym (and-or_distrib_left (eqb r role) (spans_at starts lasts i a) (covered_from starts lasts (suc i) n a)))

-- grants of two lists
granted_append : (gs hs : List Grant) (role a : ℕ) → granted (gs ++ hs) Either role a ≡ (granted gs Either role a || granted hs Either role a)
unfolding granted some
granted_append [] hs role a = refl
granted_append (g ∷ gs) hs role a =
    ap (λ (b : Bool). covers Either role a g || b) (granted_append gs hs role a)
    ∙ sym (or_assoc (covers Either role a g) (granted gs Either role a) (granted hs Either role a))

pub part_some : (role : ℕ) (starts lasts : List ℕ) (part : Part) → (g : Terms) × Granting g role starts lasts part
part_some role starts lasts part = (
  record { grants = as_grants role starts lasts part.from (part.to - part.from) },
  λ a. granted_again role starts lasts part.from (part.to - part.from) role a ∙ rw (eq-eqb role role refl),
)

pub kept_some : (starts lasts bounds : List ℕ) → (g : Terms) × Keeps g starts lasts bounds
kept_some starts lasts bounds =
    let from : ℕ → ℕ = λ r. (part_of bounds r).from in
    let long : ℕ → ℕ = λ r. (part_of bounds r).to - (part_of bounds r).from in
    let one : ℕ → List Grant = λ r. as_grants r starts lasts (from r) (long r) in
    let covered : ℕ → ℕ → Bool = λ r a. covered_in starts lasts (part_of bounds r) a in
    let all : (role a : ℕ) → granted (one 1 ++ (one 2 ++ one 3)) Either role a ≡ ((eqb 1 role && covered 1 a) || ((eqb 2 role && covered 2 a) || (eqb 3 role && covered 3 a))) =
    λ role a.
    granted_append (one 1) (one 2 ++ one 3) role a
    ∙ rw (
      granted_append (one 2) (one 3) role a,
      granted_again 1 starts lasts (from 1) (long 1) role a,
      granted_again 2 starts lasts (from 2) (long 2) role a,
      granted_again 3 starts lasts (from 3) (long 3) role a,
    ) in (
      record { grants = one 1 ++ (one 2 ++ one 3) },
      record { targets = λ a. all 1 a ∙ or-false (covered 1 a); firsts = λ a. all 2 a ∙ or-false (covered 2 a); seconds = all 3 },
    )

-- ---- the test

-- the test in whichever memory tells what is covered, whatever the numbers are
covered_which : (starts lasts numbers : List ℕ) (i n a : ℕ) → is_grant (which_kept starts lasts numbers i n Either a) ≡ covered_from starts lasts i n a
unfolding which_kept covered_from covers_at
covered_which starts lasts numbers i zero a = refl
covered_which starts lasts numbers i (suc n) a =
    let spans = spans_at starts lasts i a in
    some_first (spans && true) (number_in (get_or numbers i 0)) (which_kept starts lasts numbers (suc i) n Either a)
    ∙ rw (and-true, covered_which starts lasts numbers (suc i) n a)

-- so an address that the test admits is granted; the address as the test was handed it
pub as_granted : (g : Terms) (role : ℕ) (starts lasts numbers : List ℕ) (part : Part) (a : ℕ) {b : ℕ} {w : Option ℕ} → Granting g role starts lasts part → b ≡ a
    → w ≡ which_in starts lasts numbers part Either b → is_grant w ≡ granted g.grants Either role a
as_granted g role starts lasts numbers part a {b} given same e =
    ap is_grant e ∙ covered_which starts lasts numbers part.from (part.to - part.from) b ∙ sym (given b) ∙ ap (granted g.grants Either role) same

-- which of the two it is
pub by_nobody : {w : Option ℕ} → w ≡ None → is_grant w ≡ false
by_nobody e = rw e

pub by_grant : {w : Option ℕ} {n : ℕ} → w ≡ Some n → is_grant w ≡ true
by_grant e = rw e

-- and what names the grants of a list keeps what they grant
pub names_keep : (g : Terms) (starts lasts numbers bounds : List ℕ) → Names g starts lasts numbers bounds → Keeps g starts lasts bounds
names_keep g starts lasts numbers bounds names =
    let each : (role : ℕ) → 1 ≤ role → role < 4 → Granting g role starts lasts (part_of bounds role) =
    λ role low high a.
    granted_which g.grants Either role a
    ∙ ap is_grant (names Either role low high a)
    ∙ covered_which starts lasts numbers (part_of bounds role).from ((part_of bounds role).to - (part_of bounds role).from) a in
    record { targets = each 1 (omega arith) (omega arith); firsts = each 2 (omega arith) (omega arith); seconds = each 3 (omega arith) (omega arith) }
