-- Which grant of a list admits an address: the lowest-numbered, and nobody exactly if the address is not granted.
-- Assumes nothing.
use Rattle.std.specs.Prelude.{Option, Some, None}
use mathlib.Core.Path.{◌≡◌, refl, sym, ap, subst, ◌∙◌}
use mathlib.Core.Logic.{◌↔◌}
use mathlib.Core.Bool.{Bool, true, false, ◌||◌, cond, and-false}
use mathlib.Core.List.{List, [], ◌∷◌}
use Prim.Native.Nat.{ℕ, zero, suc, ◌+◌, ◌≤◌, ◌<◌, ◌^◌}
use native.Mathlib.Omega.{arith}
use native.Mathlib.Decide.{dec_le}
use lib.Dec.{T}
use lib.ListN.{length}
use borrow.Author.Tests.{lt-leb}
use mir.Facts.{and_yes}
use Rattle.laws.specs.Lists.{every, some}
use Rattle.laws.proofs.Tests.{holds_of, fails_of}
use Rattle.meaning.specs.declared.Memory.{Memory}
use Rattle.meaning.specs.Grants.{Grant, grant_fine, covers, granted, which_from, which, is_grant}
use Rattle.meaning.specs.Fitter.{Admits, Numbered, LowestOf, NoneOf}
use Rattle.meaning.proofs.Fitter.{admits_iff, grant_rules}

-- ---- granted by some grant

pub some_first : (b : Bool) (n : ℕ) (w : Option ℕ) → is_grant (cond b (Some n) w) ≡ (b || is_grant w)
some_first true n w = refl
some_first false n w = refl

-- THE LAW: an address is granted exactly if some grant admits it
pub granted_from : (n : ℕ) (gs : List Grant) (m : Memory) (role a : ℕ) → granted gs m role a ≡ is_grant (which_from n gs m role a)
unfolding granted some which_from
granted_from n [] m role a = refl
granted_from n (g ∷ gs) m role a =
    sym (some_first (covers m role a g) n (which_from (suc n) gs m role a) ∙ ap (λ (b : Bool). covers m role a g || b) (sym (granted_from (suc n) gs m role a)))

pub granted_which : (gs : List Grant) (m : Memory) (role a : ℕ) → granted gs m role a ≡ is_grant (which gs m role a)
granted_which = granted_from 0

-- ---- what is told

-- of grants from number k on
data Told (gs : List Grant) (m : Memory) (role a k : ℕ) : Option ℕ → Type 0 where
  found : (n i : ℕ) → i ≡ k + n → LowestOf gs m role a n → Told gs m role a k (Some i)
  none : NoneOf gs m role a → Told gs m role a k None

-- the first grant admits it
told_first : (g : Grant) (gs : List Grant) (m : Memory) (role a k : ℕ) → T (covers m role a g) → Told (g ∷ gs) m role a k (Some k)
told_first g gs m role a k t =
    found 0 k (omega arith) (record { grant = g; numbered = refl; admits = (admits_iff g m role a).0 t; lowest = λ i x l. absurd (omega arith) })

-- it does not, and neither does grant number i, if no grant before does
not_before : (g : Grant) (gs : List Grant) (m : Memory) (role a : ℕ) → ¬ T (covers m role a g) → (i : ℕ) (x : Grant)
    → ((j : ℕ) → i ≡ suc j → Numbered j x gs → ¬ Admits x m role a) → Numbered i x (g ∷ gs) → ¬ Admits x m role a
not_before g gs m role a n zero x h e t = n ((admits_iff g m role a).1 (subst (λ (y : Grant). Admits y m role a) e t))
not_before g gs m role a n (suc j) x h e t = h j refl e t

told_later : (g : Grant) (gs : List Grant) (m : Memory) (role a k : ℕ) (w : Option ℕ) → ¬ T (covers m role a g) → Told gs m role a (suc k) w
    → Told (g ∷ gs) m role a k w
told_later g gs m role a k _ not (found n i e l) =
    found (suc n) i (omega arith) (record {
      grant = l.grant;
      numbered = l.numbered;
      admits = l.admits;
      lowest = λ i x h. not_before g gs m role a not i x (λ j e. l.lowest j x (omega arith));
    })
told_later g gs m role a k _ not (none h) = none (λ i x. not_before g gs m role a not i x (λ j e. h j x))

told_next : (g : Grant) (gs : List Grant) (m : Memory) (role a k : ℕ) (w : Option ℕ) (b : Bool) → covers m role a g ≡ b → Told gs m role a (suc k) w
    → Told (g ∷ gs) m role a k (cond b (Some k) w)
told_next g gs m role a k w true e rest = told_first g gs m role a k (holds_of e)
told_next g gs m role a k w false e rest = told_later g gs m role a k w (fails_of e) rest

told : (gs : List Grant) (m : Memory) (role a k : ℕ) → Told gs m role a k (which_from k gs m role a)
unfolding which_from
told [] m role a k = none (λ i x h. absurd h)
told (g ∷ gs) m role a k = told_next g gs m role a k (which_from (suc k) gs m role a) (covers m role a g) refl (told gs m role a (suc k))

-- ---- and nothing else

-- a grant is not nobody
apart : {n : ℕ} → None ≡ Some n → ⊥
apart {n} e = subst (λ (w : Option ℕ). T (is_grant w)) (sym e) tt

-- the number that is told
abbrev number_of : Option ℕ → ℕ → ℕ
number_of (Some n) i = n
number_of None i = i

module _ (gs : List Grant) (m : Memory) (role a : ℕ) where
  -- one grant is the lowest-numbered,
  pub lowest_once : (n i : ℕ) → LowestOf gs m role a n → LowestOf gs m role a i → n ≡ i
  lowest_once n i l k =
      elim (dec_le n i) [
        | yes h ↦ elim (dec_le i n) [
          | yes j ↦ omega arith
          | no j ↦ absurd (k.lowest n l.grant (omega arith) l.numbered l.admits)
        ]
        | no h ↦ absurd (l.lowest i k.grant (omega arith) k.numbered k.admits)
      ]

  -- and then somebody admits the address
  pub lowest_some : (n : ℕ) → LowestOf gs m role a n → ¬ NoneOf gs m role a
  lowest_some n l h = h n l.grant l.numbered l.admits

  -- G8 "The grant that admits an address of a role is the lowest-numbered one by which the role is granted it": exactly
  pub lowest_iff : (n : ℕ) → (which gs m role a ≡ Some n) ↔ LowestOf gs m role a n
  lowest_iff n = from_told (which gs m role a) (told gs m role a 0)
    where
      from_told : (w : Option ℕ) → Told gs m role a 0 w → (w ≡ Some n) ↔ LowestOf gs m role a n
      from_told _ (found i j e l) = (
        λ f. subst (LowestOf gs m role a) (omega (arith, ap (λ (w : Option ℕ). number_of w 0) f)) l,
        λ k. ap Some (omega (arith, lowest_once i n l k)),
      )
      from_told _ (none h) = (λ e. absurd (apart e), λ k. absurd (lowest_some n k h))

  -- G8 "nobody admits it exactly if there is none."
  pub none_iff : (which gs m role a ≡ None) ↔ NoneOf gs m role a
  none_iff = from_told (which gs m role a) (told gs m role a 0)
    where
      from_told : (w : Option ℕ) → Told gs m role a 0 w → (w ≡ None) ↔ NoneOf gs m role a
      from_told _ (found i j e l) = (λ f. absurd (apart (sym f)), λ h. absurd (lowest_some i l h))
      from_told _ (none h) = (λ e. h, λ k. refl)

-- ---- numbers

-- as many numbers as grants
pub numbered_low : (n : ℕ) (x : Grant) (gs : List Grant) → Numbered n x gs → n < length gs
numbered_low n x [] h = absurd h
numbered_low zero x (y ∷ gs) h = omega arith
numbered_low (suc n) x (y ∷ gs) h = omega (arith, numbered_low n x gs h)

-- ---- an address past the end of every grant

not_covered : (g : Grant) (m : Memory) (role a : ℕ) → T (grant_fine g) → 2 ^ 32 ≤ a → covers m role a g ≡ false
unfolding covers
not_covered g m role a fine far =
    let rules = grant_rules g fine in
    rw (lt-leb (a + g.reach) (g.start + g.length) (omega (arith, rules.end, rules.reach)), and-false, and-false, and-false)

pub past_end : (k : ℕ) (gs : List Grant) (m : Memory) (role a : ℕ) → T (every grant_fine gs) → 2 ^ 32 ≤ a → which_from k gs m role a ≡ None
unfolding which_from every
past_end k [] m role a fine far = refl
past_end k (g ∷ gs) m role a fine far =
    let both = and_yes (grant_fine g) (every grant_fine gs) fine in
    rw (not_covered g m role a both.0 far) (past_end (suc k) gs m role a both.1 far)
