-- The query's answers are its rows: 1, 2, the grant that admits the address, or none.
-- Assumes nothing.
use Rattle.std.specs.Prelude.{Option, Some, None}
use mathlib.Core.Path.{◌≡◌, refl, sym, ap, subst, ◌∙◌}
use mathlib.Core.Logic.{◌↔◌}
use mathlib.Core.Bool.{Bool, true, false, ◌&&◌, cond}
use mathlib.Core.List.{List}
use Prim.Native.Nat.{ℕ, zero, suc, ◌+◌, ◌≤◌, ◌<◌}
use native.Mathlib.Omega.{arith}
use lib.Dec.{T, ltb}
use lib.ListN.{length}
use mir.Facts.{and_yes, yes_and, ltb_yes, yes_ltb}
use Rattle.laws.proofs.Tests.{true_of, false_of, holds_of, fails_of}
use Rattle.meaning.specs.declared.Cell.{Cell}
use Rattle.meaning.specs.Words.{words_of}
use Rattle.meaning.specs.Registers.{cells, Content, nothing, address, register_at}
use Rattle.meaning.specs.Grants.{Terms, most_grants, grants_of, terms_of, grants_fine, which}
use Rattle.meaning.specs.State.{value_at, mark_at, is_mark, marked, well_formed}
use Rattle.meaning.specs.Pair.{looked_at}
use Rattle.meaning.specs.Answers.{Answer, bad_state, bad_grants, success, answer, provided}
use Rattle.meaning.specs.Query.{which_held, which_stored, which_at, place_of, query_answer}
use Rattle.meaning.specs.Exported.{word_buffer_fine, exported_which_grant}
use Rattle.meaning.specs.Fitter.{LowestOf, NoneOf}
use Rattle.meaning.specs.Reasons.{HoldsAddress, QueryGives, by_bad_state, by_bad_grants, admitted, nobody}
use Rattle.meaning.proofs.Bytes.{provided_then, provided_first}
use Rattle.meaning.proofs.Exported.{provided_range}
use Rattle.numbering.proofs.Grants.{length_grants, fine_list}
use Rattle.numbering.proofs.Numbering.{numbered_low, lowest_iff, none_iff}

-- ---- marks

mark_iff : (m : ℕ) → T (is_mark m) ↔ (0 < m)
mark_iff zero = (λ t. absurd t, λ h. absurd (omega arith))
mark_iff (suc m) = (λ t. omega arith, λ h. tt)

-- ---- which grant, by what the cell holds

module _ (g : Terms) (st : List ℕ) (c : Cell) where
  abbrev there : Bool
  there = ltb c.0 cells && marked st c

  -- there is such a cell, and it is marked
  there_iff : T there ↔ ((c.0 < cells) × (0 < mark_at st c))
  there_iff = (
    λ t. let both = and_yes (ltb c.0 cells) _ t in (ltb_yes both.0, (mark_iff (mark_at st c)).0 both.1),
    λ h. yes_and (ltb c.0 cells) _ (yes_ltb h.0) ((mark_iff (mark_at st c)).1 h.1),
  )

  held_there : {role a : ℕ} → HoldsAddress st c role a → T there
  held_there h = there_iff.1 (h.there, h.marked)

  -- an address
  pub which_held_lem : (role a : ℕ) → HoldsAddress st c role a → which_at g st c ≡ which g.grants (looked_at st c) role a
  unfolding which_at
  which_held_lem role a h = rw (true_of there (held_there h), h.held)

  -- none
  pub which_none : ((role a : ℕ) → HoldsAddress st c role a → NoneOf g.grants (looked_at st c) role a) → which_at g st c ≡ None
  unfolding which_at
  which_none h = by_test there refl
    where
      by_content : (t : T there) (k : Content) → (register_at c).holds (value_at st c) ≡ k → which_held g (looked_at st c) k ≡ None
      by_content t nothing e = refl
      by_content t (address role a) e =
          let is = there_iff.0 t in
          (none_iff g.grants (looked_at st c) role a).1 (h role a (record { there = is.0; marked = is.1; held = e }))

      by_test : (b : Bool) → there ≡ b → cond b (which_stored g (looked_at st c) c (value_at st c)) None ≡ None
      by_test true e = by_content (holds_of e) ((register_at c).holds (value_at st c)) refl
      by_test false e = refl

  -- the address that is held is one
  held_once : {role a role' a' : ℕ} → HoldsAddress st c role a → HoldsAddress st c role' a' → (role ≡ role') × (a ≡ a')
  held_once h k = let e = sym h.held ∙ k.held in (ap role_in e, ap address_in e)
    where
      role_in : Content → ℕ
      role_in nothing = 0
      role_in (address r a) = r

      address_in : Content → ℕ
      address_in nothing = 0
      address_in (address r a) = a

-- ---- the rows

-- an address is something
some_address : {role a : ℕ} → nothing ≡ address role a → ⊥
some_address e = subst is_nothing e tt
  where
    is_nothing : Content → Type 0
    is_nothing nothing = Unit {0}
    is_nothing (address r a) = ⊥

module _ (st grants : List ℕ) (c : Cell) where
  abbrev g : Terms
  g = terms_of grants

  module _ (w : T (well_formed st)) (f : T (grants_fine grants)) where
    -- 0, with the place of what is told
    abbrev Given : Option ℕ → Type 0
    Given x = QueryGives st grants c 0 (place_of x)

    by_which : (role a : ℕ) → HoldsAddress st c role a → (x : Option ℕ) → which g.grants (looked_at st c) role a ≡ x → Given x
    by_which role a h (Some n) e = admitted w f h ((lowest_iff g.grants (looked_at st c) role a n).0 e)
    by_which role a h None e = nobody w f (λ role' a' k. let same = held_once g st c h k in rw (← same.0, ← same.1) ((none_iff g.grants (looked_at st c) role a).0 e))

    by_content : T (there g st c) → (k : Content) → (register_at c).holds (value_at st c) ≡ k → Given (which_held g (looked_at st c) k)
    by_content t nothing e = nobody w f (λ role a h. absurd (some_address (sym e ∙ h.held)))
    by_content t (address role a) e =
        let is = (there_iff g st c).0 t in
        by_which role a (record { there = is.0; marked = is.1; held = e }) (which g.grants (looked_at st c) role a) refl

    by_there : (b : Bool) → there g st c ≡ b → Given (cond b (which_stored g (looked_at st c) c (value_at st c)) None)
    by_there true e = by_content (holds_of e) ((register_at c).holds (value_at st c)) refl
    by_there false e = nobody w f (λ role a h. absurd (fails_of e (held_there g st c h)))

    told_fine : Given (which_at g st c)
    unfolding which_at
    told_fine = by_there (there g st c) refl

  abbrev Row : Answer → Type 0
  Row a = QueryGives st grants c a.reason a.place

  pub query_told : QueryGives st grants c (query_answer st grants c).reason (query_answer st grants c).place
  unfolding query_answer
  query_told = by_state (well_formed st) refl
    where
      by_grants : T (well_formed st) → (b : Bool) → grants_fine grants ≡ b → Row (provided b bad_grants (answer success (place_of (which_at g st c))))
      by_grants w true e = told_fine w (holds_of e)
      by_grants w false e = by_bad_grants w (fails_of e)

      by_state : (b : Bool) → well_formed st ≡ b → Row (provided b bad_state (provided (grants_fine grants) bad_grants (answer success (place_of (which_at g st c)))))
      by_state true e = by_grants (holds_of e) (grants_fine grants) refl
      by_state false e = by_bad_state (fails_of e)

  -- and a row is the answer
  query_given : (r p : ℕ) → QueryGives st grants c r p → query_answer st grants c ≡ answer r p
  unfolding query_answer
  query_given _ _ (by_bad_state n) = rw (false_of (well_formed st) n)
  query_given _ _ (by_bad_grants w n) = rw (true_of (well_formed st) w, false_of (grants_fine grants) n)
  query_given _ _ (admitted {role} {a} {n} w f h l) = rw (true_of (well_formed st) w, true_of (grants_fine grants) f, which_held_lem g st c role a h, (lowest_iff g.grants (looked_at st c) role a n).1 l)
  query_given _ _ (nobody w f h) = rw (true_of (well_formed st) w, true_of (grants_fine grants) f, which_none g st c h)

  pub query_exactly : (r p : ℕ) → (query_answer st grants c ≡ answer r p) ↔ QueryGives st grants c r p
  query_exactly r p = (λ e. subst (λ (a : Answer). QueryGives st grants c a.reason a.place) e query_told, query_given r p)

  -- ---- how large they are

  pub query_place : (query_answer st grants c).place ≤ most_grants
  query_place = small query_told
    where
      small : {r p : ℕ} → QueryGives st grants c r p → p ≤ most_grants
      small (by_bad_state n) = omega arith
      small (by_bad_grants w n) = omega arith
      small (admitted {role} {a} {n} w f h l) =
          omega (arith, numbered_low n l.grant g.grants l.numbered, length_grants grants, (fine_list grants f).1)
      small (nobody w f h) = omega arith

  query_below_13 : (query_answer st grants c).reason < 13
  query_below_13 = small query_told
    where
      small : {r p : ℕ} → QueryGives st grants c r p → r < 13
      small (by_bad_state n) = omega arith
      small (by_bad_grants w n) = omega arith
      small (admitted w f h l) = omega arith
      small (nobody w f h) = omega arith

-- ---- the call of the driver

module _ (st grants : List ℕ) (c : Cell) where
  pub which_call_range : (exported_which_grant st grants c).reason < 256
  unfolding exported_which_grant
  which_call_range = provided_range (word_buffer_fine st && word_buffer_fine grants) _ (omega (arith, query_below_13 (words_of st) (words_of grants) c))

  pub which_13_exactly : ((exported_which_grant st grants c).reason ≡ 13) ↔ (¬ T (word_buffer_fine st && word_buffer_fine grants))
  unfolding exported_which_grant
  which_13_exactly = provided_first (word_buffer_fine st && word_buffer_fine grants) 13 _ (λ e. omega (arith, query_below_13 (words_of st) (words_of grants) c))

  pub which_call : T (word_buffer_fine st && word_buffer_fine grants) → exported_which_grant st grants c ≡ query_answer (words_of st) (words_of grants) c
  unfolding exported_which_grant
  which_call fine = provided_then (word_buffer_fine st && word_buffer_fine grants) 13 _ fine
