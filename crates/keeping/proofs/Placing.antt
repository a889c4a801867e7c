-- How far a list's grants are placed: to place those from a number on in what is kept now is to place all in what was lent, and there is room
-- for them.
-- Assumes nothing.
use mathlib.Core.Path.{◌≡◌, refl, sym, ap, ◌∙◌}
use mathlib.Core.List.{List, ◌∷◌}
use Prim.Native.Nat.{ℕ, suc, ◌+◌, ◌-◌, ◌≤◌, ◌<◌, ◌^◌}
use native.Mathlib.Omega.{arith}
use borrow.Author.Tests.{le-leb, lt-leb}
use lib.Dec.{T}
use lib.ListN.{length, get_or, drop, set}
use Rattle.std.proofs.Math.ListN.{drop_of_length-le}
use Rattle.meaning.specs.Grants.{Grant, most_grants, grants_of, grants_fine}
use Rattle.grants.specs.Kept.{bearing}
use Rattle.keeping.specs.Keeping as kept
use Rattle.keeping.specs.Keeping.{Kept, number_of, noted, place_all, beginnings, kept_of}
use Rattle.keeping.proofs.Counting.{numbered}
use Rattle.keeping.proofs.Room.{Ready, ready_first, place_kept, place_past, first_fine, first_room, ready_next}

pub record Runs (gs : List Grant) (starts₀ lasts₀ numbers₀ : List ℕ) (k : Kept) (n : ℕ) : Type 0 where
  pub ready : Ready (drop n gs) k.bounds
  pub placed : place_all n (drop n gs) k ≡ kept_of gs starts₀ lasts₀ numbers₀

-- what code needs of a grant that it places
pub record Placeable (g : Grant) (bounds : List ℕ) : Type 0 where
  pub high : g.role < 4
  pub room : get_or bounds (4 + g.role) 0 < most_grants
  pub end : g.start + g.length ≤ 2 ^ 32
  pub reach : 1 ≤ g.reach
  pub memory : g.memory ≤ 1

pub first : (ws starts lasts numbers bounds : List ℕ) → T (grants_fine ws) → bounds ≡ beginnings (grants_of ws)
    → Runs (grants_of ws) starts lasts numbers (record { starts = starts; lasts = lasts; numbers = numbers; bounds = bounds }) 0
unfolding kept_of
first ws starts lasts numbers bounds fine begun = rw begun (record { ready = ready_first ws fine; placed = refl })

module _ {gs : List Grant} {starts₀ lasts₀ numbers₀ : List ℕ} {k : Kept} {n : ℕ} (runs : Runs gs starts₀ lasts₀ numbers₀ k n) where
  module _ (low : n < length gs) {g : Grant} (is : g ≡ number_of gs n) where
    on : drop n gs ≡ g ∷ drop (n + 1) gs
    on = rw is (numbered gs n low)

    pub next_ready : Ready (g ∷ drop (n + 1) gs) k.bounds
    next_ready = rw on at runs.ready

    -- it is fine, and there is room for it
    pub here : Placeable g k.bounds
    here =
        let fine = first_fine n g k (drop (n + 1) gs) next_ready in
        record { high = omega (arith, fine.high); room = first_room n g k (drop (n + 1) gs) next_ready; end = fine.end; reach = fine.reach; memory = fine.memory }

    turn : (after : Kept) → after ≡ kept.place n g k → Runs gs starts₀ lasts₀ numbers₀ after (n + 1)
    unfolding place_all
    turn after e =
        let next : n + 1 ≡ suc n = omega arith in
        rw e (record {
          ready = ready_next n g k (drop (n + 1) gs) next_ready;
          placed = rw next (rw next at (sym (ap (λ (hs : List Grant). place_all n hs k) on) ∙ runs.placed));
        })

    -- a grant that is kept
    pub kept_turn : g.reach ≤ g.length → {starts lasts numbers bounds : List ℕ}
        → starts ≡ set k.starts (get_or k.bounds (4 + g.role) 0) g.start
        → lasts ≡ set k.lasts (get_or k.bounds (4 + g.role) 0) (g.start + (g.length - g.reach))
        → numbers ≡ set k.numbers (get_or k.bounds (4 + g.role) 0) (bearing n g.memory)
        → bounds ≡ noted g.memory (set k.bounds (4 + g.role) (get_or k.bounds (4 + g.role) 0 + 1))
        → Runs gs starts₀ lasts₀ numbers₀ (record { starts = starts; lasts = lasts; numbers = numbers; bounds = bounds }) (n + 1)
    kept_turn fits s l m b = turn _ (rw (s, l, m, b) (sym (place_kept n g k (le-leb g.reach g.length fits))))

    -- and one that is not
    pub past_turn : g.length < g.reach → {starts lasts numbers bounds : List ℕ} → starts ≡ k.starts → lasts ≡ k.lasts → numbers ≡ k.numbers → bounds ≡ k.bounds
        → Runs gs starts₀ lasts₀ numbers₀ (record { starts = starts; lasts = lasts; numbers = numbers; bounds = bounds }) (n + 1)
    past_turn short s l m b = turn _ (rw (s, l, m, b) (sym (place_past n g k (lt-leb g.reach g.length short))))

  pub ended : length gs ≤ n → k ≡ kept_of gs starts₀ lasts₀ numbers₀
  unfolding place_all
  ended over = sym (ap (λ (hs : List Grant). place_all n hs k) (drop_of_length-le gs over)) ∙ runs.placed
