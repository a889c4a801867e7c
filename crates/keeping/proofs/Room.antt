-- How many grants have a role, and the room for them: each role's part ends before the next begins, with room for its grants to come.
-- Assumes nothing.
use mathlib.Core.Path.{◌≡◌, refl, ◌∙◌}
use mathlib.Core.Logic.{◌≢◌}
use mathlib.Core.List.{List, [], ◌∷◌}
use mathlib.Core.Bool.{true, false}
use Prim.Native.Nat.{ℕ, zero, suc, ◌+◌, ◌-◌, ◌≤◌, ◌<◌}
use native.Mathlib.Omega.{arith}
use native.Mathlib.Decide.{ℕ_discrete, dec_le}
use borrow.Author.Tests.{eq-eqb, ne_eqb, le-leb, lt-leb}
use lib.Dec.{T, leb}
use lib.ListN.{length, get_or, set, length-set}
use lib.Seq.{get_or-set_same, get_or-set_other}
use mir.Facts.{and_yes}
use Rattle.laws.specs.Lists.{every}
use Rattle.meaning.specs.Grants.{Grant, most_grants, grants_of, grant_fine, grants_fine}
use Rattle.grants.specs.Kept.{bearing}
use Rattle.keeping.specs.Keeping.{Kept, with_role, noted, beginnings, place}
use Rattle.meaning.proofs.Fitter.{InMemory, grant_rules}
use Rattle.numbering.proofs.Grants.{length_grants, fine_list}

-- ---- how many have a role

-- none of no grants, one more with a grant of its own, no more with another's
pub with_none : (role : ℕ) → with_role role [] ≡ 0
unfolding with_role
with_none role = refl

pub with_own : (g : Grant) (gs : List Grant) (role : ℕ) → g.role ≡ role → with_role role (g ∷ gs) ≡ suc (with_role role gs)
unfolding with_role
with_own g gs role e = rw (eq-eqb g.role role e)

pub with_other : (g : Grant) (gs : List Grant) (role : ℕ) → (g.role ≡ role → ⊥) → with_role role (g ∷ gs) ≡ with_role role gs
unfolding with_role
with_other g gs role n = rw (ne_eqb g.role role n)

-- at most one more with any
with_step : (g : Grant) (gs : List Grant) (role : ℕ) → (with_role role gs ≤ with_role role (g ∷ gs)) × (with_role role (g ∷ gs) ≤ suc (with_role role gs))
with_step g gs role =
    elim (ℕ_discrete g.role role) [
      | yes e ↦ let own = with_own g gs role e in (omega arith, omega arith)
      | no n ↦ let other = with_other g gs role n in (omega arith, omega arith)
    ]

-- no more than there are
pub with_few : (role : ℕ) (gs : List Grant) → with_role role gs ≤ length gs
with_few role [] = omega (arith, with_none role)
with_few role (g ∷ gs) = omega (arith, with_few role gs, with_step g gs role)

-- nor are the three roles together
pub with_all : (gs : List Grant) → with_role 1 gs + with_role 2 gs + with_role 3 gs ≤ length gs
with_all [] = omega (arith, with_none 1, with_none 2, with_none 3)
with_all (g ∷ gs) =
    elim (ℕ_discrete g.role 1) [
      | yes e ↦ omega (arith, with_all gs, with_step g gs 1, with_other g gs 2 (λ f. omega arith), with_other g gs 3 (λ f. omega arith))
      | no n ↦ elim (ℕ_discrete g.role 2) [
        | yes e ↦ omega (arith, with_all gs, with_other g gs 1 n, with_step g gs 2, with_other g gs 3 (λ f. omega arith))
        | no m ↦ omega (arith, with_all gs, with_other g gs 1 n, with_other g gs 2 m, with_step g gs 3)
      ]
    ]

-- none has role 0, where each keeps its rules
with_role_0 : (gs : List Grant) → T (every grant_fine gs) → with_role 0 gs ≡ 0
unfolding every
with_role_0 [] fine = with_none 0
with_role_0 (g ∷ gs) fine =
    let both = and_yes (grant_fine g) (every grant_fine gs) fine in
    with_other g gs 0 (λ e. omega (arith, (grant_rules g both.0).low)) ∙ with_role_0 gs both.1

-- ---- what is noted of the list

module _ (memory : ℕ) (bounds : List ℕ) where
  pub noted_0 : memory ≡ 0 → noted memory bounds ≡ bounds
  unfolding noted
  noted_0 e = rw e

  pub noted_1 : memory ≢ 0 → noted memory bounds ≡ set bounds 4 1
  unfolding noted
  noted_1 n = rw (ne_eqb memory 0 n)

  -- no bound of a part changes by it
  pub noted_else : (i : ℕ) → i ≢ 4 → get_or (noted memory bounds) i 0 ≡ get_or bounds i 0
  noted_else i n = elim (ℕ_discrete memory 0) [ yes e ↦ rw (noted_0 e) | no m ↦ rw (noted_1 m) (get_or-set_other bounds 4 i 1 0 n) ]

-- ---- the room

-- the parts lie one behind another, and have room for these grants
pub record Room (gs : List Grant) (bounds : List ℕ) : Type 0 where
  pub long : length bounds ≡ 8
  pub none : get_or bounds 0 0 ≡ 0
  pub begun : (role : ℕ) → role < 4 → get_or bounds role 0 ≤ get_or bounds (4 + role) 0
  pub apart : (role next : ℕ) → 1 ≤ role → role < next → next < 4 → get_or bounds (4 + role) 0 + with_role role gs ≤ get_or bounds next 0
  pub inside : (role : ℕ) → role < 4 → get_or bounds (4 + role) 0 + with_role role gs ≤ most_grants

-- for each of 0 to 3, from the four
below4 : (P : ℕ → Type 0) → P 0 → P 1 → P 2 → P 3 → (n : ℕ) → n < 4 → P n
below4 P p0 p1 p2 p3 zero h = p0
below4 P p0 p1 p2 p3 (suc zero) h = p1
below4 P p0 p1 p2 p3 (suc (suc zero)) h = p2
below4 P p0 p1 p2 p3 (suc (suc (suc zero))) h = p3
below4 P p0 p1 p2 p3 (suc (suc (suc (suc n)))) h = absurd (omega arith)

-- at first each part is empty,
pub empty_first : (gs : List Grant) (role : ℕ) → 1 ≤ role → role < 4 → get_or (beginnings gs) (4 + role) 0 ≡ get_or (beginnings gs) role 0
unfolding beginnings
empty_first gs role low high =
    below4 (λ (r : ℕ). 1 ≤ r → get_or (beginnings gs) (4 + r) 0 ≡ get_or (beginnings gs) r 0) (λ l. absurd (omega arith)) (λ l. refl) (λ l. refl) (λ l. refl) role high low

-- and there is room for all
pub room_first : (gs : List Grant) → length gs ≤ most_grants → Room gs (beginnings gs)
unfolding beginnings
room_first gs few =
    let all = with_all gs in
    record {
      long = refl;
      none = refl;
      begun = λ role high. elim (dec_le 1 role) [ yes low ↦ omega (arith, empty_first gs role low high) | no none ↦ let e : role ≡ 0 = omega arith in rw e (omega arith) ];
      apart = λ role next low before high.
          elim (ℕ_discrete role 1) [
            | yes e ↦ elim (ℕ_discrete next 2) [
              | yes f ↦ rw (e, f) (omega arith)
              | no n ↦ let f : next ≡ 3 = omega arith in rw (e, f) (omega arith)
            ]
            | no n ↦ let e : role ≡ 2 = omega arith in let f : next ≡ 3 = omega arith in rw (e, f) (omega arith)
          ];
      inside = below4 (λ (r : ℕ). get_or (beginnings gs) (4 + r) 0 + with_role r gs ≤ most_grants) (omega (arith, with_few 0 gs)) (omega arith) (omega arith) (omega arith);
    }

-- a grant that is not kept leaves the room to the others
pub room_past : (g : Grant) (gs : List Grant) (bounds : List ℕ) → Room (g ∷ gs) bounds → Room gs bounds
room_past g gs bounds room = record {
  long = room.long;
  none = room.none;
  begun = room.begun;
  apart = λ role next low before high. omega (arith, room.apart role next low before high, with_step g gs role);
  inside = λ role high. omega (arith, room.inside role high, with_step g gs role);
}

-- the bounds with a grant behind its part
abbrev pub longer : Grant → List ℕ → List ℕ
longer g bounds = set bounds (4 + g.role) (get_or bounds (4 + g.role) 0 + 1)

-- a grant that is kept takes the room that it had
module _ (g : Grant) (gs : List Grant) (bounds : List ℕ) (room : Room (g ∷ gs) bounds) (high : g.role < 4) where
  pub same_beginning : (role : ℕ) → role < 4 → get_or (longer g bounds) role 0 ≡ get_or bounds role 0
  same_beginning role h = get_or-set_other bounds (4 + g.role) role _ 0 (λ e. omega arith)

  pub same_end : (role : ℕ) → (g.role ≡ role → ⊥) → get_or (longer g bounds) (4 + role) 0 ≡ get_or bounds (4 + role) 0
  same_end role n = get_or-set_other bounds (4 + g.role) (4 + role) _ 0 (λ e. n (omega arith))

  pub next_end : get_or (longer g bounds) (4 + g.role) 0 ≡ get_or bounds (4 + g.role) 0 + 1
  next_end = get_or-set_same bounds (4 + g.role) _ 0 (omega (arith, room.long))

  -- a part's end and its grants to come
  end_and : (role : ℕ) → get_or (longer g bounds) (4 + role) 0 + with_role role gs ≡ get_or bounds (4 + role) 0 + with_role role (g ∷ gs)
  end_and role =
      elim (ℕ_discrete g.role role) [
        | yes e ↦ rw (← e) (omega (arith, next_end, with_own g gs g.role refl))
        | no n ↦ omega (arith, same_end role n, with_other g gs role n)
      ]

  pub room_next : Room gs (longer g bounds)
  room_next = record {
    long = length-set bounds (4 + g.role) _ ∙ room.long;
    none = same_beginning 0 (omega arith) ∙ room.none;
    begun = λ role h.
        elim (ℕ_discrete g.role role) [
          | yes e ↦ rw (← e) (omega (arith, room.begun g.role high, same_beginning g.role high, next_end))
          | no n ↦ omega (arith, room.begun role h, same_beginning role h, same_end role n)
        ];
    apart = λ role next low before h. omega (arith, room.apart role next low before h, end_and role, same_beginning next h);
    inside = λ role h. omega (arith, room.inside role h, end_and role);
  }

-- and what is noted of the list takes none
room_noted : (memory : ℕ) (gs : List Grant) (bounds : List ℕ) → T (every grant_fine gs) → Room gs bounds → Room gs (noted memory bounds)
room_noted memory gs bounds fine room =
    let else : (i : ℕ) → i ≢ 4 → get_or (set bounds 4 1) i 0 ≡ get_or bounds i 0 = λ i n. get_or-set_other bounds 4 i 1 0 n in
    let here : get_or (set bounds 4 1) 4 0 ≡ 1 = get_or-set_same bounds 4 1 0 (omega (arith, room.long)) in
    elim (ℕ_discrete memory 0) [
      | yes e ↦ rw (noted_0 memory bounds e) room
      | no n ↦ rw (noted_1 memory bounds n)
          (record {
            long = length-set bounds 4 1 ∙ room.long;
            none = else 0 (λ e. omega arith) ∙ room.none;
            begun = λ role high.
                elim (ℕ_discrete role 0) [
                  | yes e ↦ rw e (omega (arith, else 0 (λ f. omega arith), room.none))
                  | no k ↦ omega (arith, room.begun role high, else role (λ f. omega arith), else (4 + role) (λ f. k (omega arith)))
                ];
            apart = λ role next low before high. omega (arith, room.apart role next low before high, else (4 + role) (λ f. omega arith), else next (λ f. omega arith));
            inside = λ role high.
                elim (ℕ_discrete role 0) [
                  | yes e ↦ rw e (omega (arith, here, with_role_0 gs fine))
                  | no k ↦ omega (arith, room.inside role high, else (4 + role) (λ f. k (omega arith)))
                ];
          })
    ]

-- ---- ready for grants

-- these grants are fine, and there is room for each
pub record Ready (gs : List Grant) (bounds : List ℕ) : Type 0 where
  pub fine : T (every grant_fine gs)
  pub room : Room gs bounds

pub ready_first : (ws : List ℕ) → T (grants_fine ws) → Ready (grants_of ws) (beginnings (grants_of ws))
ready_first ws fine =
    let told = fine_list ws fine in
    record { fine = told.2; room = room_first (grants_of ws) (omega (arith, length_grants ws, told.1)) }

module _ (n : ℕ) (g : Grant) (k : Kept) where
  -- a grant that covers some address is kept, and another is not
  pub place_kept : leb g.reach g.length ≡ true
      → place n g k
      ≡ record {
        starts = set k.starts (get_or k.bounds (4 + g.role) 0) g.start;
        lasts = set k.lasts (get_or k.bounds (4 + g.role) 0) (g.start + (g.length - g.reach));
        numbers = set k.numbers (get_or k.bounds (4 + g.role) 0) (bearing n g.memory);
        bounds = noted g.memory (longer g k.bounds);
      }
  unfolding place
  place_kept e = rw e

  pub place_past : leb g.reach g.length ≡ false → place n g k ≡ k
  unfolding place
  place_past e = rw e

  module _ (gs : List Grant) (ready : Ready (g ∷ gs) k.bounds) where
    pub first_fine : InMemory g
    unfolding every
    first_fine = grant_rules g (and_yes (grant_fine g) (every grant_fine gs) ready.fine).0

    -- there is room for it
    pub first_room : get_or k.bounds (4 + g.role) 0 < most_grants
    first_room = omega (arith, ready.room.inside g.role (omega (arith, first_fine.high)), with_own g gs g.role refl)

    -- and then for those after it
    pub ready_next : Ready gs (place n g k).bounds
    unfolding every
    ready_next =
        let rest = (and_yes (grant_fine g) (every grant_fine gs) ready.fine).1 in
        elim (dec_le g.reach g.length) [
          | yes h ↦ rw (place_kept (le-leb g.reach g.length h))
              (record { fine = rest; room = room_noted g.memory gs _ rest (room_next g gs k.bounds ready.room (omega (arith, first_fine.high))) })
          | no h ↦ rw (place_past (lt-leb g.reach g.length (omega arith))) (record { fine = rest; room = room_past g gs k.bounds ready.room })
        ]
