-- Grants that are kept tell which of them admits an address, and so cover what they grant.
-- Assumes nothing.
use Rattle.std.specs.Prelude.{Option, Some, None}
use mathlib.Core.Path.{◌≡◌, refl, sym, ap, ◌∙◌}
use mathlib.Core.Logic.{◌≢◌}
use mathlib.Core.Bool.{Bool, ◌&&◌, true, false, cond, and-false, and_comm}
use mathlib.Core.List.{List, [], ◌∷◌}
use Prim.Native.Nat.{ℕ, zero, suc, ◌+◌, ◌-◌, ◌/◌, ◌≤◌, ◌<◌}
use native.Mathlib.Omega.{arith}
use native.Mathlib.Decide.{ℕ_discrete, dec_le}
use lib.Dec.{leb, leb→le, le→leb}
use lib.ListN.{length, get_or, set, length-set}
use lib.Seq.{get_or-set_same, get_or-set_other}
use borrow.Author.Tests.{eq-eqb, ne_eqb, le-leb, lt-leb}
use Rattle.laws.specs.Lists.{some}
use Rattle.laws.proofs.Tests.{holds_of}
use Rattle.meaning.specs.declared.Memory.{Memory}
use Rattle.meaning.specs.declared.Memory.TheVariants.{Either, Only}
use Rattle.meaning.specs.Grants.{Grant, most_grants, grants_of, grants_fine, lies_in, covers, granted, which_from, terms_of}
use Rattle.grants.specs.Kept.{Keeps, Bounded, Names, bearing, number_in, lies_as, spans_at, covers_at, which_kept, which_in, part_of}
use Rattle.numbering.proofs.Grants.{length_grants, fine_list}
use Rattle.grants.proofs.Keeping.{same_test, names_keep}
use Rattle.keeping.specs.Keeping.{Kept, place, place_all, beginnings, begun_by, kept_of}
use Rattle.keeping.proofs.Room.{with_own, noted_0, noted_1, noted_else, empty_first, longer, same_beginning, same_end, next_end, Ready, ready_first, place_kept, place_past, first_fine, first_room, ready_next}

-- ---- addresses

-- what a grant covers lies between its first address and its last
spanned : (start len reach a : ℕ) → reach ≤ len → (leb start a && leb (a + reach) (start + len)) ≡ (leb start a && leb a (start + (len - reach)))
spanned start len reach a fits =
    let same : leb (a + reach) (start + len) ≡ leb a (start + (len - reach)) =
    same_test _ _
    (λ t. let h = leb→le (a + reach) (start + len) t in le→leb a (start + (len - reach)) (omega arith))
    (λ t. let h = leb→le a (start + (len - reach)) t in le→leb (a + reach) (start + len) (omega arith)) in
    rw same

-- and a grant shorter than its reach covers none
empty : (start len reach a : ℕ) → len < reach → (leb start a && leb (a + reach) (start + len)) ≡ false
empty start len reach a short =
    elim (dec_le start a) [
      | yes h ↦ rw (lt-leb (a + reach) (start + len) (omega arith), and-false)
      | no h ↦ rw (lt-leb start a (omega arith))
    ]

-- ---- the first of two

-- the first that is told, else the second
abbrev or_else : Option ℕ → Option ℕ → Option ℕ
or_else (Some n) w = Some n
or_else None w = w

-- a grant, if it covers the address
abbrev only_if : Bool → ℕ → Option ℕ
only_if b n = cond b (Some n) None

else_nobody : (w : Option ℕ) → or_else w None ≡ w
else_nobody (Some n) = refl
else_nobody None = refl

else_assoc : (u v w : Option ℕ) → or_else (or_else u v) w ≡ or_else u (or_else v w)
else_assoc (Some n) v w = refl
else_assoc None v w = refl

cond_else : (b : Bool) (n : ℕ) (w : Option ℕ) → cond b (Some n) w ≡ or_else (only_if b n) w
cond_else true n w = refl
cond_else false n w = refl

-- ---- parts

-- a part with one grant more behind it
which_more : (starts lasts numbers : List ℕ) (i n : ℕ) (m : Memory) (a : ℕ)
    → which_kept starts lasts numbers i (suc n) m a
    ≡ or_else (which_kept starts lasts numbers i n m a) (only_if (covers_at starts lasts numbers (i + n) m a) (number_in (get_or numbers (i + n) 0)))
unfolding which_kept
which_more starts lasts numbers i zero m a = let e : i + 0 ≡ i = omega arith in rw e
which_more starts lasts numbers i (suc n) m a =
    let e : i + suc n ≡ suc i + n = omega arith in
    let here = covers_at starts lasts numbers i m a in
    let number = number_in (get_or numbers i 0) in
    let rest = which_kept starts lasts numbers (suc i) n m a in
    rw (e, which_more starts lasts numbers (suc i) n m a, cond_else here number rest)
    (cond_else here number _ ∙ sym (else_assoc (only_if here number) rest _))

-- a part does not change with what is kept outside it
which_still : (starts lasts numbers : List ℕ) (at first last byte i n : ℕ) (m : Memory) (a : ℕ) → ((j : ℕ) → i ≤ j → j < i + n → j ≢ at)
    → which_kept (set starts at first) (set lasts at last) (set numbers at byte) i n m a ≡ which_kept starts lasts numbers i n m a
unfolding which_kept covers_at spans_at
which_still starts lasts numbers at first last byte i zero m a out = refl
which_still starts lasts numbers at first last byte i (suc n) m a out =
    let here : i ≢ at = out i (omega arith) (omega arith) in
    rw (
      get_or-set_other starts at i first 0 here,
      get_or-set_other lasts at i last 0 here,
      get_or-set_other numbers at i byte 0 here,
      which_still starts lasts numbers at first last byte (suc i) n m a (λ j p q. out j (omega arith) (omega arith)),
    )

-- a grant kept behind a part is told with it
which_grown : (starts lasts numbers : List ℕ) (from at first last byte : ℕ) (m : Memory) (a : ℕ) → from ≤ at → at < length starts → at < length lasts → at < length numbers
    → which_kept (set starts at first) (set lasts at last) (set numbers at byte) from (at + 1 - from) m a
    ≡ or_else (which_kept starts lasts numbers from (at - from) m a) (only_if ((leb first a && leb a last) && lies_as m byte) (number_in byte))
unfolding covers_at spans_at
which_grown starts lasts numbers from at first last byte m a before s l k =
    let one : at + 1 - from ≡ suc (at - from) = omega arith in
    let behind : from + (at - from) ≡ at = omega arith in
    rw one
    (which_more (set starts at first) (set lasts at last) (set numbers at byte) from (at - from) m a
    ∙ rw (
      behind,
      get_or-set_same starts at first 0 s,
      get_or-set_same lasts at last 0 l,
      get_or-set_same numbers at byte 0 k,
      which_still starts lasts numbers at first last byte from (at - from) m a (λ j p q e. omega arith),
    ))

-- ---- the byte of a grant

-- it bears the number of one of 64 grants, and the memory
number_borne : (n memory : ℕ) → n < 64 → number_in (bearing n memory) ≡ n
number_borne n memory few = omega arith

memory_borne : (m : Memory) (n : ℕ) (g : Grant) → n < 64 → lies_as m (bearing n g.memory) ≡ lies_in m g
memory_borne Either n g few = refl
memory_borne (Only m) n g few = let e : bearing n g.memory / 64 ≡ g.memory = omega arith in rw e

-- ---- grants kept

-- what the part of a role tells
abbrev held : Kept → ℕ → Memory → ℕ → Option ℕ
held k role m a = which_in k.starts k.lasts k.numbers (part_of k.bounds role) m a

-- the room for addresses and numbers
record Wide (k : Kept) : Type 0 where
  starts : length k.starts ≡ most_grants
  lasts : length k.lasts ≡ most_grants
  numbers : length k.numbers ≡ most_grants

wide_next : (n : ℕ) (g : Grant) (k : Kept) → Wide k → Wide (place n g k)
wide_next n g k wide =
    elim (dec_le g.reach g.length) [
      | yes h ↦ rw (place_kept n g k (le-leb g.reach g.length h))
          (record {
            starts = length-set k.starts _ _ ∙ wide.starts;
            lasts = length-set k.lasts _ _ ∙ wide.lasts;
            numbers = length-set k.numbers _ _ ∙ wide.numbers;
          })
      | no h ↦ rw (place_past n g k (lt-leb g.reach g.length (omega arith))) wide
    ]

-- the next grant, where there is room for it: the part of its role tells it behind what it told, and the others tell what they did
module _ (n : ℕ) (few : n < 64) (g : Grant) (gs : List Grant) (k : Kept) (ready : Ready (g ∷ gs) k.bounds) (wide : Wide k) (m : Memory) (a : ℕ) where
  own : g.reach ≤ g.length → held (place n g k) g.role m a ≡ or_else (held k g.role m a) (only_if (covers m g.role a g) n)
  unfolding covers
  own fits =
      let rules = first_fine n g k gs ready in
      let high : g.role < 4 = omega (arith, rules.high) in
      let room = ready.room in
      let there = first_room n g k gs ready in
      rw (
        place_kept n g k (le-leb g.reach g.length fits),
        noted_else g.memory (longer g k.bounds) g.role (λ e. omega arith),
        noted_else g.memory (longer g k.bounds) (4 + g.role) (λ e. omega (arith, rules.low)),
        same_beginning g gs k.bounds room high g.role high,
        next_end g gs k.bounds room high,
        eq-eqb g.role g.role refl,
        spanned g.start g.length g.reach a fits,
        and_comm (lies_in m g),
      )
      (which_grown k.starts k.lasts k.numbers (get_or k.bounds g.role 0) (get_or k.bounds (4 + g.role) 0) g.start (g.start + (g.length - g.reach))
      (bearing n g.memory) m a
      (room.begun g.role high)
      (omega (arith, there, wide.starts))
      (omega (arith, there, wide.lasts))
      (omega (arith, there, wide.numbers))
      ∙ rw (number_borne n g.memory few, memory_borne m n g few))

  other : g.reach ≤ g.length → (role : ℕ) → 1 ≤ role → role < 4 → (g.role ≡ role → ⊥)
      → held (place n g k) role m a ≡ or_else (held k role m a) (only_if (covers m role a g) n)
  unfolding covers
  other fits role low high apart =
      let fine = first_fine n g k gs ready in
      let its : g.role < 4 = omega (arith, fine.high) in
      let room = ready.room in
      rw (
        place_kept n g k (le-leb g.reach g.length fits),
        noted_else g.memory (longer g k.bounds) role (λ e. omega arith),
        noted_else g.memory (longer g k.bounds) (4 + role) (λ e. omega arith),
        same_beginning g gs k.bounds room its role high,
        same_end g gs k.bounds room its role apart,
        ne_eqb g.role role apart,
        and-false,
        else_nobody,
      )
      (which_still k.starts k.lasts k.numbers _ _ _ _ _ _ m a
      (λ j from to here.
      elim (dec_le g.role role) [
        | yes h ↦ omega (arith, room.apart g.role role fine.low (omega arith) high, with_own g gs g.role refl)
        | no h ↦ omega (arith, room.apart role g.role low (omega arith) its, room.begun g.role its, room.begun role high)
      ]))

  gained : (role : ℕ) → 1 ≤ role → role < 4 → held (place n g k) role m a ≡ or_else (held k role m a) (only_if (covers m role a g) n)
  unfolding covers
  gained role low high =
      elim (dec_le g.reach g.length) [
        | yes fits ↦ elim (ℕ_discrete g.role role) [ yes e ↦ rw (← e) (own fits) | no apart ↦ other fits role low high apart ]
        | no h ↦
            let short : g.length < g.reach = omega arith in
            rw (place_past n g k (lt-leb g.reach g.length short), empty g.start g.length g.reach a short, and-false, and-false, else_nobody)
      ]

-- all of them
all_ready : (n : ℕ) (gs : List Grant) (k : Kept) → Ready gs k.bounds → Ready [] (place_all n gs k).bounds
unfolding place_all
all_ready n [] k ready = ready
all_ready n (g ∷ gs) k ready = all_ready (suc n) gs (place n g k) (ready_next n g k gs ready)

all_gained : (n : ℕ) (gs : List Grant) → n + length gs ≤ 64 → (k : Kept) → Ready gs k.bounds → Wide k
    → (m : Memory) (role : ℕ) → 1 ≤ role → role < 4 → (a : ℕ) → held (place_all n gs k) role m a ≡ or_else (held k role m a) (which_from n gs m role a)
unfolding place_all which_from
all_gained n [] few k ready wide m role low high a = sym (else_nobody (held k role m a))
all_gained n (g ∷ gs) few k ready wide m role low high a =
    let rest = which_from (suc n) gs m role a in
    all_gained (suc n) gs (omega arith) (place n g k) (ready_next n g k gs ready) (wide_next n g k wide) m role low high a
    ∙ rw (gained n (omega arith) g gs k ready wide m a role low high, cond_else (covers m role a g) n rest)
    (else_assoc (held k role m a) (only_if (covers m role a g) n) rest)

-- no part tells anything at first
none_held : (gs : List Grant) (starts lasts numbers : List ℕ) (role : ℕ) → 1 ≤ role → role < 4 → (m : Memory) (a : ℕ)
    → which_in starts lasts numbers (part_of (beginnings gs) role) m a ≡ None
unfolding which_kept
none_held gs starts lasts numbers role low high m a =
    let none : get_or (beginnings gs) role 0 - get_or (beginnings gs) role 0 ≡ 0 = omega arith in
    rw (empty_first gs role low high, none)

-- where nothing is noted of the list, nothing was noted before, and what a grant covers it covers in memory 0
near_one : (n : ℕ) (g : Grant) (gs : List Grant) (k : Kept) → Ready (g ∷ gs) k.bounds → get_or (place n g k).bounds 4 0 ≡ 0
    → (get_or k.bounds 4 0 ≡ 0) × ((role a : ℕ) → covers (Only 0) role a g ≡ covers Either role a g)
unfolding covers
near_one n g gs k ready none =
    elim (dec_le g.reach g.length) [
      | yes fits ↦
          let rules = first_fine n g k gs ready in
          let noted = rw (place_kept n g k (le-leb g.reach g.length fits)) at none in
          elim (ℕ_discrete g.memory 0) [
            | yes e ↦ (
              sym (get_or-set_other k.bounds (4 + g.role) 4 _ 0 (λ f. omega (arith, rules.low))) ∙ (rw (noted_0 g.memory (longer g k.bounds) e) at noted),
              λ role a. rw e,
            )
            | no m ↦ absurd (omega (
              arith,
              rw (noted_1 g.memory (longer g k.bounds) m) at noted,
              get_or-set_same (longer g k.bounds) 4 1 0 (omega (arith, length-set k.bounds (4 + g.role) (get_or k.bounds (4 + g.role) 0 + 1), ready.room.long)),
            ))
          ]
      | no h ↦
          let short : g.length < g.reach = omega arith in (
            rw (place_past n g k (lt-leb g.reach g.length short)) at none,
            λ role a. rw (empty g.start g.length g.reach a short, and-false, and-false),
          )
    ]

-- so an address is granted in memory 0 if it is at all
all_near : (n : ℕ) (gs : List Grant) (k : Kept) → Ready gs k.bounds → get_or (place_all n gs k).bounds 4 0 ≡ 0
    → (get_or k.bounds 4 0 ≡ 0) × ((role a : ℕ) → granted gs (Only 0) role a ≡ granted gs Either role a)
unfolding place_all granted some
all_near n [] k ready none = (none, λ role a. refl)
all_near n (g ∷ gs) k ready none =
    let rest = all_near (suc n) gs (place n g k) (ready_next n g k gs ready) none in
    let here = near_one n g gs k ready rest.0 in
    (here.0, λ role a. rw (here.1 role a, rest.1 role a))

-- ---- a list kept

-- the room that is lent
abbrev pub Lent : List ℕ → List ℕ → List ℕ → Type 0
Lent starts lasts numbers = (length starts ≡ most_grants) × ((length lasts ≡ most_grants) × (length numbers ≡ most_grants))

module _ (ws starts lasts numbers : List ℕ) (fine : grants_fine ws ≡ true) where
  abbrev gs : List Grant
  gs = grants_of ws

  abbrev begun : Kept
  begun = record { starts = starts; lasts = lasts; numbers = numbers; bounds = beginnings gs }

  -- all that is kept
  abbrev all : Kept
  all = kept_of gs starts lasts numbers

  ready : Ready gs begun.bounds
  ready = ready_first ws (holds_of fine)

  -- what is kept of a list that keeps its rules names its grants,
  pub names : Lent starts lasts numbers → Names (terms_of ws) all.starts all.lasts all.numbers all.bounds
  unfolding kept_of
  names lent =
      let wide : Wide begun = record { starts = lent.0; lasts = lent.1.0; numbers = lent.1.1 } in
      let few : 0 + length gs ≤ 64 = omega (arith, length_grants ws, (fine_list ws (holds_of fine)).1) in
      λ m role low high a. sym (all_gained 0 gs few begun ready wide m role low high a ∙ rw (none_held gs starts lasts numbers role low high m a))

  -- inside the room,
  pub bounded : Bounded all.bounds
  unfolding kept_of
  bounded role high = omega (arith, (all_ready 0 gs begun ready).room.inside role high)

  -- and no part of it ends before it begins
  pub begun_first : (role : ℕ) → role < 4 → get_or all.bounds role 0 ≤ get_or all.bounds (4 + role) 0
  unfolding kept_of
  begun_first role high = (all_ready 0 gs begun ready).room.begun role high

  -- where no kept grant is in memory 1, memory 0 is all there is
  pub near : get_or all.bounds 4 0 ≡ 0 → (role a : ℕ) → granted gs (Only 0) role a ≡ granted gs Either role a
  unfolding kept_of
  near none = (all_near 0 gs begun ready none).1

-- what `begin` makes of a list that keeps its rules
pub begun_by_lem : (ws : List ℕ) → grants_fine ws ≡ true → begun_by ws ≡ beginnings (grants_of ws)
unfolding begun_by
begun_by_lem ws fine = rw fine

-- what `place` leaves of a list in the room for starts, lasts, numbers and bounds
abbrev pub KeptFrom : List ℕ → List ℕ → List ℕ → List ℕ → List ℕ → List ℕ → List ℕ → List ℕ → Type 0
KeptFrom ws starts lasts numbers s l n b =
    let k = kept_of (grants_of ws) starts lasts numbers in
    (s ≡ k.starts) × ((l ≡ k.lasts) × ((n ≡ k.numbers) × (b ≡ k.bounds)))

-- stands inside the room: for the bounds alone, which is all that a value of kept grants asks of them
pub bounded_after : (ws starts lasts numbers : List ℕ) → grants_fine ws ≡ true → {b : List ℕ} → b ≡ (kept_of (grants_of ws) starts lasts numbers).bounds → Bounded b
bounded_after ws starts lasts numbers fine e = rw e (bounded ws starts lasts numbers fine)

-- names the grants of a list that keeps its rules, and keeps them
module _ (ws starts lasts numbers : List ℕ) (lent : Lent starts lasts numbers) (fine : grants_fine ws ≡ true) {s l n b : List ℕ}
    (kept : KeptFrom ws starts lasts numbers s l n b) where
  pub names_after : Names (terms_of ws) s l n b × Bounded b
  names_after = rw (kept.0, kept.1.0, kept.1.1.0, kept.1.1.1) (names ws starts lasts numbers fine lent, bounded ws starts lasts numbers fine)

  pub kept_after : Keeps (terms_of ws) s l b × Bounded b
  kept_after = (names_keep (terms_of ws) s l n b names_after.0, names_after.1)

  -- and where none is in memory 1, memory 0 is all there is
  pub near_after : get_or b 4 0 ≡ 0 → (role a : ℕ) → granted (grants_of ws) (Only 0) role a ≡ granted (grants_of ws) Either role a
  near_after none = near ws starts lasts numbers fine (ap (λ (x : List ℕ). get_or x 4 0) (sym kept.1.1.1) ∙ none)
