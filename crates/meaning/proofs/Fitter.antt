-- Every address that a permitted batch writes lies, with its reach, inside one grant of its role: a scaler's in memory 0.
-- Assumes nothing.
use mathlib.Core.Path.{◌≡◌, refl}
use mathlib.Core.Logic.{◌↔◌, ◌≢◌, inl, inr}
use mathlib.Core.Bool.{Bool, true, false, cond}
use mathlib.Core.List.Memᴰ
use mathlib.Core.List.{List, [], ◌∷◌, Memᴰ}
use Prim.Native.Nat.{ℕ, ◌+◌, ◌≤◌, ◌<◌, ◌^◌}
use native.Mathlib.Omega.{arith}
use borrow.Author.Tests.{eqb-true, eqb-false}
use lib.Dec.{T, leb, eqb}
use mir.Facts.{and_yes, yes_and, or_yes, leb_yes, yes_leb, eqb_yes, yes_eqb}
use Rattle.laws.specs.Lists.{All, every, join}
use Rattle.laws.specs.Tests.{within}
use Rattle.laws.proofs.Lists.{all_unit, all_map, some_iff}
use Rattle.meaning.specs.declared.Memory.{Memory}
use Rattle.meaning.specs.declared.Memory.TheVariants.{Either, Only}
use Rattle.meaning.specs.Registers.{Content, nothing, address, register_at}
use Rattle.meaning.specs.Grants.{Grant, memory_fine, grant_fine, lies_in, covers, granted, Terms}
use Rattle.meaning.specs.Batch.{reaches, Packet}
use Rattle.meaning.specs.State.{all_writes}
use Rattle.meaning.specs.Fitter.{LiesIn, Admits, Inside, Apart, Harmless, Safe, written_in, OfAddress, Stores}
use Rattle.meaning.proofs.EachWrite.{each_write}

-- the test of a memory, and what it tells
lies_iff : (x : Grant) (m : Memory) → T (lies_in m x) ↔ LiesIn m x
lies_iff x Either = (λ t. tt, λ l. tt)
lies_iff x (Only m) = (λ t. eqb_yes t, λ e. yes_eqb e)

-- the test of a grant, and what it tells
pub admits_iff : (x : Grant) (m : Memory) (role a : ℕ) → T (covers m role a x) ↔ Admits x m role a
unfolding covers
admits_iff x m role a = (
  λ t.
      let l = and_yes (lies_in m x) _ t in
      let p = and_yes (eqb x.role role) _ l.1 in
      let q = and_yes (leb x.start a) _ p.1 in
      record { lies = (lies_iff x m).0 l.0; role_is = eqb_yes p.0; from = leb_yes q.0; to = leb_yes q.1 },
  λ h. yes_and (lies_in m x) _ ((lies_iff x m).1 h.lies)
      (yes_and (eqb x.role role) _ (yes_eqb h.role_is) (yes_and (leb x.start a) _ (yes_leb h.from) (yes_leb h.to))),
)

-- G5 "A role is granted an address a if some grant of that role has start ≤ a and a + reach ≤ start + length, and only then.", and G10 "in a
-- memory"
pub granted_iff : (gs : List Grant) (m : Memory) (role a : ℕ) → T (granted gs m role a) ↔ Inside gs m role a
unfolding granted
granted_iff gs m role a =
    let found = some_iff (covers m role a) gs in (
      λ t. let s = found.0 t in record { grant = s.0; listed = s.1; admits = (admits_iff s.0 m role a).0 s.2 },
      λ i. found.1 (i.grant, i.listed, (admits_iff i.grant m role a).1 i.admits),
    )

-- ---- the memories of grants that keep their rules

every_at : {A : Type 0} (f : A → Bool) (xs : List A) → T (every f xs) → (x : A) → Memᴰ x xs → T (f x)
unfolding every
every_at f [] t x m = absurd (Memᴰ.not-nil m)
every_at f (y ∷ ys) t x m =
    let both = and_yes (f y) _ t in
    elim (Memᴰ.cases_cons m) [ inl e ↦ rw e both.0 | inr n ↦ every_at f ys both.1 x n ]

-- what the rules tell of a grant
pub record InMemory (x : Grant) : Type 0 where
  pub low : 1 ≤ x.role
  pub high : x.role ≤ 3
  pub end : x.start + x.length ≤ 2 ^ 32
  pub reach : 1 ≤ x.reach
  pub memory : x.memory ≤ 1
  pub scaler : x.role ≢ 1 → x.memory ≡ 0

pub grant_rules : (x : Grant) → T (grant_fine x) → InMemory x
unfolding grant_fine memory_fine
grant_rules x t =
    let a = and_yes (within 1 3 x.role) _ t in
    let w = and_yes (leb 1 x.role) _ a.0 in
    let b = and_yes (leb (x.start + x.length) (2 ^ 32)) _ a.1 in
    let r = and_yes (leb 1 x.reach) _ b.1 in
    let c = and_yes (leb x.memory 1) _ r.1 in
    record {
      low = leb_yes w.0;
      high = leb_yes w.1;
      end = leb_yes b.0;
      reach = leb_yes r.0;
      memory = leb_yes c.0;
      scaler = λ n. elim (or_yes (eqb x.role 1) _ c.1) [ inl e ↦ absurd (n (eqb_yes e)) | inr e ↦ eqb_yes e ];
    }

module _ (gs : List Grant) (fine : T (every grant_fine gs)) where
  -- of the grant by which an address is granted
  pub inside_rules : {m : Memory} {role a : ℕ} (i : Inside gs m role a) → InMemory i.grant
  inside_rules i = grant_rules i.grant (every_at grant_fine gs fine i.grant i.listed)

  -- an address of a role is granted in the memory that a word of it writes to
  written_in_lem : (role a : ℕ) → Inside gs Either role a → (b : Bool) → eqb role 1 ≡ b → Inside gs (cond b Either (Only 0)) role a
  written_in_lem role a i true e = i
  written_in_lem role a i false e =
      let n = eqb-false role 1 e in
      let h = i.admits in
      record {
        grant = i.grant;
        listed = i.listed;
        admits = record { lies = (inside_rules i).scaler (λ z. n (omega (arith, z, h.role_is))); role_is = h.role_is; from = h.from; to = h.to };
      }

-- ---- the writes of permitted packets

pub held_inside : (g : Terms) → T (every grant_fine g.grants) → (h : Content) → T (reaches g h) → OfAddress (Inside g.grants) h
held_inside g fine nothing t = tt
held_inside g fine (address role a) t = written_in_lem g.grants fine role a ((granted_iff g.grants Either role a).0 t) (eqb role 1) refl

pub packets_inside : (g : Terms) → T (every grant_fine g.grants) → (ps : List (List ℕ)) → All (Packet g) ps → All (Stores (Inside g.grants)) (all_writes ps)
packets_inside g fine ps a =
    each_write g (Stores (Inside g.grants)) (λ (w : ℕ). Unit {0})
    (λ c v l n s. held_inside g fine ((register_at c).holds v) s.granted)
    (λ c v l n s. held_inside g fine ((register_at c).holds v) s.granted)
    ps a (all_unit (join ps))

-- ---- two programs

pub harmless : (ours theirs : List Grant) → Apart ours theirs → (m : Memory) (role a : ℕ) → Harmless ours theirs m role a
harmless ours theirs apart m role a x y mine admits other b t =
    apart x y mine other x.memory b (refl, (omega (arith, admits.from, t), omega (arith, admits.to, t)))

pub safe_held : (ours theirs : List Grant) → Apart ours theirs → (h : Content) → OfAddress (Inside ours) h → OfAddress (Safe ours theirs) h
safe_held ours theirs apart nothing i = tt
safe_held ours theirs apart (address role a) i = (i, harmless ours theirs apart (written_in role) role a)

pub packets_safe : (g : Terms) → T (every grant_fine g.grants) → (theirs : List Grant) → Apart g.grants theirs → (ps : List (List ℕ)) → All (Packet g) ps
    → All (Stores (Safe g.grants theirs)) (all_writes ps)
packets_safe g fine theirs apart ps a =
    all_map (Stores (Inside g.grants)) (Stores (Safe g.grants theirs))
    (λ w. safe_held g.grants theirs apart ((register_at w.cell).holds w.value)) (all_writes ps) (packets_inside g fine ps a)
