-- A setting that is allowed names a group of the table, and each group is named by one.
-- Assumes nothing.
use Rattle.std.specs.Prelude.{Option, None}
use mathlib.Core.Path.{◌≡◌, refl, ◌∙◌}
use mathlib.Core.Bool.{false}
use Prim.Native.Nat.{ℕ, ◌+◌, ◌*◌, ◌-◌, ◌/◌, ◌%◌, ◌<◌, ◌^◌}
use native.Mathlib.Omega.{arith}
use native.Mathlib.Decide.{ℕ_discrete, dec_lt}
use borrow.Author.Tests.{eq-eqb, ne_eqb, le-leb, lt-leb}
use Rattle.laws.specs.Lists.{some}
use Rattle.meaning.specs.declared.SubAddress.{SubAddress}
use Rattle.meaning.specs.Words.{para_adr, para_os, para_type, para_sub_type}
use Rattle.meaning.specs.Registers.{cell, find_3d}
use Rattle.meaning.specs.Batch.{allowed_types, type_allowed, allowed}
use Rattle.registers.proofs.Tree.{tree_3d, by_tree}
use Rattle.headers.specs.declared.Group.{Group}
use Rattle.headers.specs.declared.Group.TheVariants.{Target, Stage, Sample}
use Rattle.headers.specs.Headers.{group_of02, group_of}
use Rattle.headers.specs.Told.{cell_in, IsGroup, target, stage, sample, Leads, Names}

-- ---- what a sub-address names in the three groups

target_find : (a : SubAddress) → find_3d 0x01 0x00 a ≡ cell_in Target a
unfolding tree_3d cell_in
target_find a = by_tree 0x01 0x00 a

stage_find : (n : ℕ) (a : SubAddress) → n < 16 → find_3d 0x02 n a ≡ cell_in (Stage (cell (4 + 2 * n))) a
unfolding tree_3d cell_in
stage_find n a h = by_tree 0x02 n a ∙ rw (le-leb n 0x0F (omega arith))

sample_find : (n : ℕ) (a : SubAddress) → n < 16 → find_3d 0x02 (0x20 + n) a ≡ cell_in (Sample (cell (36 + 3 * n))) a
unfolding tree_3d cell_in
sample_find n a h =
    let e : 36 + 3 * (0x20 + n - 0x20) ≡ 36 + 3 * n = omega arith in
    by_tree 0x02 (0x20 + n) a ∙ rw (lt-leb (0x20 + n) 0x0F (omega arith), le-leb 0x20 (0x20 + n) (omega arith), le-leb (0x20 + n) 0x2F (omega arith), e)

-- ---- a setting with nothing but a type and a sub-type

type_is : (s t : ℕ) → t < 256 → s % 0x1000000 ≡ t * 0x10000 → (para_adr s ≡ 0) × (para_os s ≡ 0) × (para_type s ≡ t)
unfolding para_adr para_os para_type
type_is s t h e = (omega arith, omega arith, omega arith)

-- is allowed where they are
allowed_by : (s t : ℕ) → t < 256 → s % 0x1000000 ≡ t * 0x10000 → allowed s ≡ type_allowed t (para_sub_type s)
unfolding allowed
allowed_by s t h e = let i = type_is s t h e in rw (i.0, i.1, i.2)

-- and any other is not
forbidden : (s : ℕ) → ((t : ℕ) → t < 256 → s % 0x1000000 ≡ t * 0x10000 → type_allowed t (para_sub_type s) ≡ false) → allowed s ≡ false
unfolding allowed para_adr para_os
forbidden s none =
    elim (ℕ_discrete (s % 256) 0) [
      | no n ↦ rw (ne_eqb (s / 2 ^ 0 % 2 ^ 8) 0 (λ x. n (omega arith)))
      | yes p ↦ elim (ℕ_discrete (s / 2 ^ 8 % 2 ^ 8) 0) [
        | no n ↦ rw (eq-eqb (s / 2 ^ 0 % 2 ^ 8) 0 (omega arith), ne_eqb (s / 2 ^ 8 % 2 ^ 8) 0 n)
        | yes q ↦ allowed_by s (s / 0x10000 % 256) (omega arith) (omega arith) ∙ none (s / 0x10000 % 256) (omega arith) (omega arith)
      ]
    ]

-- ---- the three groups, and no other

module _ (s : ℕ) where
  leads_target : s % 0x1000000 ≡ 0x10000 → para_sub_type s ≡ 0x00 → Leads s Target
  unfolding type_allowed allowed_types some
  leads_target e u = record {
    fine = allowed_by s 0x01 (omega arith) e ∙ rw u;
    group = target;
    found = λ a. rw ((type_is s 0x01 (omega arith) e).2, u) (target_find a);
  }

  module _ (e : s % 0x1000000 ≡ 0x20000) (n : ℕ) (h : n < 16) where
    leads_stage : para_sub_type s ≡ n → Leads s (Stage (cell (4 + 2 * n)))
    unfolding type_allowed allowed_types some
    leads_stage u = record {
      fine = allowed_by s 0x02 (omega arith) e ∙ rw (u, le-leb 0x00 n (omega arith), le-leb n 0x0F (omega arith));
      group = stage n h;
      found = λ a. rw ((type_is s 0x02 (omega arith) e).2, u) (stage_find n a h);
    }

    leads_sample : para_sub_type s ≡ 0x20 + n → Leads s (Sample (cell (36 + 3 * n)))
    unfolding type_allowed allowed_types some
    leads_sample u = record {
      fine = allowed_by s 0x02 (omega arith) e ∙ rw (u, le-leb 0x00 (0x20 + n) (omega arith), lt-leb (0x20 + n) 0x0F (omega arith), le-leb 0x20 (0x20 + n) (omega arith), le-leb (0x20 + n) 0x2F (omega arith));
      group = sample n h;
      found = λ a. rw ((type_is s 0x02 (omega arith) e).2, u) (sample_find n a h);
    }

-- a sub-type of 02
names_02 : (s : ℕ) → s % 0x1000000 ≡ 0x20000 → (u : ℕ) → para_sub_type s ≡ u → Names s (group_of02 u)
unfolding group_of02 type_allowed allowed_types some
names_02 s e u p =
    elim (dec_lt 0x0F u) [
      | no l ↦ rw (le-leb u 0x0F (omega arith)) (leads_stage s e u (omega arith) p)
      | yes l ↦ elim (dec_lt u 0x20) [
        | yes m ↦ rw (lt-leb u 0x0F l, lt-leb 0x20 u m) (allowed_by s 0x02 (omega arith) e ∙ rw (p, lt-leb u 0x0F l, lt-leb 0x20 u m, le-leb 0x00 u (omega arith)))
        | no m ↦ elim (dec_lt 0x2F u) [
          | yes n ↦ rw (lt-leb u 0x0F l, lt-leb u 0x2F n, le-leb 0x20 u (omega arith))
              (allowed_by s 0x02 (omega arith) e ∙ rw (p, lt-leb u 0x0F l, lt-leb u 0x2F n, le-leb 0x20 u (omega arith), le-leb 0x00 u (omega arith)))
          | no n ↦ let c : 3 * u - 60 ≡ 36 + 3 * (u - 0x20) = omega arith in
              rw (lt-leb u 0x0F l, le-leb u 0x2F (omega arith), le-leb 0x20 u (omega arith), c) (leads_sample s e (u - 0x20) (omega arith) (omega arith))
        ]
      ]
    ]

-- no other type, and no other sub-type of 01
none_allowed : (t u : ℕ) → (t ≡ 0x02 → ⊥) → (t ≡ 0x01 → u ≡ 0x00 → ⊥) → type_allowed t u ≡ false
unfolding type_allowed allowed_types some
none_allowed t u n m =
    elim (ℕ_discrete t 0x01) [
      | no e ↦ rw (ne_eqb t 0x01 e, ne_eqb t 0x02 n)
      | yes e ↦ elim (dec_lt 0x00 u) [
        | yes l ↦ rw (eq-eqb t 0x01 e, le-leb 0x00 u (omega arith), lt-leb u 0x00 l, ne_eqb t 0x02 n)
        | no l ↦ absurd (m e (omega arith))
      ]
    ]

sub_type_is : (s : ℕ) → para_sub_type s ≡ s / 0x1000000 % 256
unfolding para_sub_type
sub_type_is s = refl

pub names : (s : ℕ) → Names s (group_of s)
unfolding group_of
names s =
    elim (ℕ_discrete (s % 0x1000000) 0x20000) [
      | yes e ↦ rw (eq-eqb (s % 0x1000000) 0x20000 e) (names_02 s e (para_sub_type s) refl)
      | no n ↦ elim (ℕ_discrete (s % 2 ^ 32) 0x10000) [
        | yes e ↦ rw (ne_eqb (s % 0x1000000) 0x20000 n, eq-eqb (s % 2 ^ 32) 0x10000 e) (leads_target s (omega arith) (omega (arith, sub_type_is s)))
        | no m ↦ rw (ne_eqb (s % 0x1000000) 0x20000 n, ne_eqb (s % 2 ^ 32) 0x10000 m)
            (forbidden s (λ t h e. none_allowed t (para_sub_type s) (λ x. n (omega arith)) (λ x y. m (omega (arith, sub_type_is s)))))
      ]
    ]

-- one that the code finds no group for is none that is allowed
pub unnamed : (s : ℕ) {f : Option Group} → f ≡ group_of s → f ≡ None → allowed s ≡ false
unnamed s e z = rw (← e, z) at (names s)

-- each group is named by some setting: a contract that speaks of those determines what it answers
pub some_setting : (G : Group) → IsGroup G → (s : ℕ) × Leads s G
some_setting _ target = (0x10000, leads_target 0x10000 refl (sub_type_is 0x10000))
some_setting _ (stage n h) = let s = 0x20000 + 0x1000000 * n in (s, leads_stage s (omega arith) n h (omega (arith, sub_type_is s)))
some_setting _ (sample n h) = let s = 0x20000 + 0x1000000 * (0x20 + n) in (s, leads_sample s (omega arith) n h (omega (arith, sub_type_is s)))
