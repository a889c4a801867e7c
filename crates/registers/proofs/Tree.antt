-- The lookup by type, sub-type and sub-address as a tree of tests: the table's groups, one law for each row of them.
-- Assumes nothing.
use Rattle.meaning.specs.declared.Cell.{Cell}
use Rattle.std.specs.Prelude.{Option, Some, None}
use mathlib.Core.Path.{◌≡◌, refl, sym, ap, ◌∙◌}
use mathlib.Core.Bool.{Bool, true, false, ◌&&◌, cond}
use mathlib.Core.List.{List, [], ◌∷◌, ◌++◌, map, append_assoc}
use Prim.Native.Nat.{ℕ, zero, suc, ◌+◌, ◌*◌, ◌-◌, ◌≤◌, ◌<◌}
use native.Mathlib.Omega.{arith}
use native.Mathlib.Decide.{ℕ_discrete, dec_lt}
use borrow.Author.Tests.{eq-eqb, ne_eqb, le-leb, lt-leb, lt-ltb, le-ltb}
use lib.Dec.{leb, ltb, eqb}
use lib.ListN.{length}
use Rattle.laws.specs.Lists.{from}
use Rattle.laws.specs.Tests.{within}
use Rattle.meaning.specs.declared.SubAddress.{SubAddress}
use Rattle.registers.specs.Names.{ranged}
use Rattle.meaning.specs.Registers.{cell, Row, Group, Section, of_3d, target_group, stage, sample, stage_section, sample_section, sections_video, sections, find, find_among, find_3d}

-- the cell of a sub-address among rows
abbrev pub among : SubAddress → List (Row SubAddress) → Option Cell
among a rs = find (λ n. eqb a.0 n.0) rs

-- the rows of a type and sub-type
unfoldable pub rows_of : ℕ → ℕ → List (Row SubAddress)
rows_of t u =
    cond (eqb t 0x01) (cond (eqb u 0x00) target_group.rows [])
    (cond (eqb t 0x02) (cond (leb u 0x0F) (stage u).rows (cond (within 0x20 0x2F u) (sample (u - 0x20)).rows [])) [])

-- groups of one type whose sub-types are numbered from K on
module _ (f : ℕ → Group) (T K : ℕ) (is : (n : ℕ) → ((f n).type ≡ T) × ((f n).sub_type ≡ K + n)) (t u : ℕ) (a : SubAddress) (ss : List Section) where
  abbrev at : ℕ → Section
  at k = of_3d (f k)

  abbrev next : ℕ → List Section → Option Cell
  next i rest = cond (eqb t (f i).type && eqb u (f i).sub_type) (among a (f i).rows) (find_among t u a rest)

  -- the one that has the sub-type answers
  hit : t ≡ T → (j : ℕ) → u ≡ K + j → (i n : ℕ) → i ≤ j → j < i + n → find_among t u a (map at (from i n) ++ ss) ≡ among a (f j).rows
  unfolding find_among from
  hit p j q i zero l h = absurd (omega arith)
  hit p j q i (suc n) l h =
      elim (ℕ_discrete i j) [
        | yes e ↦ rw (sym e, eq-eqb t (f i).type (p ∙ sym (is i).0), eq-eqb u (f i).sub_type (q ∙ ap (λ (k : ℕ). K + k) (sym e) ∙ sym (is i).1))
        | no e ↦ rw (ne_eqb u (f i).sub_type (λ x. e (omega (arith, (is i).1))), eq-eqb t (f i).type (p ∙ sym (is i).0)) (hit p j q (suc i) n (omega arith) (omega arith))
      ]

  -- where none has it, the groups after them do
  miss : (i n : ℕ) → ((j : ℕ) → i ≤ j → j < i + n → t ≡ T → u ≡ K + j → ⊥) → find_among t u a (map at (from i n) ++ ss) ≡ find_among t u a ss
  unfolding find_among from
  miss i zero none = refl
  miss i (suc n) none =
      let more = miss (suc i) n (λ j l h. none j (omega arith) (omega arith)) in
      elim (ℕ_discrete t (f i).type) [
        | yes e ↦ rw (ne_eqb u (f i).sub_type (λ x. none i (omega arith) (omega arith) (e ∙ (is i).0) (x ∙ (is i).1)), eq-eqb t (f i).type e) more
        | no e ↦ rw (ne_eqb t (f i).type e) more
      ]

stage_is : (n : ℕ) → ((stage n).type ≡ 0x02) × ((stage n).sub_type ≡ 0x00 + n)
unfolding stage
stage_is n = (refl, refl)

sample_is : (n : ℕ) → ((sample n).type ≡ 0x02) × ((sample n).sub_type ≡ 0x20 + n)
unfolding sample
sample_is n = (refl, refl)

abbrev samples : List Section
samples = map sample_section (from 0 16) ++ sections_video

-- past the target's group, the stages and then the samples are asked; no lookup of a 3D register finds anything among the video rows
module _ (t u : ℕ) (a : SubAddress) where
  abbrev rest : Option Cell
  rest = find_among t u a (map stage_section (from 0 16) ++ samples)

  first : find_3d t u a ≡ cond (eqb t 0x01 && eqb u 0x00) (among a target_group.rows) rest
  unfolding find_3d sections target_group find_among
  first =
      ap (λ (ss : List Section). cond (eqb t 0x01 && eqb u 0x00) (among a target_group.rows) (find_among t u a ss))
      (append_assoc (map stage_section (from 0 16)) (map sample_section (from 0 16)) sections_video)

  none_left : find_among t u a sections_video ≡ None
  unfolding find_among
  none_left = refl

  no_stage : ((j : ℕ) → j < 16 → t ≡ 0x02 → u ≡ j → ⊥) → rest ≡ find_among t u a samples
  no_stage no_j = miss stage 0x02 0x00 stage_is t u a samples 0 16 (λ j l h p q. no_j j h p (omega arith))

  no_sample : ((j : ℕ) → j < 16 → t ≡ 0x02 → u ≡ 0x20 + j → ⊥) → find_among t u a samples ≡ None
  no_sample no_j = miss sample 0x02 0x20 sample_is t u a sections_video 0 16 (λ j l h p q. no_j j h p q) ∙ none_left

  -- a type that has neither
  neither : (t ≡ 0x02 → ⊥) → rest ≡ None
  neither n = no_stage (λ j h p q. n p) ∙ no_sample (λ j h p q. n p)

  nothing : among a [] ≡ None
  unfolding find
  nothing = refl

  by_sub_type : t ≡ 0x02 → rest ≡ among a (cond (leb u 0x0F) (stage u).rows (cond (within 0x20 0x2F u) (sample (u - 0x20)).rows []))
  by_sub_type p =
      elim (dec_lt 0x0F u) [
        | no l ↦ rw (le-leb u 0x0F (omega arith)) (hit stage 0x02 0x00 stage_is t u a samples p u (omega arith) 0 16 (omega arith) (omega arith))
        | yes l ↦ rw (lt-leb u 0x0F l) (no_stage (λ j h q e. omega arith)
            ∙ elim (dec_lt u 0x20) [
              | yes m ↦ rw (lt-leb 0x20 u m, nothing) (no_sample (λ j h q e. omega arith))
              | no m ↦ elim (dec_lt 0x2F u) [
                | yes n ↦ rw (le-leb 0x20 u (omega arith), lt-leb u 0x2F n, nothing) (no_sample (λ j h q e. omega arith))
                | no n ↦ rw (le-leb 0x20 u (omega arith), le-leb u 0x2F (omega arith))
                    (hit sample 0x02 0x20 sample_is t u a sections_video p (u - 0x20) (omega arith) 0 16 (omega arith) (omega arith))
              ]
            ])
      ]

  -- R19 "The name of a 3D register is its type, its sub-type and its sub-address, all three"
  pub by_rows : find_3d t u a ≡ among a (rows_of t u)
  unfolding rows_of
  by_rows =
      first
      ∙ elim (ℕ_discrete t 0x01) [
        | yes e ↦ elim (ℕ_discrete u 0x00) [
          | yes f ↦ rw (eq-eqb t 0x01 e, eq-eqb u 0x00 f)
          | no f ↦ rw (eq-eqb t 0x01 e, ne_eqb u 0x00 f, nothing) (neither (λ p. omega arith))
        ]
        | no e ↦ elim (ℕ_discrete t 0x02) [
          | yes f ↦ rw (ne_eqb t 0x01 e, eq-eqb t 0x02 f) (by_sub_type f)
          | no f ↦ rw (ne_eqb t 0x01 e, ne_eqb t 0x02 f, nothing) (neither f)
        ]
      ]

-- rows whose names and cells go up by one, from a name and a cell on
abbrev pub InOrder : ℕ → ℕ → List (Row SubAddress) → Type 0
InOrder lo c [] = Unit {0}
InOrder lo c (r ∷ rs) = (r.name.0 ≡ lo) × (r.cell.0 ≡ c) × InOrder (suc lo) (suc c) rs

one_on : (x lo c n : ℕ) → (x ≡ lo → ⊥)
    → cond (leb (suc lo) x && ltb x (suc lo + n)) (Some (cell (suc c + (x - suc lo)))) None ≡ cond (leb lo x && ltb x (lo + suc n)) (Some (cell (c + (x - lo)))) None
one_on x lo c n e =
    let m : suc lo + n ≡ lo + suc n = omega arith in
    elim (dec_lt x lo) [
      | yes l ↦ rw (lt-leb lo x l, lt-leb (suc lo) x (omega arith))
      | no l ↦ let k : suc c + (x - suc lo) ≡ c + (x - lo) = omega arith in rw (le-leb lo x (omega arith), le-leb (suc lo) x (omega arith), m, k)
    ]

-- the range of their names tells the cell
pub in_order : (a : SubAddress) (lo c : ℕ) (rs : List (Row SubAddress)) → InOrder lo c rs
    → among a rs ≡ cond (leb lo a.0 && ltb a.0 (lo + length rs)) (Some (cell (c + (a.0 - lo)))) None
unfolding find
in_order a lo c [] o =
    elim (dec_lt a.0 lo) [
      | yes l ↦ rw (lt-leb lo a.0 l)
      | no l ↦ rw (le-leb lo a.0 (omega arith), le-ltb a.0 (lo + 0) (omega arith))
    ]
in_order a lo c (r ∷ rs) o =
    elim (ℕ_discrete a.0 r.name.0) [
      | yes e ↦ rw (eq-eqb a.0 r.name.0 e, le-leb lo a.0 (omega (arith, o.0)), lt-ltb a.0 (lo + suc (length rs)) (omega (arith, o.0)))
          (ap (λ (n : ℕ). Some (cell n)) (omega (arith, o.0, o.1)))
      | no e ↦ rw (ne_eqb a.0 r.name.0 e) (in_order a (suc lo) (suc c) rs o.2 ∙ one_on a.0 lo c (length rs) (λ x. e (x ∙ sym o.0)))
    ]

-- the lookup as a tree of tests
unfoldable pub tree_3d : ℕ → ℕ → ℕ → Option Cell
tree_3d t u a =
    cond (eqb t 0x01) (cond (eqb u 0x00) (cond (eqb a 0x3F) (Some (cell 0)) (ranged 0x50 3 1 a)) None)
    (cond (eqb t 0x02) (cond (leb u 0x0F) (ranged 0x50 2 (4 + 2 * u) a) (cond (within 0x20 0x2F u) (ranged 0x30 3 (36 + 3 * (u - 0x20)) a) None)) None)

-- a lookup goes into the branches of a test
among_cond : (a : SubAddress) (b : Bool) (rs ss : List (Row SubAddress)) → among a (cond b rs ss) ≡ cond b (among a rs) (among a ss)
among_cond a true rs ss = refl
among_cond a false rs ss = refl

-- the rows after the first
abbrev others : List (Row SubAddress) → List (Row SubAddress)
others [] = []
others (r ∷ rs) = rs

target_rows : (a : SubAddress) → among a target_group.rows ≡ cond (eqb a.0 0x3F) (Some (cell 0)) (ranged 0x50 3 1 a.0)
unfolding target_group find
target_rows a = ap (cond (eqb a.0 0x3F) (Some (cell 0))) (in_order a 0x50 1 (others target_group.rows) (refl, refl, (refl, refl, (refl, refl, tt))))

stage_rows : (n : ℕ) (a : SubAddress) → among a (stage n).rows ≡ ranged 0x50 2 (4 + 2 * n) a.0
unfolding stage
stage_rows n a = in_order a 0x50 (4 + 2 * n) _ (refl, refl, (refl, omega arith, tt))

sample_rows : (n : ℕ) (a : SubAddress) → among a (sample n).rows ≡ ranged 0x30 3 (36 + 3 * n) a.0
unfolding sample
sample_rows n a = in_order a 0x30 (36 + 3 * n) _ (refl, refl, (refl, omega arith, (refl, omega arith, tt)))

pub by_tree : (t u : ℕ) (a : SubAddress) → find_3d t u a ≡ tree_3d t u a.0
unfolding tree_3d rows_of
by_tree t u a =
    by_rows t u a ∙ rw (
      among_cond a (eqb t 0x01),
      among_cond a (eqb u 0x00),
      among_cond a (eqb t 0x02),
      among_cond a (leb u 0x0F),
      among_cond a (within 0x20 0x2F u),
      target_rows a,
      stage_rows u a,
      sample_rows (u - 0x20) a,
      nothing t u a,
    )
