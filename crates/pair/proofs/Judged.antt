-- What the code judges is the pair of the definitions, where the grants that are kept are those of a list; and what its tests come to.
-- Assumes nothing.
use mathlib.Core.Path.{◌≡◌, refl, sym, ◌∙◌}
use mathlib.Core.Bool.{Bool, true, false, ◌&&◌}
use mathlib.Core.List.{List}
use Prim.Native.Nat.{ℕ, ◌*◌, ◌<◌, ◌^◌}
use native.Mathlib.Omega.{arith}
use native.Mathlib.Decide.{dec_lt}
use borrow.Author.Tests.{lt-ltb, le-ltb}
use lib.Dec.{T, ltb, eqb}
use mir.Facts.{and_yes, ltb_yes, eqb_yes}
use Rattle.laws.specs.Tests.{implies}
use Rattle.laws.proofs.Tests.{true_of, holds_of}
use Rattle.meaning.specs.declared.Memory.TheVariants.{Only}
use Rattle.meaning.specs.Grants.{grants_of, grants_fine, terms_of, is_grant, which}
use Rattle.meaning.specs.State.{value_at}
use Rattle.meaning.specs.Pair.{target_cell, memory_named, memory_of, target_of, pair_fine}
use Rattle.numbering.proofs.Grants.{fine_list}
use Rattle.numbering.proofs.Numbering.{granted_which, past_end}
use Rattle.grants.specs.declared.Part.{Part}
use Rattle.grants.specs.declared.RoleGrants.{RoleGrants}
use Rattle.grants.specs.Kept.{Names, part_of, which_in}
use Rattle.pair.specs.declared.Pair.{Pair}
use Rattle.pair.specs.Judged.{pair_of, which_pair, fine_in, fine_by}

-- ---- the pair of a state under a list

module _ (ws : List ℕ) (fine : T (grants_fine ws)) (starts lasts numbers bounds : List ℕ) (names : Names (terms_of ws) starts lasts numbers bounds) (st : List ℕ) where
  abbrev part : Part
  part = part_of bounds 1

  -- the grant that is told is the one that admits the address in its memory
  pub which_is : which_pair starts lasts numbers part (pair_of st) ≡ which (grants_of ws) (Only (memory_of st)) 1 (target_of st)
  unfolding which_pair memory_of
  which_is =
      elim (dec_lt (value_at st target_cell) (2 ^ 24)) [
        | yes l ↦ rw (lt-ltb (value_at st target_cell) (2 ^ 24) l) (sym (names (Only (memory_of st)) 1 (omega arith) (omega arith) (target_of st)))
        | no l ↦ rw (le-ltb (value_at st target_cell) (2 ^ 24) (omega arith))
            (sym (past_end 0 (grants_of ws) (Only (memory_of st)) 1 (target_of st) (fine_list ws fine).2 (omega arith)))
      ]

  -- and the pair is fine where it is
  pub fine_is : fine_in starts lasts numbers part (pair_of st) ≡ pair_fine (terms_of ws) st
  unfolding fine_in pair_fine
  fine_is = rw (which_is, granted_which (grants_of ws) (Only (memory_of st)) 1 (target_of st))

-- ---- an address that is known

-- where it is granted in memory 0, if it has the mark that is asked for, and that is its memory, the pair is fine
pub settled_fine : (r : RoleGrants) (p : Pair) {known s : Bool} {mark : ℕ}
    → (known ≡ true → 0 < mark → (p.target < 2 ^ 24) × T (is_grant (which_in r.starts.now r.lasts.now r.numbers.now r.part (Only 0) (p.target * 256))))
    → s ≡ (known && (ltb 0 mark && eqb (memory_named p.located p.location) 0)) → s ≡ true → true ≡ fine_by r p
unfolding fine_in which_pair
settled_fine r p {known} {s} {mark} granted told t =
    let all = and_yes known _ (holds_of (sym told ∙ t)) in
    let both = and_yes (ltb 0 mark) _ all.1 in
    let here = granted (true_of known all.0) (ltb_yes both.0) in
    sym (implied (ltb 0 p.marked)
    (rw (lt-ltb p.target (2 ^ 24) here.0, eqb_yes both.1) (true_of (is_grant (which_in r.starts.now r.lasts.now r.numbers.now r.part (Only 0) (p.target * 256))) here.1)))
  where
    implied : (x : Bool) {y : Bool} → y ≡ true → implies x y ≡ true
    implied true y = y
    implied false y = refl
