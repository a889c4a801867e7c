-- What is kept of an accepted batch: each address that it writes is granted, and where it writes the pair the target's in its memory.
-- Assumes nothing.
use mathlib.Core.Path.{◌≡◌}
use mathlib.Core.List.{List}
use Prim.Native.Nat.{ℕ, ◌/◌, ◌%◌, ◌≤◌, ◌<◌, ◌^◌}
use native.Mathlib.Omega.{arith}
use lib.Dec.{T, leb, eqb}
use lib.ListN.{length}
use mir.Facts.{and_yes}
use Rattle.laws.specs.Lists.{every}
use Rattle.meaning.specs.declared.Memory.TheVariants.{Only}
use Rattle.meaning.specs.Grants.{Grant, grant_words, grants_of, grant_fine, most_grants, grants_fine, granted, Terms, terms_of}
use Rattle.meaning.specs.Batch.{Cut}
use Rattle.meaning.specs.State.{all_writes}
use Rattle.meaning.specs.Pair.{memory_of, target_of, pair_fine}
use Rattle.meaning.specs.Reader.{read_answer, read_leaves}
use Rattle.meaning.specs.Fitter.{Inside, Apart, Safe, OfTarget, EachKept}
use Rattle.meaning.proofs.Pairs.{pair_iff, kept_iff}
use Rattle.meaning.proofs.Exactly.{read_told, accepted_parts, accepted_permitted}
use Rattle.meaning.proofs.Round.{left_by_lem}
use Rattle.meaning.proofs.Fitter.{granted_iff, inside_rules, packets_inside, harmless, packets_safe}

-- ---- grants that keep their rules

pub each_fine : (grants : List ℕ) → T (grants_fine grants) → T (every grant_fine (grants_of grants))
unfolding grants_fine
each_fine grants t = (and_yes (leb (length grants / grant_words) most_grants) _ (and_yes (eqb (length grants % grant_words) 0) _ t).1).1

-- of the grants that a batch was accepted under
pub accepted_fine : (batch grants st : List ℕ) → (read_answer batch grants st).reason ≡ 0 → T (every grant_fine (grants_of grants))
accepted_fine batch grants st e = each_fine grants (accepted_parts batch grants st (read_told batch grants st) e).1

-- S8 "2 and 3 name no memory, and no address is granted there", and no address of 2^32 or more is granted anywhere
pub nowhere_else : (gs : List Grant) → T (every grant_fine gs) → (m role a : ℕ) → T (granted gs (Only m) role a) → (m ≤ 1) × (a < 2 ^ 32)
nowhere_else gs fine m role a t =
    let i = (granted_iff gs (Only m) role a).0 t in
    let x = inside_rules gs fine i in
    let h = i.admits in
    (omega (arith, x.memory, h.lies), omega (arith, x.end, x.reach, h.to))

-- ---- the target

-- S9 "its address is granted to role 1 in the memory that cell 2 names": said as a fact
pub fine_target : (g : Terms) (st : List ℕ) → T (pair_fine g st) → OfTarget (Inside g.grants) st
fine_target g st t m = (granted_iff g.grants (Only (memory_of st)) 1 (target_of st)).0 ((pair_iff g st).0 t m)

pub safe_target : (ours theirs : List Grant) → Apart ours theirs → (st : List ℕ) → OfTarget (Inside ours) st → OfTarget (Safe ours theirs) st
safe_target ours theirs apart st i m = (i m, harmless ours theirs apart (Only (memory_of st)) 1 (target_of st))

-- ---- an accepted batch

pub inside_kept : (batch grants st : List ℕ) → (read_answer batch grants st).reason ≡ 0
    → (c : Cut (terms_of grants) batch) × EachKept (Inside (grants_of grants)) (all_writes c.packets) (read_leaves batch grants st)
inside_kept batch grants st e =
    let g = terms_of grants in
    let p = accepted_permitted batch grants st e in
    let c = p.cut in (
      c,
      record {
        each = packets_inside g (accepted_fine batch grants st e) c.packets c.permitted;
        target = λ w. fine_target g (read_leaves batch grants st) (rw (left_by_lem batch grants st e c) ((kept_iff g st (all_writes c.packets)).0 p.pair w));
      },
    )

-- where no byte of one memory is granted to both programs, it touches nothing that is granted to the other
pub safe_kept : (batch ours theirs st : List ℕ) → Apart (grants_of ours) (grants_of theirs) → (read_answer batch ours st).reason ≡ 0
    → (c : Cut (terms_of ours) batch) × EachKept (Safe (grants_of ours) (grants_of theirs)) (all_writes c.packets) (read_leaves batch ours st)
safe_kept batch ours theirs st apart e =
    let alone = inside_kept batch ours st e in
    let c = alone.0 in (
      c,
      record {
        each = packets_safe (terms_of ours) (accepted_fine batch ours st e) (grants_of theirs) apart c.packets c.permitted;
        target = λ w. safe_target (grants_of ours) (grants_of theirs) apart (read_leaves batch ours st) (alone.1.target w);
      },
    )
