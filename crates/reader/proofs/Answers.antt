-- The reader's answer and the bytes after it, by what its tests came to.
-- Assumes nothing.
use mathlib.Core.Path.{◌≡◌, sym, ap, ◌∙◌}
use mathlib.Core.Bool.{Bool, true, false}
use mathlib.Core.List.{List}
use Prim.Native.Nat.{ℕ}
use lib.Dec.{eqb}
use lib.ListN.{length, get_or}
use mir.Facts.{and_yes, eqb_yes}
use Rattle.laws.proofs.Tests.{holds_of}
use Rattle.meaning.specs.declared.Reason.{Reason}
use Rattle.meaning.specs.declared.Kind.TheVariants.{Setting}
use Rattle.meaning.specs.Grants.{Terms, terms_of, grants_fine}
use Rattle.meaning.specs.State.{state_words, mark_at, well_formed, Write, apply_all}
use Rattle.meaning.specs.Pair.{target_cell, location_cell, pair_kept}
use Rattle.meaning.specs.Positions.{writes_of}
use Rattle.meaning.specs.Answers.{Answer, bad_state, bad_grants, bad_pair, success, answer, number}
use Rattle.meaning.proofs.Refusals.{refused as no_success}
use Rattle.meaning.specs.Reader.{batch_answer, read_answer, read_leaves}
use Rattle.grants.specs.declared.Kept.{Kept}
use Rattle.grants.specs.declared.RoleGrants.{RoleGrants}
use Rattle.grants.specs.Kept.{Names, part_of}
use Rattle.grants.specs.Held.{OfRole}
use Rattle.keeping.proofs.Keeping.{Lent, KeptFrom, names_after, near_after}
use Rattle.pair.specs.Marks.{cleared, restored}
use Rattle.pair.specs.Judged.{kept_by, KnownBy}
use Rattle.pair.proofs.Marks.{cleared_length, restored_is, writes_low}
use Rattle.pair.proofs.Ends.{kept_is, refused, bad, good, known_local}
use Rattle.bodies.specs.Passes.{Comes}
use Rattle.packets.specs.Packets.{packets_from}
use Rattle.packets.proofs.Packets.{answered, wrote, same_size}

-- a well-formed state is whole
pub whole : (st : List ℕ) → well_formed st ≡ true → length st ≡ state_words
unfolding well_formed
whole st e = eqb_yes (and_yes (eqb (length st) state_words) _ (holds_of e)).0

-- ---- before the batch is read

module _ (batch grants st : List ℕ) where
  pub state_refused : well_formed st ≡ false → answer bad_state 0 ≡ read_answer batch grants st
  unfolding read_answer
  state_refused e = rw e

  pub grants_refused : well_formed st ≡ true → grants_fine grants ≡ false → answer bad_grants 0 ≡ read_answer batch grants st
  unfolding read_answer
  grants_refused e f = rw (e, f)

-- ---- once it is

-- the packets are read on a copy of the state without the marks of the pair, under grants that are kept in the room for starts, lasts, numbers
-- and bounds
pub record ReadOn (batch grants st starts lasts numbers bounds : List ℕ) (a : Answer) (after : List ℕ) : Type 0 where
  pub formed : well_formed st ≡ true
  pub fine : grants_fine grants ≡ true
  pub s : List ℕ
  pub l : List ℕ
  pub n : List ℕ
  pub lent : Lent s l n
  pub kept : KeptFrom grants s l n starts lasts numbers bounds
  pub own : List ℕ
  pub copied : own ≡ cleared st
  pub read : Comes a after (packets_from (terms_of grants) 0 Setting 0 batch own)

-- the target's grants are those that are kept there
pub record Targets (q : RoleGrants) (s l n b : List ℕ) : Type 0 where
  pub starts : q.starts.now ≡ s
  pub lasts : q.lasts.now ≡ l
  pub numbers : q.numbers.now ≡ n
  pub part : q.part ≡ part_of b 1

pub targets : {k : Kept} {q : RoleGrants} → OfRole k 1 q → Targets q k.starts.now k.lasts.now k.numbers.now k.bounds.now
targets o = record { starts = rw o.starts; lasts = rw o.lasts; numbers = rw o.numbers; part = o.part }

module _ {batch grants st starts lasts numbers bounds : List ℕ} {a : Answer} {after : List ℕ} (r : ReadOn batch grants st starts lasts numbers bounds a after) where
  abbrev g : Terms
  g = terms_of grants

  abbrev writes : List Write
  writes = writes_of batch

  told : a ≡ batch_answer g batch
  told = r.read.0 ∙ answered g batch r.own

  pub own_size : length after ≡ state_words
  own_size = ap length r.read.1 ∙ same_size g 0 Setting 0 batch r.own ∙ ap length r.copied ∙ cleared_length st ∙ whole st r.formed

  pub batch_refused : (e : Reason) → a.reason ≡ number e → a ≡ read_answer batch grants st
  unfolding read_answer
  batch_refused e is = rw (r.formed, r.fine) (refused g st batch told (λ z. no_success e (sym is ∙ z)))

  -- no word is refused
  module _ {p : ℕ} (z : a ≡ answer success p) where
    fine : a.reason ≡ 0
    fine = rw z

    accepted : (batch_answer g batch).reason ≡ 0
    accepted = sym (ap (λ (x : Answer). x.reason) told) ∙ fine

    -- the copy behind the batch
    written : after ≡ apply_all (cleared st) writes
    written = r.read.1 ∙ wrote g batch r.own (sym (ap (λ (x : Answer). x.reason) r.read.0) ∙ fine) ∙ ap (λ (x : List ℕ). apply_all x writes) r.copied

    names : Names g starts lasts numbers bounds
    names = (names_after grants r.s r.l r.n r.lent r.fine r.kept).0

    module _ {q : RoleGrants} (t : Targets q starts lasts numbers bounds) where
      -- where no grant is in memory 1, the words have been judged in memory 0
      pub known : {k : Bool} → k ≡ eqb (get_or bounds 4 0) 0 → k ≡ true → KnownBy q after
      known is e =
          rw (t.starts, t.lasts, t.numbers, t.part, written)
          (known_local grants starts lasts numbers bounds names (near_after grants r.s r.l r.n r.lent r.fine r.kept (eqb_yes (holds_of (sym is ∙ e)))) st batch (whole st r.formed) accepted)

      -- by what is judged of the pair, from the marks that the state has
      module _ {m o : ℕ} (first : m ≡ mark_at st target_cell) (second : o ≡ mark_at st location_cell) {b : Bool} (judged : b ≡ kept_by q m o after) where
        pair_kept_lem : b ≡ pair_kept g st writes
        pair_kept_lem =
            judged
            ∙ rw (t.starts, t.lasts, t.numbers, t.part, first, second, written)
            (kept_is grants (holds_of r.fine) starts lasts numbers bounds names st (whole st r.formed) writes (writes_low g batch accepted))

        pub pair_refused : b ≡ false → answer bad_pair p ≡ read_answer batch grants st
        unfolding read_answer
        pair_refused x = rw (r.formed, r.fine) (rw z at (bad g st batch told fine pair_kept_lem x))

        -- the copy takes the state's place, its marks given back
        pub accepts : b ≡ true → answer success p ≡ read_answer batch grants st
        unfolding read_answer
        accepts x = rw (r.formed, r.fine) (sym z ∙ good g st batch told fine pair_kept_lem x)

        pub stores : b ≡ true → {back : List ℕ} → back ≡ restored m o after → back ≡ read_leaves batch grants st
        unfolding read_leaves
        stores x given = rw (← accepts x) (given ∙ rw (first, second, written) (restored_is st (whole st r.formed) writes (writes_low g batch accepted)))
