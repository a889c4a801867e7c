-- What is promised of the test of an address, and of the query: which grant admits it.
-- Assumes nothing.
use Rattle.std.specs.Prelude.{Option, Some, None}
use mathlib.Core.Path.{◌≡◌, refl, sym, ap, subst, ◌∙◌}
use mathlib.Core.Logic.{◌↔◌, ◌≢◌}
use mathlib.Core.List.{List, [], ◌∷◌, ◌++◌}
use Prim.Native.Nat.{ℕ, ◌*◌, ◌≤◌, ◌<◌}
use native.Mathlib.Omega.{arith}
use native.Mathlib.Decide.{ℕ_discrete}
use borrow.Author.Tests.{ne_eqb}
use lib.Dec.{T}
use Rattle.laws.specs.Lists.{All, some}
use Rattle.laws.specs.Tests.{within}
use Rattle.laws.proofs.Lists.{all_split}
use Rattle.laws.proofs.Tests.{true_of, within_iff, or_left, or_right}
use Rattle.meaning.specs.declared.Memory.{Memory}
use Rattle.meaning.specs.declared.Memory.TheVariants.{Either}
use Rattle.meaning.specs.Words.{Byte, words_of}
use Rattle.meaning.specs.Registers.{cells, cell, Content, nothing, address, target_group, sections, register_among, register_in, register_at}
use Rattle.meaning.specs.Grants.{Grant, grants_of, grants_fine, terms_of, granted, which, is_grant}
use Rattle.meaning.specs.Batch.{Cut}
use Rattle.meaning.specs.State.{value_at, mark_at, well_formed, Write, all_writes}
use Rattle.meaning.specs.Pair.{target_cell, looked_at, target_of, wrote_pair}
use Rattle.meaning.specs.Answers.{Answer, answer, answer_in}
use Rattle.meaning.specs.Exported.{exported_which_grant}
use Rattle.meaning.specs.Reasons.{HoldsAddress, QueryGives, admitted}
use Rattle.meaning.specs.Fitter.{Inside, LowestOf, NoneOf, OfAddress, Stores, OfTarget}
use Rattle.meaning.proofs.Bytes.{number_tells}
use Rattle.meaning.proofs.Exactly.{read_told, accepted_parts}
use Rattle.meaning.proofs.Fitter.{granted_iff}
use Rattle.meaning.proofs.Round.{packets_low}
use Rattle.numbering.proofs.Grants.{length_grants, fine_list}
use Rattle.numbering.proofs.Numbering.{granted_which, numbered_low, lowest_iff, none_iff}
use Rattle.numbering.proofs.Answers as theory
use Rattle.keeping.proofs.Keeping.{names}
use Rattle.irangelda.proofs.Buffers.{two_13}
use Rattle.query.proofs.which_grant.Reads as which_grant
use Rattle.irangelda.proofs.irangelda_which_grant.Reads as irangelda_which_grant
use Rattle.promises.proofs.Promises.{last_write_holds, stays_well_formed, nothing_outside_a_grant, one_cut}
use Rattle.promises.proofs.Driver.{by_bad_buffer}
use Rattle.promises.specs.CallContracts.{Reading, Querying, Testing, QueryingBytes, TwoBuffers, Tells, BadBuffer}

-- ==== The contracts

-- what `query::which_grant` is proved to do, for any buffers that are lent to it and any number,
pub queries : (κs : _) (a : _) (r : _) (s : _) → which_grant.Learnt κs a r s → Querying a.0.now a.1.0.now a.1.1.0.0 (answer_in r)
queries κs a r s p = p

-- and `irangelda_which_grant`
pub queries_bytes : (κs : _) (a : _) (r : _) (s : _) → irangelda_which_grant.Learnt κs a r s → QueryingBytes a.0.now a.1.0.now a.1.1.0 r
queries_bytes κs a r s p = p

-- ==== The test of an address, as reader, writer, engine and query make it

module _ (ws : List ℕ) (m : Memory) (role a : ℕ) (w : Option ℕ) (fine : T (grants_fine ws)) (low : 1 ≤ role) (high : role < 4) (test : Testing ws m role a w) where
  -- it is the definition's
  test_is : w ≡ which (grants_of ws) m role a
  test_is = test.told ∙ sym (names ws test.starts test.lasts test.numbers (true_of (grants_fine ws) fine) test.room m role low high a)

  -- G8 "The grant that admits an address of a role is the lowest-numbered one by which the role is granted it": that one is told, and no other,
  -- in whichever memory, and G10 "what G8 says holds there of the grants in it" in one
  pub which_is_the_lowest : (n : ℕ) → (w ≡ Some n) ↔ LowestOf (grants_of ws) m role a n
  which_is_the_lowest n = rw test_is (lowest_iff (grants_of ws) m role a n)

  -- G8 "nobody admits it exactly if there is none."
  pub nobody_exactly : (w ≡ None) ↔ NoneOf (grants_of ws) m role a
  nobody_exactly = rw test_is (none_iff (grants_of ws) m role a)

  -- so that an address is granted exactly if some grant is told
  pub granted_by_some_grant : is_grant w ≡ granted (grants_of ws) m role a
  granted_by_some_grant = rw test_is (sym (granted_which (grants_of ws) m role a))

-- ==== The query

-- `st` and `grants` are the bytes that were lent, of any length, and c is any number
module _ (st grants : List ℕ) (c : ℕ) (a : Answer) (query : Querying st grants c a) where
  -- A5 "A reason is given exactly if its row fits", and Q1 "its place is the number of the grant, or 64 if no grant is told": r at p exactly if
  -- the table says so
  pub query_exactly : (r p : ℕ) → (a ≡ answer r p) ↔ QueryGives (words_of st) (words_of grants) (cell c) r p
  query_exactly r p = rw query (theory.query_exactly (words_of st) (words_of grants) (cell c) r p)

-- ==== After an accepted batch

-- an address inside a grant is admitted by one
inside_named : (ws : List ℕ) → T (grants_fine ws) → (m : Memory) (role x : ℕ) → Inside (grants_of ws) m role x → (n : ℕ) × ((n < 64) × LowestOf (grants_of ws) m role x n)
inside_named ws fine m role x i = by_which (which (grants_of ws) m role x) refl
  where
    by_which : (w : Option ℕ) → which (grants_of ws) m role x ≡ w → (n : ℕ) × ((n < 64) × LowestOf (grants_of ws) m role x n)
    by_which (Some n) e =
        let l = (lowest_iff (grants_of ws) m role x n).0 e in
        (n, (omega (arith, numbered_low n l.grant (grants_of ws) l.numbered, length_grants ws, (fine_list ws fine).1), l))
    by_which None e =
        let t : T (is_grant None) = subst (λ (w : Option ℕ). T (is_grant w)) e (subst T (granted_which (grants_of ws) m role x) ((granted_iff (grants_of ws) m role x).1 i)) in
        absurd t

-- in one memory is in some
in_some : (ours : List Grant) (m : Memory) (role x : ℕ) → Inside ours m role x → Inside ours Either role x
in_some ours m role x i =
    record { grant = i.grant; listed = i.listed; admits = record { lies = tt; role_is = i.admits.role_is; from = i.admits.from; to = i.admits.to } }

-- a write to cell 1 is one to the pair
wrote_pair_lem : (before : List Write) (w : Write) (later : List Write) → w.cell.0 ≡ 1 → T (wrote_pair (before ++ w ∷ later))
unfolding wrote_pair some
wrote_pair_lem [] w later e = or_left (within 1 2 w.cell.0) _ ((within_iff 1 2 w.cell.0).1 (omega arith, omega arith))
wrote_pair_lem (x ∷ before) w later e = or_right (within 1 2 x.cell.0) _ (wrote_pair_lem before w later e)

-- what the target's register holds
target_held : (v : ℕ) {role x : ℕ} → (register_at target_cell).holds v ≡ address role x → (role ≡ 1) × (x ≡ v * 256)
unfolding register_at register_in register_among sections target_group
target_held v e = (sym (ap role_in e), sym (ap address_in e))
  where
    role_in : Content → ℕ
    role_in nothing = 0
    role_in (address r a) = r

    address_in : Content → ℕ
    address_in nothing = 0
    address_in (address r a) = a

module _ (batch grants st : List ℕ) (a : Answer) (left : List ℕ) (read : Reading batch grants st a left) (b : All Byte batch) (s : All Byte st) (done : a.reason ≡ 0) where
  abbrev gs : List ℕ
  gs = words_of grants

  -- 1 and 2 do not speak against the state that is left, nor against the grants
  parts : T (well_formed (words_of left)) × T (grants_fine gs)
  parts =
      let both = accepted_parts (words_of batch) gs (words_of st) (read_told (words_of batch) gs (words_of st)) (rw read.0 at done) in
      (stays_well_formed batch grants st a left read b s both.0, both.1)

  -- the target's address, in the memory that cell 2 names
  in_target : (w : Write) (role x : ℕ) → (register_at w.cell).holds w.value ≡ address role x
      → (value_at (words_of left) w.cell ≡ w.value) × (mark_at (words_of left) w.cell ≡ 1) → w.cell ≡ target_cell → OfTarget (Inside (grants_of gs)) (words_of left)
      → Inside (grants_of gs) (looked_at (words_of left) w.cell) role x
  in_target w role x held is e target =
      let its = target_held w.value (rw e at held) in
      let mark : 0 < mark_at (words_of left) target_cell = omega (arith, rw e at is.1) in
      let same : target_of (words_of left) ≡ w.value * 256 = ap (λ (v : ℕ). v * 256) (rw e at is.0) in
      rw (e, its.0, its.1, ← same) (target mark)

  -- D7 "After an accepted batch the query, under the same grants, names a grant for every cell with an address that the batch wrote, and it is
  -- the grant that G8 has": of the last write to a cell, S6 "the last write holds"
  pub written_addresses_are_named : (c : Cut (terms_of gs) (words_of batch)) (before : List Write) (w : Write) (later : List Write)
      → all_writes c.packets ≡ before ++ w ∷ later → All (λ x. x.cell.0 ≢ w.cell.0) later
      → (role x : ℕ) → (register_at w.cell).holds w.value ≡ address role x → (q : Answer) → Querying left grants w.cell.0 q
      → (n : ℕ) × ((q ≡ answer 0 n) × ((n < 64) × LowestOf (grants_of gs) (looked_at (words_of left) w.cell) role x n))
  written_addresses_are_named c before w later split other role x held q query =
      let is = last_write_holds batch grants st a left read b s done c before w later split other in
      let low : w.cell.0 < cells =
      (all_split (λ (y : Write). y.cell.0 < cells) before (w ∷ later) (rw split at (packets_low (terms_of gs) c.packets c.permitted))).1.0 in
      let all = nothing_outside_a_grant batch grants st a left read b s done in
      let same = one_cut (terms_of gs) (words_of batch) all.0 c in
      let writes : all_writes all.0.packets ≡ before ++ w ∷ later = ap all_writes same ∙ split in
      let stored : Stores (Inside (grants_of gs)) w =
      (all_split (Stores (Inside (grants_of gs))) before (w ∷ later) (rw writes at all.1.each)).1.0 in
      let there : Inside (grants_of gs) (looked_at (words_of left) w.cell) role x =
      elim (ℕ_discrete w.cell.0 1) [
        | yes e ↦ in_target w role x held is (ap cell e) (all.1.target (rw writes (wrote_pair_lem before w later e)))
        | no n ↦ rw (ne_eqb w.cell.0 1 n) (in_some (grants_of gs) _ role x (subst (OfAddress (Inside (grants_of gs))) held stored))
      ] in
      let found = inside_named gs parts.1 (looked_at (words_of left) w.cell) role x there in
      let holds : HoldsAddress (words_of left) w.cell role x =
      record { there = low; marked = omega (arith, is.1); held = ap (register_at w.cell).holds is.0 ∙ held } in
      (found.0, ((query_exactly left grants w.cell.0 q query 0 found.0).1 (admitted parts.0 parts.1 holds found.1.1), found.1))

-- ==== The call of the driver

module _ (st grants : List ℕ) (c : ℕ) (n : ℕ) (call : QueryingBytes st grants c n) where
  -- C3 "A C call answers one number: place × 256 + reason.": the number tells both
  pub query_number_tells_both : Tells n (exported_which_grant st grants (cell c))
  query_number_tells_both = rw call (number_tells _ (theory.which_call_range st grants (cell c)))

  -- Y13 "a buffer has more than 65,536 bytes, or a buffer of words has a length that is no multiple of 4"
  pub query_bad_buffer_exactly : BadBuffer n (TwoBuffers st grants)
  unfolding exported_which_grant
  query_bad_buffer_exactly = by_bad_buffer n _ call query_number_tells_both (theory.which_13_exactly st grants (cell c)) (two_13 st grants _)

  -- what 13 lets through is the query on the same bytes, so that every promise of the query is one of this call
  pub query_call_is_the_query : TwoBuffers st grants → (a : Answer) × Tells n a × Querying st grants c a
  query_call_is_the_query fine =
      (exported_which_grant st grants (cell c), query_number_tells_both, theory.which_call st grants (cell c) fine)
