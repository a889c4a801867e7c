-- What an engine stands for: the words fed since it was opened. Whatever the contracts of its three calls allow keeps to that.
-- Assumes nothing.
use mathlib.Core.Path.{◌≡◌, refl, sym, ap, subst, ◌∙◌}
use mathlib.Core.Logic.{◌≢◌}
use mathlib.Core.Bool.{Bool, true, false, ◌&&◌, cond}
use mathlib.Core.List.{List, [], ◌∷◌, ◌++◌}
use Prim.Native.Nat.{ℕ, ◌+◌, ◌%◌, min, ◌≤◌, ◌<◌}
use native.Mathlib.Omega.{arith}
use native.Mathlib.Decide.{ℕ_discrete}
use lib.Dec.{T}
use lib.ListN.{take, length, get_or}
use lib.Seq.{length-take-le, get_or-append-add}
use Rattle.laws.specs.Lists.{from}
use Rattle.laws.proofs.Tests.{holds_of}
use Rattle.meaning.specs.Words.{words_of}
use Rattle.meaning.specs.Registers.{cells, cell}
use Rattle.meaning.specs.Grants.{Terms, terms_of, most_grants, grants_fine, grants_of}
use Rattle.meaning.specs.State.{well_formed, empty, state_words, mark_at, apply_all}
use Rattle.meaning.specs.Pair.{target_cell, location_cell, pair_kept}
use Rattle.meaning.specs.Positions.{writes_of}
use Rattle.meaning.specs.Answers.{Answer, success, answer}
use Rattle.meaning.specs.Engine as engine
use Rattle.meaning.proofs.States.{Formed, formed_iff}
use Rattle.meaning.proofs.Pairs.{Low}
use Rattle.pair.specs.Marks.{cleared}
use Rattle.pair.proofs.Marks.{restored_is, writes_low}
use Rattle.pair.proofs.Ends.{kept_is}
use Rattle.grants.specs.declared.Part.{Part}
use Rattle.grants.specs.Kept.{Granting, Keeps, Names, part_of}
use Rattle.grants.proofs.Keeping.{kept_some, names_keep}
use Rattle.keeping.specs.Keeping.{Kept, kept_of}
use Rattle.keeping.proofs.Keeping.{names, bounded, begun_first}
use Rattle.asking.specs.Asked.{capped, part_in}
use Rattle.asking.proofs.Next.{again_setting}
use Rattle.feeding.specs.Steps.{leaves}
use Rattle.feeding.proofs.Steps.{Stands, begun_stands, step_stands, closes_stands, leaves_stands, closes_refused, leaves_refused, taken_whole}
use Rattle.feeding.proofs.Promises.{Opens, by_bad_state, by_bad_grants, opens, opens_as, refused_at_opening, feed_is, close_is, leaves_is}
use Rattle.engine.specs.declared.Engine.{Engine}
use Rattle.engine.specs.declared.Closed.{Closed}
use Rattle.engine.specs.Bits.{marks_of, packed, bit_of}
use Rattle.engine.specs.Kept.{zeros, byte_bounds, before, blank, opened_with, opening, standing, pair_judged, behind}
use Rattle.promises.proofs.Marks.{packed_length, state_packed, cleared_packed}
use Rattle.engine.proofs.Bits.{mark_at_lem}
use Rattle.engine.proofs.Feeding.{fed_stays}
use Rattle.promises.proofs.Standing.{Sized, fed_stands, Same, fed_same}
use Rattle.promises.specs.CallContracts.{Feeding, Closing, Fed, just_opened, and_fed, answered, closing_answer}

-- what is kept of bounds that lie inside the room is the bounds
byte_part : (x y : ℕ) → x ≤ y → y ≤ most_grants → ◌≡◌ {A = Part} (record { from = x % 256; to = min (y % 256) most_grants }) (record { from = x; to = y })
byte_part x y l h =
    let e : x % 256 ≡ x = omega arith in
    let f : min (y % 256) most_grants ≡ y = omega arith in
    rw (e, f)

-- so they grant the same
byte_grants : (g : Terms) (role : ℕ) (starts lasts : List ℕ) (x y : ℕ) → x ≤ y → y ≤ most_grants → Granting g role starts lasts (record { from = x; to = y })
    → Granting g role starts lasts (record { from = x % 256; to = min (y % 256) most_grants })
byte_grants g role starts lasts x y l h k = subst (Granting g role starts lasts) (sym (byte_part x y l h)) k

-- the grants that e keeps name those of a list, and the target's stand in their part
pub record Named (g : Terms) (e : Engine) : Type 0 where
  pub bounds : List ℕ
  pub names : Names g e.starts e.lasts e.numbers bounds
  pub part : part_in e.bounds 1 ≡ part_of bounds 1

-- e was opened with the words of a state and of a grant list, and fed these words
pub record Holds (st grants ws : List ℕ) (e : Engine) : Type 0 where
  pub opens : opening e ≡ cond (well_formed st && grants_fine grants) st empty
  pub refused : (engine.engine_answer st grants engine.opening).reason ≢ 0 → answered e ≡ engine.engine_answer st grants engine.opening
  pub stands : (engine.engine_answer st grants engine.opening).reason ≡ 0 → Stands (terms_of grants) (cleared st) ws (standing e)
  pub keeps : (engine.engine_answer st grants engine.opening).reason ≡ 0 → Keeps (terms_of grants) e.starts e.lasts (capped e.bounds)
  pub names : (engine.engine_answer st grants engine.opening).reason ≡ 0 → Named (terms_of grants) e
  pub first : length e.before ≡ cells
  pub sized : Sized e

-- ---- opening

module _ (st grants : List ℕ) where
  blank_opening : (r : ℕ) → opening (blank r) ≡ empty
  unfolding empty marks_of from
  blank_opening r = refl

  blank_holds : (a b : Bool) → well_formed st ≡ a → grants_fine grants ≡ b → (r : ℕ) → (a && b) ≡ false
      → answer r 0 ≡ engine.engine_answer st grants engine.opening → r ≢ 0 → Holds st grants [] (blank r)
  blank_holds a b w g r not_both same n =
      record {
        opens = rw (w, g, not_both) (blank_opening r);
        refused = λ _. same;
        stands = λ z. absurd (n (ap (λ (x : Answer). x.reason) same ∙ z));
        keeps = λ z. absurd (n (ap (λ (x : Answer). x.reason) same ∙ z));
        names = λ z. absurd (n (ap (λ (x : Answer). x.reason) same ∙ z));
        first = refl;
        sized = record { values = refl; marks = refl };
      }

  module _ (w : well_formed st ≡ true) (g : grants_fine grants ≡ true) where
    abbrev kept : Kept
    kept = kept_of (grants_of grants) (zeros most_grants) (zeros most_grants) (zeros most_grants)

    formed : Formed st
    formed = (formed_iff st).0 (holds_of w)

    -- the grants are kept as the reader keeps them
    kept_bytes : Keeps (terms_of grants) kept.starts kept.lasts (capped (byte_bounds kept.bounds))
    unfolding capped
    kept_bytes =
        let k = names_keep (terms_of grants) kept.starts kept.lasts kept.numbers kept.bounds (names grants (zeros most_grants) (zeros most_grants) (zeros most_grants) g (refl, (refl, refl))) in
        let inside = bounded grants (zeros most_grants) (zeros most_grants) (zeros most_grants) g in
        let first = begun_first grants (zeros most_grants) (zeros most_grants) (zeros most_grants) g in
        record {
          targets = byte_grants (terms_of grants) 1 kept.starts kept.lasts _ _ (first 1 (omega arith)) (inside 1 (omega arith)) k.targets;
          firsts = byte_grants (terms_of grants) 2 kept.starts kept.lasts _ _ (first 2 (omega arith)) (inside 2 (omega arith)) k.firsts;
          seconds = byte_grants (terms_of grants) 3 kept.starts kept.lasts _ _ (first 3 (omega arith)) (inside 3 (omega arith)) k.seconds;
        }

    kept_names : Named (terms_of grants) (before success (take cells st) (packed st cells (zeros 4)) (packed (cleared st) cells (zeros 4)) kept)
    kept_names =
        let first = begun_first grants (zeros most_grants) (zeros most_grants) (zeros most_grants) g in
        let inside = bounded grants (zeros most_grants) (zeros most_grants) (zeros most_grants) g in
        record {
          bounds = kept.bounds;
          names = names grants (zeros most_grants) (zeros most_grants) (zeros most_grants) g (refl, (refl, refl));
          part = byte_part _ _ (first 1 (omega arith)) (inside 1 (omega arith));
        }

    open_kept : Holds st grants [] (before success (take cells st) (packed st cells (zeros 4)) (packed (cleared st) cells (zeros 4)) kept)
    unfolding engine.engine_answer engine.call_answer
    open_kept =
        record {
          opens = rw (w, g) (state_packed st formed);
          refused = λ n. rw (w, g);
          stands = λ z. rw (again_setting, cleared_packed st formed) (begun_stands (terms_of grants) (cleared st));
          keeps = λ z. kept_bytes;
          names = λ z. kept_names;
          first = length-take-le cells st (omega (arith, formed.size));
          sized = record { values = length-take-le cells st (omega (arith, formed.size)); marks = packed_length (cleared st) cells (zeros 4) };
        }

  open_by : (a b : Bool) → well_formed st ≡ a → grants_fine grants ≡ b → Holds st grants [] (opened_with st grants)
  unfolding opened_with engine.engine_answer engine.call_answer
  open_by false b w g = rw w (blank_holds false b w g 1 refl (rw w) (λ z. omega arith))
  open_by true false w g = rw (w, g) (blank_holds true false w g 2 refl (rw (w, g)) (λ z. omega arith))
  open_by true true w g = rw (w, g) (open_kept w g)

  pub open_holds : Holds st grants [] (opened_with st grants)
  open_holds = open_by (well_formed st) (grants_fine grants) refl refl

-- ---- feeding

module _ (st grants ws : List ℕ) (w : ℕ) (e r : Engine) (h : Holds st grants ws e) (fed : Feeding e w r) where
  -- a refusal at opening stands
  stays : (engine.engine_answer st grants engine.opening).reason ≢ 0 → r ≡ e
  stays n =
      let k = kept_some e.starts e.lasts (capped e.bounds) in
      fed k.0 k.1 ∙ sym (fed_stays k.0 e w (λ z. n (sym (ap (λ (a : Answer). a.reason) (h.refused n)) ∙ z)))

  goes_on_lem : (engine.engine_answer st grants engine.opening).reason ≡ 0 → Stands (terms_of grants) (cleared st) (ws ++ (w ∷ [])) (standing r)
  goes_on_lem z = rw (fed (terms_of grants) (h.keeps z), fed_stands (terms_of grants) e w h.sized) (step_stands (terms_of grants) (cleared st) ws w (standing e) (h.stands z))

  -- what the engine keeps does not hang on the grants that a caller has in mind
  unchanged : Same e r
  unchanged =
      let k = kept_some e.starts e.lasts (capped e.bounds) in
      rw (fed k.0 k.1) (fed_same e h.sized k.0 w)

  pub feed_holds : Holds st grants (ws ++ (w ∷ [])) r
  feed_holds =
      let u = unchanged in
      record {
        opens = rw (u.before, u.marked) h.opens;
        refused = λ n. ap answered (stays n) ∙ h.refused n;
        stands = goes_on_lem;
        keeps = λ z. rw (u.starts, u.lasts, u.bounds) (h.keeps z);
        names = λ z. let k = h.names z in record { bounds = k.bounds; names = rw (u.starts, u.lasts, u.numbers) k.names; part = rw u.bounds k.part };
        first = rw u.before h.first;
        sized = u.sized;
      }

-- an engine that was opened and fed stands for its words
pub fed_holds : (st grants : List ℕ) {ws : List ℕ} {e : Engine} → Fed st grants ws e → Holds (words_of st) (words_of grants) ws e
fed_holds st grants (just_opened o) = rw o (open_holds (words_of st) (words_of grants))
fed_holds st grants (and_fed {ws} {e} {r} w f s) = feed_holds (words_of st) (words_of grants) ws w e r (fed_holds st grants f) s

-- ---- answers

module _ (st grants ws : List ℕ) (e : Engine) (h : Holds st grants ws e) where
  abbrev at_opening : Answer
  at_opening = engine.engine_answer st grants engine.opening

  -- the answer that stands is the one to the last word
  pub holds_answer : answered e ≡ engine.engine_answer st grants (engine.feeding ws)
  holds_answer =
      elim (ℕ_discrete at_opening.reason 0) [
        | yes z ↦ (h.stands z).answer ∙ sym (feed_is st grants z ws)
        | no n ↦ h.refused n ∙ sym (refused_at_opening st grants ws n).feed
      ]

  -- where opening answers 0 the state is held as it was, and else the empty one
  held_by : {a : Answer} → Opens st grants a → a.reason ≡ 0 → cond (well_formed st && grants_fine grants) st empty ≡ st
  held_by (by_bad_state x) z = absurd (omega arith)
  held_by (by_bad_grants x y) z = absurd (omega arith)
  held_by (opens x y) z = rw (x, y)

  none_by : {a : Answer} → Opens st grants a → a.reason ≢ 0 → cond (well_formed st && grants_fine grants) st empty ≡ empty
  none_by (by_bad_state x) n = rw x
  none_by (by_bad_grants x y) n = rw (x, y)
  none_by (opens x y) n = absurd (n refl)

  -- the marks at opening, as they are kept
  mark_kept : (c : ℕ) → c < cells → mark_at (opening e) (cell c) ≡ bit_of e.marked c
  mark_kept c l =
      ap (λ (n : ℕ). get_or (opening e) (n + c) 0) (sym h.first) ∙ get_or-append-add e.before (marks_of e.marked) c 0 ∙ mark_at_lem e.marked c l

  module _ (z : at_opening.reason ≡ 0) where
    abbrev g : Terms
    g = terms_of grants

    fine : T (well_formed st) × T (grants_fine grants)
    fine = opens_parts (opens_as st grants) z
      where
        opens_parts : {a : Answer} → Opens st grants a → a.reason ≡ 0 → T (well_formed st) × T (grants_fine grants)
        opens_parts (by_bad_state x) y = absurd (omega arith)
        opens_parts (by_bad_grants x w) y = absurd (omega arith)
        opens_parts (opens x w) y = (holds_of x, holds_of w)

    size : length st ≡ state_words
    size = ((formed_iff st).0 fine.0).size

    held : opening e ≡ st
    held = h.opens ∙ held_by (opens_as st grants) z

    target_mark : bit_of e.marked 1 ≡ mark_at st target_cell
    target_mark = sym (mark_kept 1 (omega arith)) ∙ ap (λ (x : List ℕ). mark_at x target_cell) held

    location_mark : bit_of e.marked 2 ≡ mark_at st location_cell
    location_mark = sym (mark_kept 2 (omega arith)) ∙ ap (λ (x : List ℕ). mark_at x location_cell) held

    -- where no word is refused and no packet is open, what is judged is whether the words keep the pair
    module _ (y : e.reason ≡ 0) (w : e.left ≡ 0) where
      low : Low (writes_of ws)
      low = writes_low g ws (taken_whole (h.stands z) y w)

      pub judged_is : pair_judged e ≡ pair_kept g st (writes_of ws)
      judged_is =
          let k = h.names z in
          rw (k.part, target_mark, location_mark, ((h.stands z).kept y).pending)
          (kept_is grants fine.1 e.starts e.lasts e.numbers k.bounds k.names st size (writes_of ws) low)

      -- and the state behind them is the one that they make
      pub behind_is : behind e ≡ apply_all st (writes_of ws)
      behind_is = rw (target_mark, location_mark, ((h.stands z).kept y).pending) (restored_is st size (writes_of ws) low)

  -- what closing answers and hands back
  pub close_holds : (c : Closed) → Closing e c → (closing_answer c ≡ engine.engine_answer st grants (engine.closing ws)) × (c.state ≡ engine.engine_leaves st grants ws)
  close_holds c closed =
      elim (ℕ_discrete at_opening.reason 0) [
        | yes z ↦ (
          closed.0 ∙ closes_stands (terms_of grants) (cleared st) st ws (standing e) (h.stands z) (pair_judged e) (judged_is z) ∙ sym (close_is st grants z ws),
          closed.1 ∙ ap (leaves (pair_judged e) (standing e) (behind e)) (held z)
              ∙ leaves_stands (terms_of grants) (cleared st) st ws (standing e) (h.stands z) (pair_judged e) (judged_is z) (behind e) (behind_is z)
              ∙ sym (leaves_is st grants z ws),
        )
        | no n ↦
            let same = h.refused n in
            let m : e.reason ≢ 0 = λ z. n (sym (ap (λ (a : Answer). a.reason) same) ∙ z) in
            let refusal = closes_refused (pair_judged e) (standing e) m in
            let again = refused_at_opening st grants ws n in (
              closed.0 ∙ refusal ∙ same ∙ sym again.close,
              closed.1 ∙ leaves_refused (pair_judged e) (standing e) m (behind e) (opening e) ∙ h.opens ∙ none_by (opens_as st grants) n ∙ sym again.state,
            )
      ]
