-- The listing of a state goes behind the places, and finds room there.
-- Assumes nothing.
use mathlib.Core.Path.{◌≡◌, ap, ◌∙◌}
use mathlib.Core.Bool.{◌&&◌}
use mathlib.Core.List.{List}
use Prim.Native.Nat.{ℕ, ◌+◌, ◌*◌, ◌/◌, ◌%◌, ◌≤◌}
use native.Mathlib.Omega.{arith}
use lib.Dec.{T, eqb}
use lib.ListN.{length, drop, length-append, length-drop}
use mir.Facts.{yes_and, yes_leb, yes_eqb}
use Rattle.laws.specs.Lists.{over}
use Rattle.meaning.specs.Words.{words_of}
use Rattle.meaning.specs.Registers.{cells}
use Rattle.meaning.specs.State.{state_words, well_formed}
use Rattle.meaning.specs.Answers.{answer, number_of}
use Rattle.meaning.specs.Lister.{most_listed, listing, list_answer, list_leaves}
use Rattle.meaning.specs.Reasons.{ListerGives}
use Rattle.meaning.specs.Exported.{most_bytes, buffer_fine, word_buffer_fine, exported_list, exported_list_leaves}
use Rattle.meaning.proofs.Bytes.{settle_done}
use Rattle.meaning.proofs.Outputs.{list_answer_lem, listing_at_most}
use Rattle.meaning.proofs.Exported.{list_call, list_call_leaves}
use Rattle.name_grants.specs.Named.{grant_places, told}
use Rattle.name_grants.proofs.Fronts.{behind, put_behind, length_behind, both}
use Rattle.name_grants.proofs.Places.{places_few}

-- ---- a state that is listed

module _ (st out : List ℕ) (size : length st ≡ state_words * 4) (formed : T (well_formed (words_of st))) (room : most_listed ≤ length out) (small : length out ≤ most_bytes) where
  fine : T (word_buffer_fine st && buffer_fine out)
  unfolding word_buffer_fine buffer_fine
  fine =
      let few : length st ≤ most_bytes = omega arith in
      let whole : length st % 4 ≡ 0 = omega arith in
      yes_and (word_buffer_fine st) (buffer_fine out) (yes_and (buffer_fine st) (eqb (length st % 4) 0) (yes_leb few) (yes_eqb whole)) (yes_leb small)

  done : list_answer (words_of st) (length out) ≡ answer 0 (length (listing (words_of st)))
  done = list_answer_lem (words_of st) (length out) (ListerGives.done formed (omega (arith, listing_at_most (words_of st))))

  listed : {n : ℕ} → n ≡ number_of (exported_list st out) → n / 256 ≡ length (listing (words_of st))
  listed {n} e =
      let number : n ≡ length (listing (words_of st)) * 256 + 0 = e ∙ ap number_of (list_call st out fine ∙ done) in
      omega arith

  listed_over : exported_list_leaves st out ≡ over (listing (words_of st)) out
  unfolding list_leaves
  listed_over = list_call_leaves st out fine ∙ settle_done (list_answer (words_of st) (length out)) _ out (rw done)

-- ---- behind the places

module _ (st grants out : List ℕ) (size : length st ≡ state_words * 4) (formed : T (well_formed (words_of st))) (room : length out ≡ cells + most_listed)
    (count : ℕ) (counted : count ≡ length (grant_places st grants 0 cells)) (mid : List ℕ) (put : mid ≡ over (grant_places st grants 0 cells) out) where
  abbrev places : List ℕ
  places = grant_places st grants 0 cells

  few : count ≤ cells
  few = omega (arith, places_few st grants 0 cells)

  same : length mid ≡ length out
  same = rw put (omega (arith, length-append places (drop (length places) out), length-drop (length places) out, few))

  fits : most_listed ≤ length (behind count mid)
  fits = omega (arith, length_behind count mid, same, few)

  small : length (behind count mid) ≤ most_bytes
  small = omega (arith, length_behind count mid, same)

  pub told_whole : (n : ℕ) → n ≡ number_of (exported_list st (behind count mid)) → (part : List ℕ) → part ≡ exported_list_leaves st (behind count mid)
      → (count + n / 256 ≡ length (told st grants)) × (put_behind count mid part ≡ over (told st grants) out)
  unfolding told
  told_whole n e part l = (
    omega (arith, counted, listed st (behind count mid) size formed fits small e, length-append places (listing (words_of st))),
    ap (put_behind count mid) (l ∙ listed_over st (behind count mid) size formed fits small) ∙ both places (listing (words_of st)) out counted put,
  )

-- ---- how much it is

pub told_few : (st grants : List ℕ) → length (told st grants) ≤ cells + most_listed
unfolding told
told_few st grants =
    omega (arith, length-append (grant_places st grants 0 cells) (listing (words_of st)), places_few st grants 0 cells, listing_at_most (words_of st))
