-- A line, part by part: what stands before its digits, these, and its end.
-- Assumes nothing.
use mathlib.Core.Path.{◌≡◌, sym, ap, ◌∙◌}
use mathlib.Core.List.{List, [], ◌∷◌, ◌++◌, map}
use mathlib.Core.Logic.{◌≢◌}
use Prim.Native.Nat.{ℕ, suc, ◌+◌, ◌≤◌, ◌<◌}
use native.Mathlib.Omega.{arith}
use borrow.Author.Tests.{eq-eqb, ne_eqb}
use lib.ListN.{length, drop, get_or, replicate, length-replicate, length-drop, drop_of_length-le}
use lib.Seq.{drop-drop, drop-cons}
use Rattle.meaning.specs.Text.{ascii}
use Rattle.meaning.specs.ListingReader.{Slot, fixed, any_digit, along}
use Rattle.listings.proofs.Forms.{along_within}
use Rattle.line_places.specs.Forms.{form_with}
use Rattle.line_places.proofs.Along.{along_left, along_on, along_nil, fixed_length}

-- what goes along a form stays inside the text
pub along_inside : (f : List Slot) (t : List ℕ) (at r : ℕ) → at ≤ length t → r ≡ along f (drop at t) → (at + r ≤ length t) × (r ≤ length f)
along_inside f t at r l e = (omega (arith, (along_within f (drop at t)).1, length-drop at t), omega (arith, (along_within f (drop at t)).0))

module _ (t before : List ℕ) (at n a : ℕ) (e : a ≡ along (map fixed before) (drop at t)) where
  abbrev end : List Slot
  end = map fixed (ascii "\n")

  -- a byte before the digits is another
  pub run_left : a < length before → a ≡ along (form_with before n) (drop at t)
  run_left l = e ∙ sym (along_left (map fixed before) (replicate n any_digit ++ end) (drop at t) (omega (arith, fixed_length before)))

  module _ (w : length before ≤ a) where
    whole : a ≡ length before
    whole = omega (arith, (along_within (map fixed before) (drop at t)).0, fixed_length before)

    rest : along (form_with before n) (drop at t) ≡ a + along (replicate n any_digit ++ end) (drop (at + a) t)
    rest =
        let f : length (map fixed before) ≡ a = omega (arith, fixed_length before, whole) in
        along_on (map fixed before) (replicate n any_digit ++ end) (drop at t) (omega (arith, fixed_length before, whole)) ∙ rw (f, drop-drop a at t)

    module _ (k : ℕ) (d : k ≡ along (replicate n any_digit) (drop (at + a) t)) where
      -- one of the digits is none
      pub run_digits : k < n → a + k ≡ along (form_with before n) (drop at t)
      run_digits l =
          let s = along_left (replicate n any_digit) end (drop (at + a) t) (omega (arith, length-replicate n any_digit, d)) in
          omega (arith, rest, s, d)

      module _ (g : n ≤ k) where
        last : along (form_with before n) (drop at t) ≡ a + (n + along end (drop (at + a + n) t))
        last =
            let f : length (replicate n any_digit) ≡ n = length-replicate n any_digit in
            let all : k ≡ n = omega (arith, (along_within (replicate n any_digit) (drop (at + a) t)).0, f, d) in
            let s = along_on (replicate n any_digit) end (drop (at + a) t) (omega (arith, d, all, f)) in
            rest ∙ ap (λ (x : ℕ). a + x) (s ∙ rw (f, drop-drop n (at + a) t))

        -- the text ends before the line does
        pub run_short : length t ≤ at + a + n → a + n ≡ along (form_with before n) (drop at t)
        run_short l =
            let z : drop (at + a + n) t ≡ [] = drop_of_length-le t l in
            omega (arith, rw (z, along_nil end) at last)

        module _ (l : at + a + n < length t) where
          cut : drop (at + a + n) t ≡ get_or t (at + a + n) 0 ∷ drop (suc (at + a + n)) t
          cut = drop-cons t (at + a + n) 0 l

          -- something else stands where it should end
          pub run_other : get_or t (at + a + n) 0 ≢ 10 → a + n ≡ along (form_with before n) (drop at t)
          unfolding along
          run_other x = let h = rw (cut, ne_eqb (get_or t (at + a + n) 0) 10 x) at last in omega arith

          pub run_whole : get_or t (at + a + n) 0 ≡ 10 → a + n + 1 ≡ along (form_with before n) (drop at t)
          unfolding along
          run_whole x = let h = rw (cut, eq-eqb (get_or t (at + a + n) 0) 10 x) at last in omega arith
