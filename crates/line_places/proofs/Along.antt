-- Going along a form byte by byte, and along two forms one behind the other.
-- Assumes nothing.
use mathlib.Core.Path.{◌≡◌, refl, ap, ◌∙◌}
use mathlib.Core.Bool.{Bool, true, false, cond}
use mathlib.Core.List.{List, [], ◌∷◌, ◌++◌, map}
use mathlib.Core.Logic.{◌≢◌}
use Prim.Native.Nat.{ℕ, suc, ◌+◌, ◌≤◌, ◌<◌}
use native.Mathlib.Omega.{arith}
use native.Mathlib.Nat.{add-zero}
use borrow.Author.Tests.{eq-eqb, ne_eqb}
use lib.ListN.{length, drop, get_or, replicate, drop_of_length-le, length-replicate, get_or-replicate, get_or-map}
use lib.Seq.{drop-cons}
use Rattle.meaning.specs.ListingReader.{Slot, fixed, any_digit, is_hex, takes, along}

-- ---- byte by byte

-- i bytes are as the form f has them
pub record Going (f : List Slot) (t : List ℕ) (at i : ℕ) : Type 0 where
  pub within : i ≤ length f
  pub same : i + along (drop i f) (drop (at + i) t) ≡ along f (drop at t)

pub going_start : (f : List Slot) (t : List ℕ) (at : ℕ) → Going f t at 0
going_start f t at = record { within = omega arith; same = rw (add-zero at) (omega arith) }

pub along_nil : (f : List Slot) → along f [] ≡ 0
unfolding along
along_nil [] = refl
along_nil (s ∷ f) = refl

module _ {f : List Slot} {t : List ℕ} {at i : ℕ} (g : Going f t at i) where
  -- the form is at its end
  pub going_done : length f ≤ i → i ≡ along f (drop at t)
  unfolding along
  going_done l = let e : drop i f ≡ [] = drop_of_length-le f l in let h = rw e at g.same in omega arith

  -- the text is
  pub going_short : length t ≤ at + i → i ≡ along f (drop at t)
  going_short l =
      let e : drop (at + i) t ≡ [] = drop_of_length-le t l in
      let h : i + along (drop i f) [] ≡ along f (drop at t) = rw e at g.same in
      omega (arith, along_nil (drop i f))

  module _ (s d : Slot) (l : i < length f) (e : get_or f i d ≡ s) (k : at + i < length t) where
    split : i + along (s ∷ drop (suc i) f) (get_or t (at + i) 0 ∷ drop (suc (at + i)) t) ≡ along f (drop at t)
    split =
        let a : drop i f ≡ s ∷ drop (suc i) f = drop-cons f i d l ∙ ap (λ (x : Slot). x ∷ drop (suc i) f) e in
        let b : drop (at + i) t ≡ get_or t (at + i) 0 ∷ drop (suc (at + i)) t = drop-cons t (at + i) 0 k in
        rw (a, b) at g.same

    pub going_stopped : takes s (get_or t (at + i) 0) ≡ false → i ≡ along f (drop at t)
    unfolding along
    going_stopped n = let h = rw n at split in omega arith

    pub going_next : takes s (get_or t (at + i) 0) ≡ true → Going f t at (i + 1)
    unfolding along
    going_next y =
        let p : i + 1 ≡ suc i = omega arith in
        let q : at + suc i ≡ suc (at + i) = omega arith in
        let h = rw y at split in
        record { within = omega arith; same = rw (p, q) (omega arith) }

-- ---- two forms

pub along_left : (f g : List Slot) (xs : List ℕ) → along f xs < length f → along (f ++ g) xs ≡ along f xs
unfolding along
along_left [] g xs l = absurd (omega arith)
along_left (s ∷ f) g [] l = refl
along_left (s ∷ f) g (x ∷ xs) l = by (takes s x) l (along_left f g xs)
  where
    by : (b : Bool) → cond b (suc (along f xs)) 0 < suc (length f) → (along f xs < length f → along (f ++ g) xs ≡ along f xs)
        → cond b (suc (along (f ++ g) xs)) 0 ≡ cond b (suc (along f xs)) 0
    by true h more = ap suc (more (omega arith))
    by false h more = refl

pub along_on : (f g : List Slot) (xs : List ℕ) → along f xs ≡ length f → along (f ++ g) xs ≡ length f + along g (drop (length f) xs)
unfolding along
along_on [] g xs e = omega arith
along_on (s ∷ f) g [] e = absurd (omega arith)
along_on (s ∷ f) g (x ∷ xs) e = by (takes s x) e (along_on f g xs)
  where
    by : (b : Bool) → cond b (suc (along f xs)) 0 ≡ suc (length f) → (along f xs ≡ length f → along (f ++ g) xs ≡ length f + along g (drop (length f) xs))
        → cond b (suc (along (f ++ g) xs)) 0 ≡ suc (length f) + along g (drop (length f) xs)
    by true h more = let m = more (omega arith) in omega arith
    by false h more = absurd (omega arith)

-- ---- digits

digit_slot : (n i : ℕ) → i < n → get_or (replicate n any_digit) i any_digit ≡ any_digit
digit_slot n i l = get_or-replicate n i any_digit any_digit l

module _ (n : ℕ) {t : List ℕ} {at i : ℕ} (g : Going (replicate n any_digit) t at i) where
  pub digits_done : n ≤ i → i ≡ along (replicate n any_digit) (drop at t)
  digits_done l = going_done g (omega (arith, length-replicate n any_digit))

  module _ (l : i < n) (k : at + i < length t) where
    pub digits_stopped : is_hex (get_or t (at + i) 0) ≡ false → i ≡ along (replicate n any_digit) (drop at t)
    digits_stopped e = going_stopped g any_digit any_digit (omega (arith, length-replicate n any_digit)) (digit_slot n i l) k e

    pub digits_next : is_hex (get_or t (at + i) 0) ≡ true → Going (replicate n any_digit) t at (i + 1)
    digits_next e = going_next g any_digit any_digit (omega (arith, length-replicate n any_digit)) (digit_slot n i l) k e

-- ---- fixed bytes

fixed_slot : (es : List ℕ) (i : ℕ) → get_or (map fixed es) i (fixed 0) ≡ fixed (get_or es i 0)
fixed_slot es i = get_or-map fixed es i 0

pub fixed_length : (es : List ℕ) → length (map fixed es) ≡ length es
fixed_length [] = refl
fixed_length (e ∷ es) = ap suc (fixed_length es)

module _ (es : List ℕ) {t : List ℕ} {at i : ℕ} (g : Going (map fixed es) t at i) where
  pub agree_done : length es ≤ i → i ≡ along (map fixed es) (drop at t)
  agree_done l = going_done g (omega (arith, fixed_length es))

  module _ (l : i < length es) (k : at + i < length t) where
    pub agree_stopped : get_or t (at + i) 0 ≢ get_or es i 0 → i ≡ along (map fixed es) (drop at t)
    agree_stopped n = going_stopped g (fixed (get_or es i 0)) (fixed 0) (omega (arith, fixed_length es)) (fixed_slot es i) k (ne_eqb (get_or t (at + i) 0) (get_or es i 0) n)

    pub agree_next : get_or t (at + i) 0 ≡ get_or es i 0 → Going (map fixed es) t at (i + 1)
    agree_next e = going_next g (fixed (get_or es i 0)) (fixed 0) (omega (arith, fixed_length es)) (fixed_slot es i) k (eq-eqb (get_or t (at + i) 0) (get_or es i 0) e)
