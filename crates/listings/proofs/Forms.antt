-- Texts that follow a form: how far a text goes along it, and what completes a beginning.
-- Assumes nothing.
use mathlib.Core.Path.{◌≡◌, refl, sym, ap, ◌∙◌}
use mathlib.Core.Bool.{Bool, true, false, cond}
use mathlib.Core.List.{List, [], ◌∷◌, ◌++◌}
use Prim.Native.Nat.{ℕ, zero, suc, ◌+◌, ◌≤◌, ◌<◌}
use native.Mathlib.Omega.{arith}
use lib.Dec.{T, eqb}
use lib.ListN.{length, take, drop}
use mir.Facts.{eqb_yes, yes_eqb}
use Rattle.laws.proofs.Tests.{true_of, holds_of}
use Rattle.meaning.specs.ListingReader.{Slot, fixed, any_digit, is_hex, takes, along}

-- the text follows the form to its end
pub data Follows : List Slot → List ℕ → Type 0 where
  end : Follows [] []
  next : {s : Slot} {f : List Slot} {t : ℕ} {ts : List ℕ} → T (takes s t) → Follows f ts → Follows (s ∷ f) (t ∷ ts)

pub follows_length : {f : List Slot} {xs : List ℕ} → Follows f xs → length xs ≡ length f
follows_length end = refl
follows_length (next t r) = ap suc (follows_length r)

-- ---- one byte

along_true : (s : Slot) (f : List Slot) (x : ℕ) (xs : List ℕ) → T (takes s x) → along (s ∷ f) (x ∷ xs) ≡ suc (along f xs)
unfolding along
along_true s f x xs t = rw (true_of (takes s x) t)

along_false : (s : Slot) (f : List Slot) (x : ℕ) (xs : List ℕ) → takes s x ≡ false → along (s ∷ f) (x ∷ xs) ≡ 0
unfolding along
along_false s f x xs e = rw e

pub along_within : (f : List Slot) (xs : List ℕ) → (along f xs ≤ length f) × (along f xs ≤ length xs)
unfolding along
along_within [] xs = (omega arith, omega arith)
along_within (s ∷ f) [] = (omega arith, omega arith)
along_within (s ∷ f) (x ∷ xs) = by (takes s x) (along_within f xs)
  where
    by : (b : Bool) → (along f xs ≤ length f) × (along f xs ≤ length xs)
        → (cond b (suc (along f xs)) 0 ≤ suc (length f)) × (cond b (suc (along f xs)) 0 ≤ suc (length xs))
    by true h = (omega (arith, h.0), omega (arith, h.1))
    by false h = (omega arith, omega arith)

-- ---- whole

-- what goes along to the end of a form follows it
pub whole_follows : (f : List Slot) (xs : List ℕ) → along f xs ≡ length f → Follows f (take (length f) xs)
unfolding along
whole_follows [] xs e = end
whole_follows (s ∷ f) [] e = absurd (omega arith)
whole_follows (s ∷ f) (x ∷ xs) e = by (takes s x) refl e (whole_follows f xs)
  where
    by : (b : Bool) → takes s x ≡ b → cond b (suc (along f xs)) 0 ≡ suc (length f) → (along f xs ≡ length f → Follows f (take (length f) xs))
        → Follows (s ∷ f) (x ∷ take (length f) xs)
    by true h k more = next (holds_of h) (more (omega arith))
    by false h k more = absurd (omega arith)

pub follows_whole : {f : List Slot} {ts : List ℕ} → Follows f ts → (zs : List ℕ) → along f (ts ++ zs) ≡ length f
unfolding along
follows_whole end zs = refl
follows_whole (next {s} {f} {t} {ts} h r) zs = along_true s f t (ts ++ zs) h ∙ ap suc (follows_whole r zs)

-- ---- beginnings

-- a text whose beginning of n bytes starts, with more, as one that follows the form and goes on with zs
pub data Meets (f : List Slot) (xs : List ℕ) (n : ℕ) (more zs : List ℕ) : Type 0 where
  inside : n ≤ along f xs → Meets f xs n more zs
  beyond : (m : ℕ) → along f xs ≡ length f → n ≡ length f + m → zs ≡ take m (drop (length f) xs) ++ more → Meets f xs n more zs

head_same : {x t : ℕ} {xs ts : List ℕ} → x ∷ xs ≡ t ∷ ts → (x ≡ t) × (xs ≡ ts)
head_same e = (cc, cc)

pub meets : {f : List Slot} {ts : List ℕ} (xs : List ℕ) (n : ℕ) (more zs : List ℕ) → Follows f ts → take n xs ++ more ≡ ts ++ zs → n ≤ length xs
    → Meets f xs n more zs
unfolding along
meets xs n more zs end e l = beyond n refl (omega arith) (sym e)
meets xs zero more zs (next t r) e l = inside (omega arith)
meets [] (suc n) more zs (next t r) e l = absurd (omega arith)
meets (x ∷ xs) (suc n) more zs (next {s} {f} {t} {ts} h r) e l =
    let p = head_same e in
    let k : T (takes s x) = rw p.0 h in
    by (along_true s f x xs k) (meets xs n more zs r p.1 (omega arith))
  where
    by : along (s ∷ f) (x ∷ xs) ≡ suc (along f xs) → Meets f xs n more zs → Meets (s ∷ f) (x ∷ xs) (suc n) more zs
    by a (inside m) = inside (omega arith)
    by a (beyond m w q z) = beyond m (omega arith) (omega arith) z

-- ---- completions

-- a beginning that goes along a form is completed to a text that follows it
pub record Completed (f : List Slot) (xs : List ℕ) : Type 0 where
  pub text : List ℕ
  pub rest : List ℕ
  pub follows : Follows f text
  pub same : text ≡ take (along f xs) xs ++ rest

sample : Slot → ℕ
sample (fixed b) = b
sample any_digit = 48

sample_taken : (s : Slot) → T (takes s (sample s))
unfolding sample is_hex
sample_taken (fixed b) = yes_eqb {a = b} refl
sample_taken any_digit = tt

pub some_text : (f : List Slot) → (ts : List ℕ) × Follows f ts
some_text [] = ([], end)
some_text (s ∷ f) = let r = some_text f in (sample s ∷ r.0, next (sample_taken s) r.1)

pub completed : (f : List Slot) (xs : List ℕ) → Completed f xs
unfolding along
completed [] xs = record { text = []; rest = []; follows = end; same = refl }
completed (s ∷ f) [] = let r = some_text (s ∷ f) in record { text = r.0; rest = r.0; follows = r.1; same = refl }
completed (s ∷ f) (x ∷ xs) = by (takes s x) refl (completed f xs)
  where
    by : (b : Bool) → takes s x ≡ b → Completed f xs → Completed (s ∷ f) (x ∷ xs)
    by true e c = record { text = x ∷ c.text; rest = c.rest; follows = next (holds_of e) c.follows; same = rw e (ap (λ (l : List ℕ). x ∷ l) c.same) }
    by false e c = let r = some_text (s ∷ f) in record { text = r.0; rest = r.0; follows = r.1; same = rw e refl }

-- ---- forms that no text follows both

-- two forms with different fixed bytes at one place
unfoldable pub apart : List Slot → List Slot → Bool
apart (fixed a ∷ f) (fixed b ∷ g) = let more = apart f g in cond (eqb a b) more true
apart (fixed a ∷ f) (any_digit ∷ g) = false
apart (fixed a ∷ f) [] = false
apart (any_digit ∷ f) g = false
apart [] g = false

abbrev Short : List Slot → List Slot → ℕ → Type 0
Short f g n = (n < suc (length g)) × (n < suc (length f))

pub apart_along : (f g : List Slot) (xs : List ℕ) → T (apart f g) → along f xs ≡ length f → (along g xs < length g) × (along g xs < length f)
unfolding along apart
apart_along [] g xs t e = absurd t
apart_along (any_digit ∷ f) g xs t e = absurd t
apart_along (fixed a ∷ f) [] xs t e = absurd t
apart_along (fixed a ∷ f) (any_digit ∷ g) xs t e = absurd t
apart_along (fixed a ∷ f) (fixed b ∷ g) [] t e = absurd (omega arith)
apart_along (fixed a ∷ f) (fixed b ∷ g) (x ∷ xs) t e = by (eqb x a) refl (eqb a b) refl (eqb x b) refl t e (apart_along f g xs)
  where
    rest : (r : Bool) → (along g xs < length g) × (along g xs < length f) → Short f g (cond r (suc (along g xs)) 0)
    rest true h = (omega (arith, h.0), omega (arith, h.1))
    rest false h = (omega arith, omega arith)

    by : (p : Bool) → eqb x a ≡ p → (q : Bool) → eqb a b ≡ q → (r : Bool) → eqb x b ≡ r → T (cond q (apart f g) true) → cond p (suc (along f xs)) 0 ≡ suc (length f)
        → (T (apart f g) → along f xs ≡ length f → (along g xs < length g) × (along g xs < length f)) → Short f g (cond r (suc (along g xs)) 0)
    by false ep q eq r er t e more = absurd (omega arith)
    by true ep true eq r er t e more = rest r (more t (omega arith))
    by true ep false eq false er t e more = (omega arith, omega arith)
    by true ep false eq true er t e more =
        let xa : x ≡ a = eqb_yes (holds_of ep) in
        let xb : x ≡ b = eqb_yes (holds_of er) in
        let z : T (eqb a b) = yes_eqb (sym xa ∙ xb) in
        absurd (rw eq at z)
