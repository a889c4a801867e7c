-- What the reading of lines tells: the texts of k lines of some of the cells, in their order.
-- Assumes nothing.
use mathlib.Core.Path.{◌≡◌, refl, sym, ap}
use mathlib.Core.Bool.{Bool, true, false, cond, ◌&&◌}
use mathlib.Core.List.{List, [], ◌∷◌, ◌++◌}
use Prim.Native.Nat.{ℕ, zero, suc, ◌≤◌, ◌<◌}
use native.Mathlib.Omega.{arith}
use borrow.Author.Tests.{eqb-true, leb-true, leb-false}
use lib.Dec.{T, eqb, leb}
use lib.ListN.{length, take, drop}
use mir.Facts.{and_yes, yes_eqb}
use Rattle.laws.specs.Lists.{All, every}
use Rattle.laws.proofs.Lists.{every_all}
use Rattle.laws.proofs.Tests.{fails_of}
use Rattle.meaning.specs.State.{Write}
use Rattle.meaning.specs.ListingReader.{Slot, along, Line, form_of, write_of, refused, further, with, at_least, read_lines}
use Rattle.listings.proofs.Forms.{Meets, inside, beyond, meets, some_text, apart, apart_along}
use Rattle.listings.proofs.Tells.{Texts, Starts, Some, Tells, tells_none, Either, this, that, tells_whole, tells_left}

-- what a line adds
abbrev pub adds : Line → List ℕ → List Write → List Write
adds l xs ws = write_of l xs ∷ ws

-- k lines of the cells, in their order
abbrev pub InLines : List Line → ℕ → Texts
InLines ls zero xs ws = (xs ≡ []) × (ws ≡ [])
InLines [] (suc k) xs ws = ⊥
InLines (l ∷ ls) (suc k) xs ws = Either (form_of l) (adds l) (InLines ls k) (InLines ls (suc k)) xs ws

-- no more lines than cells
pub few : (ls : List Line) (k : ℕ) (xs : List ℕ) (ws : List Write) → InLines ls k xs ws → k ≤ length ls
few ls zero xs ws i = omega arith
few [] (suc k) xs ws i = absurd i
few (l ∷ ls) (suc k) xs ws (this h) = omega (arith, few ls k h.rest h.later h.texts)
few (l ∷ ls) (suc k) xs ws (that m) = omega (arith, few ls (suc k) xs ws m)

-- and any number up to that: those of the first cells
pub some_lines : (ls : List Line) (k : ℕ) → k ≤ length ls → Some (InLines ls k)
some_lines ls zero l = record { text = []; writes = []; whole = (refl, refl) }
some_lines [] (suc k) l = absurd (omega arith)
some_lines (g ∷ ls) (suc k) l =
    let r = some_lines ls k (omega arith) in
    let t = some_text (form_of g) in
    record {
      text = t.0 ++ r.text;
      writes = adds g (t.0 ++ r.text) r.writes;
      whole = this (record { front = t.0; rest = r.text; later = r.writes; follows = t.1; texts = r.whole; parts = refl; all = refl });
    }

-- ---- no text follows the forms of two cells

unfoldable pub all_apart : List Line → Bool
all_apart [] = true
all_apart (l ∷ ls) = every (λ g. apart (form_of l) (form_of g)) ls && all_apart ls

-- what follows one cell's form starts no line of others
module _ (f : List Slot) (xs : List ℕ) (e : along f xs ≡ length f) (n : ℕ) (le : n ≤ length xs) (more : List ℕ) where
  met_apart : (g : List Slot) (zs : List ℕ) → T (apart f g) → Meets g xs n more zs → n < length f
  met_apart g zs t (inside k) = omega (arith, (apart_along f g xs t e).1)
  met_apart g zs t (beyond m a q z) = absurd (omega (arith, (apart_along f g xs t e).0))

  starts_apart : (ls : List Line) (k : ℕ) (ws : List Write) → All (λ g. T (apart f (form_of g))) ls → InLines ls (suc k) (take n xs ++ more) ws → n < length f
  starts_apart [] k ws a i = absurd i
  starts_apart (g ∷ ls) k ws a (this h) = met_apart (form_of g) h.rest a.0 (meets xs n more h.rest h.follows h.parts le)
  starts_apart (g ∷ ls) k ws a (that m) = starts_apart ls k ws a.1 m

-- ---- the reading

-- where no line is wanted, only the end is right
none_left : (ls : List Line) (x : ℕ) (xs : List ℕ) (n : ℕ) → n ≤ length (x ∷ xs) → Starts (InLines ls zero) (x ∷ xs) n → n ≤ 0
none_left ls x xs zero l s = omega arith
none_left ls x xs (suc n) l s = let z : ◌≡◌ {A = ℕ} (length (x ∷ (take n xs ++ s.more))) 0 = ap length s.whole.0 in absurd (omega arith)

module _ (l : Line) (ls : List Line) (k : ℕ) (xs : List ℕ) (a : All (λ g. T (apart (form_of l) (form_of g))) ls) where
  by_form : (b : Bool) → eqb (along (form_of l) xs) (length (form_of l)) ≡ b → k ≤ length ls
      → Tells (InLines ls k) (drop (along (form_of l) xs) xs) (read_lines ls k (drop (along (form_of l) xs) xs))
      → Tells (InLines ls (suc k)) xs (read_lines ls (suc k) xs)
      → Tells (InLines (l ∷ ls) (suc k)) xs
      (cond b (further (along (form_of l) xs) (with (write_of l xs) (read_lines ls k (drop (along (form_of l) xs) xs)))) (at_least (along (form_of l) xs) (read_lines ls (suc k) xs)))
  by_form true e h here past =
      let w = eqb-true (along (form_of l) xs) (length (form_of l)) e in
      tells_whole (form_of l) (adds l) (InLines ls k) (InLines ls (suc k)) xs w
      (λ n le s. starts_apart (form_of l) xs w n le s.more ls k s.writes a s.whole) (read_lines ls k (drop (along (form_of l) xs) xs)) (some_lines ls k h) here
  by_form false e h here past =
      tells_left (form_of l) (adds l) (InLines ls k) (InLines ls (suc k)) xs (λ w. fails_of e (yes_eqb w)) (read_lines ls (suc k) xs) (some_lines ls k h) past

  by_count : (b : Bool) → leb k (length ls) ≡ b
      → Tells (InLines ls k) (drop (along (form_of l) xs) xs) (read_lines ls k (drop (along (form_of l) xs) xs))
      → Tells (InLines ls (suc k)) xs (read_lines ls (suc k) xs)
      → Tells (InLines (l ∷ ls) (suc k)) xs
      (cond b (cond (eqb (along (form_of l) xs) (length (form_of l)))
      (further (along (form_of l) xs) (with (write_of l xs) (read_lines ls k (drop (along (form_of l) xs) xs)))) (at_least (along (form_of l) xs) (read_lines ls (suc k) xs)))
      (refused 0))
  by_count true e here past = by_form (eqb (along (form_of l) xs) (length (form_of l))) refl (leb-true k (length ls) e) here past
  by_count false e here past =
      tells_none (InLines (l ∷ ls) (suc k)) xs
      (λ n le s. absurd (omega (arith, leb-false k (length ls) e, few (l ∷ ls) (suc k) (take n xs ++ s.more) s.writes s.whole)))
      (λ ws i. omega (arith, leb-false k (length ls) e, few (l ∷ ls) (suc k) xs ws i))

pub lines_tell : (ls : List Line) (k : ℕ) (xs : List ℕ) → T (all_apart ls) → Tells (InLines ls k) xs (read_lines ls k xs)
unfolding read_lines all_apart
lines_tell ls zero [] t = record {
  right = λ e. ((refl, refl), refl);
  found = λ ws i. (refl, sym i.1);
  inside = omega arith;
  begun = λ l. absurd (omega arith);
  longest = λ n l s. l;
  refusal = λ n. absurd (n refl);
}
lines_tell ls zero (x ∷ xs) t =
    tells_none (InLines ls zero) (x ∷ xs) (none_left ls x xs) (λ ws i. let z : ◌≡◌ {A = ℕ} (length (x ∷ xs)) 0 = ap length i.0 in omega arith)
lines_tell [] (suc k) xs t = tells_none (InLines [] (suc k)) xs (λ n l s. absurd s.whole) (λ ws i. i)
lines_tell (l ∷ ls) (suc k) xs t =
    let p = and_yes (every (λ g. apart (form_of l) (form_of g)) ls) _ t in
    by_count l ls k xs (every_all (λ g. apart (form_of l) (form_of g)) ls p.0) (leb k (length ls)) refl
    (lines_tell ls k (drop (along (form_of l) xs) xs) p.1) (lines_tell ls (suc k) xs p.1)
