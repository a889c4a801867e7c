-- The most of several lines: what is left, and what is found.
-- Assumes nothing.
use mathlib.Core.Path.{◌≡◌}
use Prim.Native.Nat.{ℕ, suc, ◌+◌, ◌-◌, ◌≤◌, ◌<◌, max}
use mathlib.Core.List.{List}
use native.Mathlib.Omega.{arith}
use Rattle.meaning.specs.ListingReader.{along, form_of}
use Rattle.listings.specs.Lines.{line_for, furthest_of}

module _ (xs : List ℕ) (first end : ℕ) where
  -- the most so far and the most of the cells that are left are the most of all
  abbrev pub Found : ℕ → ℕ → Type 0
  Found far c = max far (furthest_of c (end - c) xs) ≡ furthest_of first (end - first) xs

  pub found_none : Found 0 first
  found_none = omega arith

  pub found_next : (far c : ℕ) {n m : ℕ} → Found far c → c < end → n ≡ along (form_of (line_for c)) xs → m ≡ max far n → Found m (c + 1)
  unfolding furthest_of
  found_next far c f l e g =
      let more : end - c ≡ suc (end - (c + 1)) = omega arith in
      let s : c + 1 ≡ suc c = omega arith in
      let h = rw (more, ← s, ← e) at f in
      omega (arith, h)

  pub found_all : (far c : ℕ) → Found far c → end ≤ c → far ≡ furthest_of first (end - first) xs
  unfolding furthest_of
  found_all far c f l =
      let none : end - c ≡ 0 = omega arith in
      let h = rw none at f in
      omega (arith, h)
