-- Listings: which texts are one, and what begins one; said of the lister's exact bytes alone.
-- Assumes nothing.
use Rattle.std.specs.Prelude.{◌≡◌, List, ◌++◌, ℕ, ◌≤◌, ◌<◌, ◌^◌, T, length, take}
use Rattle.meaning.specs.Registers.{cells, cell, register_at}
use Rattle.meaning.specs.State.{value_at, well_formed}
use Rattle.meaning.specs.Lister.{listing}

-- L9 "a well-formed state whose 3D values are below 2^24"; a video value is a word of 32 bits
pub record Listable (st : List ℕ) : Type 0 where
  pub formed : T (well_formed st)
  pub narrow : (c : ℕ) → c < cells → value_at st (cell c) < 2 ^ (register_at (cell c)).width

-- L9 "a text is a listing if it is that of" such a state
pub record Listed (text st : List ℕ) : Type 0 where
  pub state : Listable st
  pub same : listing st ≡ text

-- D5 "some listing begins with" these bytes
pub record BeginsListing (xs : List ℕ) : Type 0 where
  pub more : List ℕ
  pub state : List ℕ
  pub listed : Listed (xs ++ more) state

-- p is D5 "the length of the longest beginning of the text that some listing begins with"
pub record LongestListing (text : List ℕ) (p : ℕ) : Type 0 where
  pub within : p ≤ length text
  pub begins : BeginsListing (take p text)
  pub longest : (n : ℕ) → n ≤ length text → BeginsListing (take n text) → n ≤ p
