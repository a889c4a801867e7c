-- The state of the house: every cell marked, with a value that nothing speaks against, for a program to start from.
-- Assumes nothing.
use Rattle.std.specs.Prelude.{◌≡◌, List, [], ◌∷◌, ◌++◌, ℕ, ◌/◌, ◌%◌, ◌<◌, ◌^◌, T, replicate}
use Rattle.meaning.specs.declared.Memory.TheVariants.{Either, Only}
use Rattle.meaning.specs.Registers.{cells}
use Rattle.meaning.specs.Grants.{Terms, granted}
use Rattle.meaning.specs.State.{well_formed}
use Rattle.meaning.specs.Writer.{most_written, write_answer}
use Rattle.chip.specs.Chip.{Full}

-- T4 "each granted to its role, the target's in memory 0", and its registers can hold it: a target is a multiple of 256, a scaler's address
-- R22 "a multiple of 16 below 2^29"
pub record HouseGranted (g : Terms) (t f s : ℕ) : Type 0 where
  pub target : T (granted g.grants (Only 0) 1 t)
  pub target_multiple : t % 256 ≡ 0
  pub first : T (granted g.grants Either 2 f)
  pub first_multiple : f % 16 ≡ 0
  pub first_small : f < 2 ^ 29
  pub second : T (granted g.grants Either 3 s)
  pub second_multiple : s % 16 ≡ 0
  pub second_small : s < 2 ^ 29

-- T4 "The format is RGB565, 890000h": 0 is no format
abbrev pub house_format : ℕ
house_format = 0x890000

-- cells 0 to 3: T4 "Cell 1 holds a target's address"
abbrev pub target_values : ℕ → List ℕ
target_values t = 0 ∷ t / 256 ∷ 0 ∷ house_format ∷ []

-- a scaler's seven cells: T4 "cells 89, 90 and 93 an address of the first scaler, cells 96, 97 and 100 one of the second"
abbrev pub scaler_values : ℕ → List ℕ
scaler_values a = 0 ∷ 0 ∷ a ∷ a ∷ 0 ∷ 0 ∷ a ∷ []

-- all values, T4 "every other value is 0": 83 cells of stages, samples and overlay are between target and scalers
abbrev pub house_values : ℕ → ℕ → ℕ → List ℕ
house_values t f s = target_values t ++ (replicate 83 0 ++ (scaler_values f ++ scaler_values s))

-- T4 "The house's state is full"
unfoldable pub house : ℕ → ℕ → ℕ → List ℕ
house t f s = house_values t f s ++ replicate cells 1

-- ---- what a program has that starts from it

-- a state of a program under its grants that marks every cell, and that the writer takes, given room
pub record Whole (grants st : List ℕ) : Type 0 where
  pub formed : T (well_formed st)
  pub full : Full st
  pub written : (write_answer st grants most_written).reason ≡ 0

-- the cells that T4 "holds a target's address" or one of a scaler speaks of; by address_cells_lem in proofs/House these are all that hold one
abbrev pub address_cells : List ℕ
address_cells = 1 ∷ 89 ∷ 90 ∷ 93 ∷ 96 ∷ 97 ∷ 100 ∷ []
