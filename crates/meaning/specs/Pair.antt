-- The pair of cells 1 and 2, the target's address and the memory that it lies in; permitted batches, and what begins one; reached states.
-- Assumes nothing.
use Rattle.std.specs.Prelude.{◌≡◌, Bool, cond, List, ◌++◌, ℕ, ◌*◌, ◌≤◌, T, ltb, eqb, length, take}
use Rattle.laws.specs.Lists.{All, some}
use Rattle.laws.specs.Tests.{within, implies}
use Rattle.meaning.specs.declared.Cell.{Cell}
use Rattle.meaning.specs.declared.Memory.{Memory}
use Rattle.meaning.specs.declared.Memory.TheVariants.{Either, Only}
use Rattle.meaning.specs.Words.{Word, bits}
use Rattle.meaning.specs.Registers.{cell}
use Rattle.meaning.specs.Grants.{Terms, granted}
use Rattle.meaning.specs.Batch.{Cut}
use Rattle.meaning.specs.State.{value_at, mark_at, empty, Write, apply_all, all_writes}

-- ---- the pair

-- S7 "cell 1, the target's address"
abbrev pub target_cell : Cell
target_cell = cell 1

-- S7 "cell 2, its location"
abbrev pub location_cell : Cell
location_cell = cell 2

-- S8 "bits 21:20 of its value, and 0 if cell 2 is not marked": by its mark and its value
abbrev pub memory_named : ℕ → ℕ → ℕ
memory_named mark value = cond (ltb 0 mark) (bits 21 20 value) 0

-- S8 "The memory that cell 2 names". S8 "2 and 3 name no memory": by G9 no grant is there
unfoldable pub memory_of : List ℕ → ℕ
memory_of st = memory_named (mark_at st location_cell) (value_at st location_cell)

-- where the address in a cell is looked at: Q5 "The address in cell 1 is looked at in the memory that cell 2 names, and any other in
-- whichever memory."
abbrev pub looked_at : List ℕ → Cell → Memory
looked_at st c = cond (eqb c.0 target_cell.0) (Only (memory_of st)) Either

-- R2 "the data × 256 is an address of role 1": the target's address in a state, as a whole number
abbrev pub target_of : List ℕ → ℕ
target_of st = value_at st target_cell * 256

-- S9 "The pair is fine if cell 1 is not marked, or if its address is granted to role 1 in the memory that cell 2 names."
unfoldable pub pair_fine : Terms → List ℕ → Bool
pair_fine g st = implies (ltb 0 (mark_at st target_cell)) (granted g.grants (Only (memory_of st)) 1 (target_of st))

-- S10 "if it writes cell 1 or cell 2", S10 "also with the value that was there"
unfoldable pub wrote_pair : List Write → Bool
wrote_pair ws = some (λ w. within 1 2 w.cell.0) ws

-- S10 "A batch keeps the pair, from a state, if it writes neither cell, or if the pair is fine in the state that its writes make"
unfoldable pub pair_kept : Terms → List ℕ → List Write → Bool
pair_kept g st ws = implies (wrote_pair ws) (pair_fine g (apply_all st ws))

-- ---- permitted batches

-- B14 "A batch is permitted, from a state, if it is a row of whole permitted packets and keeps the pair.". B15 "The batch of no words is
-- permitted.", as no packets
pub record Permitted (g : Terms) (st ws : List ℕ) : Type 0 where
  pub cut : Cut g ws
  pub pair : T (pair_kept g st (all_writes cut.packets))

-- D3 "some permitted batch begins with" these words; what it goes on with is words of 32 bits
pub record Begins (g : Terms) (st ws : List ℕ) : Type 0 where
  pub more : List ℕ
  pub words : All Word more
  pub permitted : Permitted g st (ws ++ more)

-- p is D3 "the length of the longest beginning of the batch that some permitted batch begins with"
pub record Longest (g : Terms) (st ws : List ℕ) (p : ℕ) : Type 0 where
  pub within : p ≤ length ws
  pub begins : Begins g st (take p ws)
  pub longest : (n : ℕ) → n ≤ length ws → Begins g st (take n ws) → n ≤ p

-- ---- states that a batch reaches

-- a permitted batch of 32-bit words that takes the empty state to st
pub record Takes (g : Terms) (ws st : List ℕ) : Type 0 where
  pub words : All Word ws
  pub permitted : Permitted g empty ws
  pub leaves : apply_all empty (all_writes permitted.cut.packets) ≡ st

-- D2 "some batch leads from the empty state to a state"
pub record Reached (g : Terms) (st : List ℕ) : Type 0 where
  pub batch : List ℕ
  pub takes : Takes g batch st
