-- The fitter's question, whether one program can scribble on the other: addresses, their reach, and the memory that grants give. Whole
-- numbers.
-- Assumes nothing.
use Rattle.std.specs.Prelude.{◌≡◌, cond, ℕ, zero, suc, ◌+◌, ◌≤◌, ◌<◌, T, eqb}
use mathlib.Core.List.{List, [], ◌∷◌, Memᴰ}
use Rattle.laws.specs.Lists.{All}
use Rattle.meaning.specs.declared.Memory.{Memory}
use Rattle.meaning.specs.declared.Memory.TheVariants.{Either, Only}
use Rattle.meaning.specs.Registers.{Content, nothing, address, register_at}
use Rattle.meaning.specs.Grants.{Grant}
use Rattle.meaning.specs.State.{mark_at, Write}
use Rattle.meaning.specs.Pair.{target_cell, memory_of, target_of, wrote_pair}

-- G10 "in that memory": said of one grant, as a fact
abbrev pub LiesIn : Memory → Grant → Type 0
LiesIn Either x = Unit {0}
LiesIn (Only m) x = x.memory ≡ m

-- G5 "grant of that role has start ≤ a and a + reach ≤ start + length", and G10 "is in that memory": said of one grant, as facts
pub record Admits (x : Grant) (m : Memory) (role a : ℕ) : Type 0 where
  pub lies : LiesIn m x
  pub role_is : x.role ≡ role
  pub from : x.start ≤ a
  pub to : a + x.reach ≤ x.start + x.length

-- G7 "Grants are numbered from 0, as the list has them": said of one grant
abbrev pub Numbered : ℕ → Grant → List Grant → Type 0
Numbered n x [] = ⊥
Numbered zero x (y ∷ gs) = x ≡ y
Numbered (suc n) x (y ∷ gs) = Numbered n x gs

-- G8 "the lowest-numbered one by which the role is granted it": said as a fact
pub record LowestOf (gs : List Grant) (m : Memory) (role a n : ℕ) : Type 0 where
  pub grant : Grant
  pub numbered : Numbered n grant gs
  pub admits : Admits grant m role a
  pub lowest : (k : ℕ) (x : Grant) → k < n → Numbered k x gs → ¬ Admits x m role a

-- G8 "nobody admits it"
abbrev pub NoneOf : List Grant → Memory → ℕ → ℕ → Type 0
NoneOf gs m role a = (k : ℕ) (x : Grant) → Numbered k x gs → ¬ Admits x m role a

-- an address with a reach touches a byte
abbrev pub Touches : ℕ → ℕ → ℕ → Type 0
Touches a reach b = (a ≤ b) × (b < a + reach)

-- a grant's range has byte b of memory m
abbrev pub Contains : Grant → ℕ → ℕ → Type 0
Contains x m b = (x.memory ≡ m) × ((x.start ≤ b) × (b < x.start + x.length))

-- G5 "A role is granted an address a if some grant of that role has", G10 "It is granted a in a memory if": said as a fact
pub record Inside (ours : List Grant) (m : Memory) (role a : ℕ) : Type 0 where
  pub grant : Grant
  pub listed : Memᴰ grant ours
  pub admits : Admits grant m role a

-- no range of the one list meets a range of the other: no byte of one memory is in both
abbrev pub Apart : List Grant → List Grant → Type 0
Apart ours theirs = (x y : Grant) → Memᴰ x ours → Memᴰ y theirs → (m b : ℕ) → Contains x m b → ¬ Contains y m b

-- within the reach of any grant of ours that admits it, the address touches nothing that is theirs in the memory of that grant
abbrev pub Harmless : List Grant → List Grant → Memory → ℕ → ℕ → Type 0
Harmless ours theirs m role a =
    (x y : Grant) → Memᴰ x ours → Admits x m role a → Memᴰ y theirs → (b : ℕ) → Touches a x.reach b → ¬ Contains y x.memory b

-- some grant of ours admits the address, and it is harmless
abbrev pub Safe : List Grant → List Grant → Memory → ℕ → ℕ → Type 0
Safe ours theirs m role a = Inside ours m role a × Harmless ours theirs m role a

-- ---- addresses that are written

-- the memory of the address that a word writes: a scaler's is in memory 0, by G9, and the target's in either, until the pair is judged
abbrev pub written_in : ℕ → Memory
written_in role = cond (eqb role 1) Either (Only 0)

-- a property of the address that a write stores, where it stores one
abbrev pub OfAddress : (Memory → ℕ → ℕ → Type 0) → Content → Type 0
OfAddress P nothing = Unit {0}
OfAddress P (address role a) = P (written_in role) role a

-- of a write, by the register of its cell
abbrev pub Stores : (Memory → ℕ → ℕ → Type 0) → Write → Type 0
Stores P w = OfAddress P ((register_at w.cell).holds w.value)

-- the same property of the target's address in a state, where it has one, in the memory that cell 2 names
abbrev pub OfTarget : (Memory → ℕ → ℕ → Type 0) → List ℕ → Type 0
OfTarget P st = 0 < mark_at st target_cell → P (Only (memory_of st)) 1 (target_of st)

-- what is promised of an accepted batch's writes, and of the state that they make: of each address that is written; and, where cell 1 or
-- 2 is written, of the target's in its memory
pub record EachKept (P : Memory → ℕ → ℕ → Type 0) (ws : List Write) (left : List ℕ) : Type 0 where
  pub each : All (Stores P) ws
  pub target : T (wrote_pair ws) → OfTarget P left
