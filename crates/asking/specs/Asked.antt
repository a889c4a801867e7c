-- A word's position as two numbers, and what a word is told by its position.
-- Assumes nothing.
use Rattle.std.specs.Prelude.{cond, List, [], ◌∷◌, ℕ, zero, suc, ◌+◌, min, eqb, get_or}
use Rattle.meaning.specs.declared.Cell.{Cell}
use Rattle.meaning.specs.declared.Kind.{Kind}
use Rattle.meaning.specs.declared.Kind.TheVariants.{Setting, Parameter, Video}
use Rattle.meaning.specs.Words.{video_offset}
use Rattle.meaning.specs.Registers.{cells, cell}
use Rattle.meaning.specs.Grants.{Terms, most_grants}
use Rattle.meaning.specs.Batch.{allowed}
use Rattle.meaning.specs.State.{Write}
use Rattle.meaning.specs.Positions.{next_kind, next_left, write_at}
use Rattle.meaning.specs.Answers.{success}
use Rattle.meaning.specs.Reader.{judge}
use Rattle.grants.specs.declared.Part.{Part}

-- ---- positions

-- what the next word of a packet is, by the number that it stands under: parameters stand under a setting that is allowed, the setting
-- itself under 0, and a word for a video register under its offset
unfoldable pub kind_from : ℕ → Kind
kind_from u = cond (allowed u) (Parameter u) (cond (eqb u 0) Setting (Video (video_offset u)))

-- and the number for it
abbrev pub under_of : Kind → ℕ
under_of Setting = 0
under_of (Parameter s) = s
under_of (Video o) = o.0

-- ---- grants

-- the part of a role, where bounds may be any bytes: it never reaches past the room there is
abbrev pub part_in : List ℕ → ℕ → Part
part_in bounds role = record { from = get_or bounds role 0; to = min (get_or bounds (4 + role) 0) most_grants }

-- such bounds as those that grants are kept with
unfoldable pub capped : List ℕ → List ℕ
capped bounds =
    0 ∷ (part_in bounds 1).from ∷ (part_in bounds 2).from ∷ (part_in bounds 3).from
    ∷ 0 ∷ (part_in bounds 1).to ∷ (part_in bounds 2).to ∷ (part_in bounds 3).to ∷ []

-- ---- words

-- the cell that a word writes, no cell's number where it writes none,
abbrev pub cell_of : List Write → Cell
cell_of [] = cell cells
cell_of (w ∷ ws) = w.cell

-- and the value
abbrev pub value_of : List Write → ℕ
value_of [] = 0
value_of (w ∷ ws) = w.value

-- what a word is told: a reason, and if that is success the next word's position and what this one writes
pub record Asked : Type 0 where
  pub reason : ℕ
  pub left : ℕ
  pub under : ℕ
  pub cell : Cell
  pub value : ℕ

-- a refusal: nothing else is told
abbrev pub stopped : ℕ → Asked
stopped r = record { reason = r; left = 0; under = 0; cell = cell cells; value = 0 }

-- a word that is taken: the next position, and what it writes
abbrev pub taken_as : ℕ → ℕ → Cell → ℕ → Asked
taken_as k u c v = record { reason = success; left = k; under = u; cell = c; value = v }

-- one that writes nothing
abbrev pub moved_on : ℕ → ℕ → Asked
moved_on k u = taken_as k u (cell cells) 0

-- nothing speaks against the word: where the next one stands, and what this one writes
abbrev pub passed : Kind → ℕ → ℕ → Asked
passed kind k w = taken_as (next_left k w) (under_of (next_kind kind k w)) (cell_of (write_at kind k w)) (value_of (write_at kind k w))

-- by the word's reason
abbrev pub unless_stopped : ℕ → Asked → Asked
unless_stopped zero a = a
unless_stopped (suc r) a = stopped (suc r)

-- a word for the video register of a cell, with that reason: the next one is bound for the offset behind it
abbrev pub bound_for : ℕ → ℕ → ℕ → ℕ → Cell → Asked
bound_for r o w k c = unless_stopped r (taken_as k (o + 4) c w)

-- what a word is told, of that kind and with so many words left in its packet
unfoldable pub asked_in : Terms → Kind → ℕ → ℕ → Asked
asked_in g kind k w = unless_stopped (judge g kind k w) (passed kind k w)
