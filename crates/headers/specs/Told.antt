-- What is told by a header that is opened and by the group of a setting. proofs/Openings and proofs/Groups show that it is so.
-- Assumes nothing.
use Rattle.meaning.specs.declared.Cell.{Cell}
use Rattle.std.specs.Prelude.{◌≡◌, true, false, cond, ℕ, ◌+◌, ◌*◌, ◌≤◌, ◌<◌, eqb, Option, Some, None, Result, Ok, Err}
use Rattle.meaning.specs.declared.SubAddress.{SubAddress}
use Rattle.meaning.specs.declared.Kind.TheVariants as kinds
use Rattle.meaning.specs.Words.{count, para_type, para_sub_type}
use Rattle.meaning.specs.Registers.{cell, find_3d}
use Rattle.meaning.specs.Batch.{allowed}
use Rattle.meaning.specs.Positions.{kind_of}
use Rattle.meaning.specs.Answers.{number}
use Rattle.meaning.specs.declared.Reason.{Reason}
use Rattle.meaning.specs.Reader.{header_reason}
use Rattle.registers.specs.Names.{offset_of, ranged}
use Rattle.rows_video.specs.Scalers as rows
use Rattle.headers.specs.declared.Header.{Header}
use Rattle.headers.specs.declared.Header.TheVariants.{Setting, Overlay, Scaler}
use Rattle.headers.specs.declared.Group.{Group}
use Rattle.headers.specs.declared.Group.TheVariants.{Target, Stage, Sample}

-- ---- headers

-- a run of n words from register i of a row of m registers on, the first of them cell c
pub record Runs (h c i m : ℕ) : Type 0 where
  pub fine : header_reason h ≡ 0
  pub kind : kind_of h ≡ kinds.Video (offset_of (cell (c + i)))
  pub row : i + count h ≤ m

-- what each case tells of the header
abbrev pub Opens : ℕ → Result Header Reason → Type 0
Opens h (Err r) = header_reason h ≡ number r
Opens h (Ok Setting) = (header_reason h ≡ 0) × (kind_of h ≡ kinds.Setting)
Opens h (Ok (Overlay i)) = Runs h 84 i 3
Opens h (Ok (Scaler s)) = Runs h s.base.0 s.index 7 × rows.Scaler s.base.0 s.role

-- ---- groups

-- the cell that a sub-address names in a group
unfoldable pub cell_in : Group → SubAddress → Option Cell
cell_in Target a = cond (eqb a.0 0x3F) (Some (cell 0)) (ranged 0x50 3 1 a.0)
cell_in (Stage c) a = ranged 0x50 2 c.0 a.0
cell_in (Sample c) a = ranged 0x30 3 c.0 a.0

-- a group of the table
pub data IsGroup : Group → Type 0 where
  target : IsGroup Target
  stage : (n : ℕ) → n < 16 → IsGroup (Stage (cell (4 + 2 * n)))
  sample : (n : ℕ) → n < 16 → IsGroup (Sample (cell (36 + 3 * n)))

-- a setting that is allowed names a group of the table, and that group tells where each sub-address leads
pub record Leads (s : ℕ) (G : Group) : Type 0 where
  pub fine : allowed s ≡ true
  pub group : IsGroup G
  pub found : (a : SubAddress) → find_3d (para_type s) (para_sub_type s) a ≡ cell_in G a

-- what each case tells of the setting
abbrev pub Names : ℕ → Option Group → Type 0
Names s None = allowed s ≡ false
Names s (Some G) = Leads s G
