-- The kind of a word by the number that it stands under.
-- Assumes nothing.
use Rattle.std.specs.Prelude.{Option, Some}
use mathlib.Core.Path.{◌≡◌}
use mathlib.Core.Bool.{true, false}
use Prim.Native.Nat.{ℕ}
use borrow.Author.Tests.{eq-eqb, ne_eqb}
use Rattle.meaning.specs.declared.Kind.{Kind}
use Rattle.meaning.specs.declared.Kind.TheVariants.{Setting, Parameter, Video}
use Rattle.meaning.specs.Words.{video_offset}
use Rattle.meaning.specs.Grants.{Terms}
use Rattle.meaning.specs.Batch.{allowed}
use Rattle.headers.specs.declared.Group.{Group}
use Rattle.headers.specs.Headers.{group_of}
use Rattle.headers.specs.Told.{Leads, Names}
use Rattle.headers.proofs.Groups.{names}
use Rattle.asking.specs.Asked.{Asked, kind_from, asked_in}

-- ---- the group of a number

-- a number that names a group leads there
pub leads : (s : ℕ) {f : Option Group} {G : Group} → f ≡ group_of s → f ≡ Some G → Leads s G
leads s e is = rw (← e, is) at (names s)

-- ---- the kind

module _ (u : ℕ) where
  -- under a setting that is allowed stands a parameter,
  pub from_setting : allowed u ≡ true → kind_from u ≡ Parameter u
  unfolding kind_from
  from_setting e = rw e

  -- under 0 a setting,
  pub from_zero : allowed u ≡ false → u ≡ 0 → kind_from u ≡ Setting
  unfolding kind_from
  from_zero e z = rw (e, eq-eqb u 0 z)

  -- and under any other number a word for a video register
  pub from_offset : allowed u ≡ false → (u ≡ 0 → ⊥) → kind_from u ≡ Video (video_offset u)
  unfolding kind_from
  from_offset e n = rw (e, ne_eqb u 0 n)

-- a word is told the same at the same position
pub at_position : (g : Terms) (w : ℕ) {have kind : Kind} {j k : ℕ} {a : Asked} → have ≡ kind → j ≡ k → a ≡ asked_in g kind k w → a ≡ asked_in g have j w
at_position g w e f h = rw (e, f) h
