-- A header or a setting and the words behind it, from what the code makes of them.
-- Assumes nothing.
use mathlib.Core.Path.{◌≡◌, sym, ap, ◌∙◌}
use mathlib.Core.Bool.{true, false}
use mathlib.Core.List.{List, ◌∷◌}
use Prim.Native.Nat.{ℕ, ◌+◌, ◌≤◌, ◌<◌}
use native.Mathlib.Numerals.{add-one}
use lib.ListN.{length, get_or}
use lib.Seq.{slice, slice-cons}
use Rattle.std.specs.Prelude.{Option, Some}
use Rattle.meaning.specs.declared.Kind.{Kind}
use Rattle.meaning.specs.declared.Reason.{Reason}
use Rattle.meaning.specs.declared.Kind.TheVariants.{Setting, Parameter}
use Rattle.meaning.specs.Grants.{Terms}
use Rattle.meaning.specs.Batch.{allowed}
use Rattle.meaning.specs.State.{apply_all}
use Rattle.meaning.specs.Positions.{kind_of, after, goes, carries}
use Rattle.meaning.specs.Answers.{Answer, bad_setting, answer, number}
use Rattle.meaning.specs.Reader.{unless, header_reason, word_reason}
use Rattle.grants.specs.declared.Kept.{Kept}
use Rattle.grants.specs.declared.RoleGrants.{RoleGrants}
use Rattle.grants.specs.Held.{IsRole, IsKept, OfRole}
use Rattle.rows_video.specs.Scalers.{Scaler}
use Rattle.rows_video.proofs.Scalers.{scaler_granted}
use Rattle.headers.specs.declared.Group.{Group}
use Rattle.headers.specs.Headers.{group_of}
use Rattle.headers.specs.Told.{Leads}
use Rattle.headers.proofs.Groups.{names}
use Rattle.bodies.specs.Passes.{passed, Comes, body_from}
use Rattle.meaning.proofs.Refusals.{refused}
use Rattle.bodies.proofs.Bodies.{else_stop, comes}
use Rattle.packets.specs.Packets.{headed}

-- ---- a header, and the words at hand

module _ (g : Terms) (i h : ℕ) (ws st : List ℕ) where
  pub head_refused : (r : Reason) → header_reason h ≡ number r → Comes (answer (number r) i) st (headed g i h ws st)
  unfolding headed
  head_refused r e = comes (ap (λ (x : ℕ). passed x i st) (sym e) ∙ sym (else_stop (header_reason h) i st _ (λ z. refused r (sym e ∙ z))))

  pub head_passed : header_reason h ≡ 0 → {kind : Kind} → kind_of h ≡ kind → {a : Answer} {left : List ℕ} → Comes a left (body_from g (i + 1) kind ws st) → Comes a left (headed g i h ws st)
  unfolding headed
  head_passed z k is = rw (z, k, ← add-one i) is

-- ---- a setting, and the parameters behind it

-- one that names a group
pub leads : (s : ℕ) {f : Option Group} {G : Group} → f ≡ group_of s → f ≡ Some G → Leads s G
leads s e some = rw (← e, some) at (names s)

module _ (g : Terms) (ws : List ℕ) {s : ℕ} (at : ℕ) (es : s ≡ get_or ws at 0) (end : ℕ) (l : at < end) (whole : end ≤ length ws) (st : List ℕ) where
  opened : slice at end ws ≡ s ∷ slice (at + 1) end ws
  opened = rw (es, add-one at) (slice-cons at end ws 0 l whole)

  first : allowed s ≡ true → body_from g at Setting (slice at end ws) st ≡ body_from g (at + 1) (Parameter s) (slice (at + 1) end ws) st
  unfolding body_from word_reason unless after goes carries apply_all
  first f = ap (λ (x : List ℕ). body_from g at Setting x st) opened ∙ rw (f, add-one at)

  -- one that is allowed,
  pub settled : allowed s ≡ true → {a : Answer} {left : List ℕ} → Comes a left (body_from g (at + 1) (Parameter s) (slice (at + 1) end ws) st) → Comes a left (body_from g at Setting (slice at end ws) st)
  settled f is = rw (first f) is

  -- and one that is not
  pub unsettled : allowed s ≡ false → Comes (answer bad_setting at) st (body_from g at Setting (slice at end ws) st)
  unfolding body_from word_reason unless
  unsettled f = comes (sym (ap (λ (x : List ℕ). body_from g at Setting x st) opened ∙ rw f))

-- ---- what is kept for a role

pub kept_scaler : {k : Kept} {role : ℕ} {r : RoleGrants} → OfRole k role r → {c : ℕ} → Scaler c role → (g : Terms) → IsKept g k → IsRole g role r
kept_scaler {k} o s g is = rw (o.starts, o.lasts, o.part) (scaler_granted g k.starts.now k.lasts.now k.bounds.now s is)

pub kept_target : {k : Kept} {r : RoleGrants} → OfRole k 1 r → (g : Terms) → IsKept g k → IsRole g 1 r
kept_target o g is = rw (o.starts, o.lasts, o.part) is.targets
