-- What a word is told at each position, from what the code makes of it.
-- Assumes nothing.
use Rattle.std.specs.Prelude.{Some, None}
use mathlib.Core.Path.{◌≡◌, refl, sym, ap, ◌∙◌}
use mathlib.Core.Bool.{true, false}
use Prim.Native.Nat.{ℕ, zero, suc}
use Rattle.meaning.specs.declared.Cell.{Cell}
use Rattle.meaning.specs.declared.SubAddress.{SubAddress}
use Rattle.meaning.specs.declared.VideoOffset.{VideoOffset}
use Rattle.meaning.specs.declared.Kind.{Kind}
use Rattle.meaning.specs.declared.Kind.TheVariants.{Setting, Parameter, Video}
use Rattle.meaning.specs.Words.{count, offset, sub_address, data24}
use Rattle.meaning.specs.Registers.{register_at, find_video}
use Rattle.meaning.specs.Grants.{Terms}
use Rattle.meaning.specs.Batch.{allowed, named}
use Rattle.meaning.specs.Positions.{kind_of, after, next_kind, next_left, goes, carries, write_at}
use Rattle.meaning.specs.declared.Reason.{Reason}
use Rattle.meaning.specs.Answers.{bad_count, bad_setting, success, number}
use Rattle.meaning.specs.Reader.{unless, value_reason, header_reason, word_reason, judge}
use Rattle.headers.specs.declared.Group.{Group}
use Rattle.headers.specs.Told.{Runs, cell_in, Leads}
use Rattle.judging.specs.Judged.{reason_for, cell_for}
use Rattle.judging.proofs.Judging.{cell_judged}
use Rattle.meaning.proofs.Refusals.{refused}
use Rattle.bodies.proofs.Bodies.{parameter_asked}
use Rattle.asking.specs.Asked.{Asked, under_of, stopped, taken_as, moved_on, passed, unless_stopped, bound_for, asked_in}
use Rattle.asking.proofs.Offsets.{run_offset}

-- ---- a reason that is 0, and one that is not

-- one that is not 0 is all that is told,
pub stops : (r : ℕ) (a : Asked) → (r ≡ 0 → ⊥) → stopped r ≡ unless_stopped r a
stops zero a n = absurd (n refl)
stops (suc r) a n = refl

-- and with 0 the word passes
pub passes : {r : ℕ} (a : Asked) → r ≡ 0 → a ≡ unless_stopped r a
passes a e = rw e

module _ (g : Terms) (kind : Kind) (k w : ℕ) where
  refused_by_lem : (r : ℕ) → judge g kind k w ≡ r → (r ≡ 0 → ⊥) → stopped r ≡ asked_in g kind k w
  unfolding asked_in
  refused_by_lem r e n = rw e (stops r (passed kind k w) n)

  taken : judge g kind k w ≡ 0 → {a : Asked} → a ≡ passed kind k w → a ≡ asked_in g kind k w
  unfolding asked_in
  taken e h = rw e h

-- ---- a header

module _ (g : Terms) (kind : Kind) (w : ℕ) where
  -- one that is refused,
  pub header_refused : (r : Reason) → header_reason w ≡ number r → stopped (number r) ≡ asked_in g kind 0 w
  unfolding judge
  header_refused r e = refused_by_lem g kind 0 w (number r) e (refused r)

  -- one that opens a body of a kind,
  pub header_taken : header_reason w ≡ 0 → {next : Kind} → kind_of w ≡ next → {n u : ℕ} → n ≡ count w → u ≡ under_of next → moved_on n u ≡ asked_in g kind 0 w
  unfolding judge next_kind next_left write_at
  header_taken z e en eu = taken g kind 0 w z (rw (en, eu, e))

  -- and so one that opens a run
  pub run_taken : {c i m : ℕ} → Runs w c i m → {n u : ℕ} → n ≡ count w → u ≡ offset w → moved_on n u ≡ asked_in g kind 0 w
  run_taken run en eu = header_taken run.fine run.kind en (eu ∙ ap (λ (x : VideoOffset). x.0) (run_offset w run.kind))

-- ---- a setting

module _ (g : Terms) (k w : ℕ) where
  -- one that is not allowed,
  pub setting_refused : allowed w ≡ false → stopped bad_setting ≡ asked_in g Setting (suc k) w
  unfolding asked_in judge word_reason unless
  setting_refused e = rw e

  -- and one that is
  pub setting_taken : allowed w ≡ true → moved_on k w ≡ asked_in g Setting (suc k) w
  unfolding asked_in judge word_reason unless next_kind next_left after write_at goes carries
  setting_taken e = rw e

-- ---- a parameter of a group, from what the code reads of it and how that is judged

module _ {G : Group} (a : SubAddress) (d : ℕ) (g : Terms) (s k w : ℕ) (leads : Leads s G) (ea : a ≡ sub_address w) (ed : d ≡ data24 w)
    {v : ℕ} (told : v ≡ reason_for g (cell_in G a) d) where
  asked_is : word_reason g (Parameter s) w ≡ v
  asked_is = sym (parameter_asked a d g s w leads ea ed told)

  -- one that something speaks against,
  pub parameter_refused : (r : Reason) → v ≡ number r → stopped (number r) ≡ asked_in g (Parameter s) (suc k) w
  unfolding judge
  parameter_refused r e = refused_by_lem g (Parameter s) (suc k) w (number r) (asked_is ∙ e) (refused r)

  -- and one that writes the cell that was found
  pub parameter_taken : v ≡ success → {c : Cell} → c ≡ cell_for (cell_in G a) → taken_as k s c d ≡ asked_in g (Parameter s) (suc k) w
  unfolding judge next_kind next_left after write_at goes carries
  parameter_taken z {c} ec =
      let at : named s w ≡ Some c = rw (sym ea) (leads.found a ∙ cell_judged g d (cell_in G a) told ec z) in
      taken g (Parameter s) (suc k) w (asked_is ∙ z) (rw (at, ed))

-- ---- a word for a video register

module _ (g : Terms) (o : VideoOffset) (k w : ℕ) where
  -- there is no register at the offset,
  pub video_none : find_video o ≡ None → stopped bad_count ≡ asked_in g (Video o) (suc k) w
  unfolding asked_in judge word_reason
  video_none e = rw e

  -- and there is one
  pub video_at : {c : Cell} → find_video o ≡ Some c → {r p : ℕ} → r ≡ value_reason g (register_at c) w → p ≡ o.0 → {a : Asked} → a ≡ bound_for r p w k c → a ≡ asked_in g (Video o) (suc k) w
  unfolding asked_in judge word_reason next_kind next_left after write_at goes carries
  video_at e er ep h = h ∙ rw (e, er, ep)
