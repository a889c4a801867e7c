-- A result is told by its number, and an answer by its reason and its place: so two results that tell the same are equal.
-- Assumes nothing.
use Rattle.std.specs.Prelude.{◌≡◌, ◌≤◌, ℕ, cond, eqb, Result, Ok, Err}
use mathlib.Core.Path.{refl, sym, ap, ap₂, ◌∙◌}
use mathlib.Core.HLevel.{is_prop→PathP}
use native.Mathlib.Bridge.{le_prop}
use native.Mathlib.Omega.{arith}
use Rattle.meaning.specs.declared.Cell.{Cell}
use Rattle.meaning.specs.declared.Reason.{Reason}
use Rattle.meaning.specs.declared.Reason.TheVariants as by
use Rattle.meaning.specs.declared.Refusal.{Refusal}
use Rattle.meaning.specs.Answers.{Answer, number, reason_in, answer_in}
use Rattle.meaning.proofs.Refusals.{refused}
use Rattle.meaning.specs.Grants.{most_grants}
use Rattle.grants.specs.declared.RoleGrants.{RoleGrants}
use Rattle.asking.specs.declared.Taken.{Taken}
use Rattle.asking.specs.Asked.{Asked}
use Rattle.asking.specs.Told.{asked_as}

-- the reason of a number
abbrev named : ℕ → Reason
named n =
    cond (eqb n 1) by.BadState
    (cond (eqb n 2) by.BadGrants
    (cond (eqb n 3) by.BadOffset
    (cond (eqb n 4) by.BadCount
    (cond (eqb n 5) by.BadSetting
    (cond (eqb n 6) by.NoRegister
    (cond (eqb n 7) by.BitSet
    (cond (eqb n 8) by.BadValue
    (cond (eqb n 9) by.NotGranted
    (cond (eqb n 10) by.EndsInside
    (cond (eqb n 11) by.NoRoom
    (cond (eqb n 12) by.NotWritable
    (cond (eqb n 13) by.BadBuffer
    (cond (eqb n 14) by.BadPair
    (cond (eqb n 19) by.NotAListing by.EngineFull))))))))))))))

named_again : (r : Reason) → named (number r) ≡ r
named_again by.BadState = refl
named_again by.BadGrants = refl
named_again by.BadOffset = refl
named_again by.BadCount = refl
named_again by.BadSetting = refl
named_again by.NoRegister = refl
named_again by.BitSet = refl
named_again by.BadValue = refl
named_again by.NotGranted = refl
named_again by.EndsInside = refl
named_again by.NoRoom = refl
named_again by.NotWritable = refl
named_again by.BadBuffer = refl
named_again by.BadPair = refl
named_again by.NotAListing = refl
named_again by.EngineFull = refl

-- reasons of one number are one
one_reason : (r r' : Reason) → number r ≡ number r' → r ≡ r'
one_reason r r' e = sym (named_again r) ∙ ap named e ∙ named_again r'

-- so are verdicts,
pub one_verdict : (v v' : Result (Unit {0}) Reason) → reason_in v ≡ reason_in v' → v ≡ v'
one_verdict (Ok a) (Ok b) e = refl
one_verdict (Ok a) (Err r) e = absurd (refused r (sym e))
one_verdict (Err r) (Ok a) e = absurd (refused r e)
one_verdict (Err r) (Err r') e = ap Err (one_reason r r' e)

-- answers,
one_refusal : (f f' : Refusal) → number f.reason ≡ number f'.reason → f.place ≡ f'.place → f ≡ f'
one_refusal f f' e p = ap₂ (λ (r : Reason) (n : ℕ). record { reason = r; place = n }) (one_reason f.reason f'.reason e) p

pub one_result : (x x' : Result ℕ Refusal) → answer_in x ≡ answer_in x' → x ≡ x'
one_result (Ok p) (Ok p') e = ap Ok (ap (λ (a : Answer). a.place) e)
one_result (Ok p) (Err f) e = absurd (refused f.reason (sym (ap (λ (a : Answer). a.reason) e)))
one_result (Err f) (Ok p) e = absurd (refused f.reason (ap (λ (a : Answer). a.reason) e))
one_result (Err f) (Err f') e = ap Err (one_refusal f f' (ap (λ (a : Answer). a.reason) e) (ap (λ (a : Answer). a.place) e))

-- and what a word is told
abbrev taken : ℕ → ℕ → Cell → ℕ → Taken
taken l u c v = record { left = l; under = u; cell = c; value = v }

one_taken : (t t' : Taken) → t.left ≡ t'.left → t.under ≡ t'.under → t.cell ≡ t'.cell → t.value ≡ t'.value → t ≡ t'
one_taken t t' l u c v =
    ap (λ (x : ℕ). taken x t.under t.cell t.value) l
    ∙ ap (λ (x : ℕ). taken t'.left x t.cell t.value) u
    ∙ ap (λ (x : Cell). taken t'.left t'.under x t.value) c
    ∙ ap (λ (x : ℕ). taken t'.left t'.under t'.cell x) v

pub one_asked : (x x' : Result Taken Reason) → asked_as x ≡ asked_as x' → x ≡ x'
one_asked (Ok t) (Ok t') e =
    ap Ok (one_taken t t' (ap (λ (a : Asked). a.left) e) (ap (λ (a : Asked). a.under) e) (ap (λ (a : Asked). a.cell) e) (ap (λ (a : Asked). a.value) e))
one_asked (Ok t) (Err r) e = absurd (refused r (sym (ap (λ (a : Asked). a.reason) e)))
one_asked (Err r) (Ok t) e = absurd (refused r (ap (λ (a : Asked). a.reason) e))
one_asked (Err r) (Err r') e = ap Err (one_reason r r' (ap (λ (a : Asked). a.reason) e))

-- kept grants of one role over the same arrays and the same part are one: that the part lies inside its room is one fact
pub one_role : (r r' : RoleGrants) → r.starts ≡ r'.starts → r.lasts ≡ r'.lasts → r.numbers ≡ r'.numbers → r.part ≡ r'.part → r ≡ r'
one_role r r' s l n p = λ i. record {
  starts = s i;
  lasts = l i;
  numbers = n i;
  part = p i;
  inside = is_prop→PathP (λ j. (p j).to ≤ most_grants) (λ j. le_prop) r.inside r'.inside i;
}
