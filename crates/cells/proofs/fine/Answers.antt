-- A vacant cell may be written; of another its width is asked, and then the reason decides.
-- Assumes nothing.
use mathlib.Core.Path.{◌≡◌, sym, ◌∙◌}
use native.Mathlib.Omega.{arith}
use lib.Dec.{eqb}
use Rattle.std.specs.Prelude.{Result}
use Rattle.std.specs.Result.{is_ok}
use Rattle.laws.proofs.Arms.{told_true, told_false}
use Rattle.meaning.specs.declared.Reason.{Reason}
use Rattle.meaning.specs.Answers.{reason_in}
use Rattle.cells.proofs.Known.{known}
use Rattle.cells.proofs.Asked.{whole, passed_over, looked_at_lem}
use Rattle.cells.proofs.fine.Goals as goal

-- every reason has a number other than 0
nothing_against : {A : Type 0} (r : Result A Reason) → is_ok r ≡ eqb (reason_in r) 0
nothing_against r = grind arith

pub value-value-requires : goal.value-value-requires
value-value-requires c = record { whole = whole _ c.requires.formed; inside = (known c.requires.row.1).low }

pub vacant-requires : goal.vacant-requires
vacant-requires c = record { whole = whole _ c.requires.formed; inside = (known c.requires.row.1).low }

pub returns-then-vacant : goal.returns-then-vacant
returns-then-vacant c = record { fine = λ g role is given. c.if-vacant.true ∙ sym (passed_over g _ c.requires.formed (known is) c.value-value.ensures.value c.vacant.ensures.vacant c.if-vacant.true) }

pub returns-then-narrow : goal.returns-then-narrow
returns-then-narrow c = record {
  fine = λ g role is given. sym (looked_at_lem g _ c.requires.formed (known is) c.value-value.ensures.value c.vacant.ensures.vacant c.if-vacant.false
      ∙ rw (told_true c.narrow.ensures.narrow c.if-narrow.true, ← c.row_reason.ensures.reason g _ role is given) (sym (c.is_ok.ensures.value ∙ nothing_against _)));
}

pub returns-else-narrow : goal.returns-else-narrow
returns-else-narrow c = record {
  fine = λ g role is given. c.if-narrow.false
      ∙ sym (looked_at_lem g _ c.requires.formed (known is) c.value-value.ensures.value c.vacant.ensures.vacant c.if-vacant.false ∙ rw (told_false c.narrow.ensures.narrow c.if-narrow.false));
}
