-- A word fed, by what was found of it.
-- Assumes nothing.
use mathlib.Core.Path.{◌≡◌, refl, sym, ap, ◌∙◌}
use mathlib.Core.Logic.{◌≢◌}
use mathlib.Core.List.{List}
use Prim.Native.Nat.{ℕ, zero, suc, ◌+◌, ◌*◌, ◌≤◌, ◌<◌}
use native.Mathlib.Omega.{arith}
use borrow.Author.Tests.{le-leb, lt-leb, lt-ltb, le-ltb}
use lib.ListN.{set}
use mir.Syntax.{w32, w64}
use mir.Val.{Fits}
use Rattle.meaning.specs.Registers.{cells}
use Rattle.meaning.specs.Grants.{Terms}
use Rattle.meaning.specs.Answers.{engine_full}
use Rattle.meaning.specs.Engine.{most_fed}
use Rattle.asking.specs.Asked.{Asked, kind_from, asked_in}
use Rattle.engine.specs.declared.Engine.{Engine}
use Rattle.engine.specs.Bits.{with_mark}
use Rattle.engine.specs.Kept.{refused_by, taken_by, told_by, unless_refused, fed_with}

-- the number of words fed, one more, and where a cell stands among the values, in bytes. Said here, away from all that is known of an engine,
-- since that would be searched
pub one_more : (n : ℕ) → n < most_fed → Fits w32 (n + 1)
one_more n h = omega arith

pub at_cell : (c : ℕ) → c < cells → Fits w64 (c * 4)
at_cell c h = omega arith

stays : (r : ℕ) (e next : Engine) → r ≢ 0 → e ≡ unless_refused r e next
stays zero e next n = absurd (n refl)
stays (suc r) e next n = refl

told_refused : (r : ℕ) (a : Asked) (e : Engine) → r ≢ 0 → refused_by r e ≡ told_by r a e
told_refused zero a e n = absurd (n refl)
told_refused (suc r) a e n = refl

module _ (g : Terms) (e : Engine) (w : ℕ) where
  -- a refusal stands
  pub fed_stays : e.reason ≢ 0 → e ≡ fed_with g e w
  unfolding fed_with
  fed_stays n = stays e.reason e _ n

  module _ (z : e.reason ≡ 0) where
    -- as many words were taken as there may be
    pub fed_full : most_fed ≤ e.place → refused_by engine_full e ≡ fed_with g e w
    unfolding fed_with
    fed_full h = rw (z, le-leb most_fed e.place h)

    module _ (few : e.place < most_fed) {a : Asked} (told : a ≡ asked_in g (kind_from e.under) e.left w) where
      fed_on : told_by a.reason a e ≡ fed_with g e w
      unfolding fed_with
      fed_on = rw (z, lt-leb most_fed e.place few, sym told)

      -- the word is refused
      pub fed_refused : a.reason ≢ 0 → refused_by a.reason e ≡ fed_with g e w
      fed_refused n = told_refused a.reason a e n ∙ fed_on

      module _ (y : a.reason ≡ 0) where
        fed_taken : taken_by a e ≡ fed_with g e w
        fed_taken = ap (λ (r : ℕ). told_by r a e) (sym y) ∙ fed_on

        -- it is taken, with what the arrays then are
        abbrev after : List ℕ → List ℕ → Engine
        after values marks =
            record {
              reason = e.reason;
              place = e.place + 1;
              left = a.left;
              under = a.under;
              marks = marks;
              marked = e.marked;
              values = values;
              before = e.before;
              starts = e.starts;
              lasts = e.lasts;
              numbers = e.numbers;
              bounds = e.bounds;
            }

        -- it writes nothing,
        pub fed_unstored : cells ≤ a.cell.0 → after e.values e.marks ≡ fed_with g e w
        fed_unstored h = rw (sym fed_taken, le-ltb a.cell.0 cells h)

        -- or a cell
        pub fed_stored : a.cell.0 < cells → {marks : List ℕ} → marks ≡ with_mark e.marks a.cell.0
            → after (set e.values a.cell.0 a.value) marks ≡ fed_with g e w
        fed_stored h m = rw (sym fed_taken, lt-ltb a.cell.0 cells h, m)
