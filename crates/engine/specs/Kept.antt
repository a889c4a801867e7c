-- What an engine keeps: after opening, after a word; and what stands then, as the steps have it.
-- Assumes nothing.
use Rattle.std.specs.Prelude.{Bool, cond, List, [], ◌∷◌, ◌++◌, ℕ, zero, suc, ◌+◌, ◌%◌, leb, ltb, eqb, get_or, take, set, replicate}
use Rattle.meaning.specs.Registers.{cells}
use Rattle.meaning.specs.Grants.{Terms, most_grants, grants_of, grants_fine}
use Rattle.meaning.specs.State.{well_formed}
use Rattle.meaning.specs.Answers.{bad_state, bad_grants, bad_pair, engine_full, success, answer}
use Rattle.meaning.specs.Reader.{unless, ended}
use Rattle.meaning.specs.Engine.{most_fed}
use Rattle.keeping.specs.Keeping.{Kept, kept_of}
use Rattle.pair.specs.Marks.{cleared, restored}
use Rattle.pair.specs.Judged.{kept_in}
use Rattle.asking.specs.Asked.{Asked, kind_from, part_in, asked_in}
use Rattle.feeding.specs.Steps.{Standing}
use Rattle.engine.specs.declared.Engine.{Engine}
use Rattle.engine.specs.Bits.{bit_of, marks_of, with_mark, packed}

-- ---- opening

-- as many zeros
abbrev pub zeros : ℕ → List ℕ
zeros n = replicate n 0

-- eight bounds as bytes
abbrev pub byte_bounds : List ℕ → List ℕ
byte_bounds b =
    get_or b 0 0 % 256 ∷ get_or b 1 0 % 256 ∷ get_or b 2 0 % 256 ∷ get_or b 3 0 % 256
    ∷ get_or b 4 0 % 256 ∷ get_or b 5 0 % 256 ∷ get_or b 6 0 % 256 ∷ get_or b 7 0 % 256 ∷ []

-- before the first word: the answer, the values, the bits of the marks, those without the marks of the pair, and kept grants, their bounds as
-- bytes
abbrev pub before : ℕ → List ℕ → List ℕ → List ℕ → Kept → Engine
before r values bits outside kept =
    record {
      reason = r;
      place = 0;
      left = 0;
      under = 0;
      marks = outside;
      marked = bits;
      values = values;
      before = values;
      starts = kept.starts;
      lasts = kept.lasts;
      numbers = kept.numbers;
      bounds = byte_bounds kept.bounds;
    }

-- nothing is kept of a state or of grants
abbrev pub blank : ℕ → Engine
blank r = before r (zeros cells) (zeros 4) (zeros 4) (record { starts = zeros most_grants; lasts = zeros most_grants; numbers = zeros most_grants; bounds = zeros 8 })

-- 1 where the state is not well-formed, then 2 where the grant list breaks its rules
abbrev pub opening_reason : Bool → Bool → ℕ
opening_reason formed fine = cond formed (cond fine success bad_grants) bad_state

-- by the reason: an engine that keeps the state and the grants, or nothing of them
abbrev pub unless_blank : ℕ → Engine → Engine
unless_blank zero e = e
unless_blank (suc r) e = blank (suc r)

-- an engine that is opened with a state and grants
unfoldable pub opened_with : List ℕ → List ℕ → Engine
opened_with st grants =
    unless_blank (opening_reason (well_formed st) (grants_fine grants))
    (before success (take cells st) (packed st cells (zeros 4)) (packed (cleared st) cells (zeros 4))
    (kept_of (grants_of grants) (zeros most_grants) (zeros most_grants) (zeros most_grants)))

-- ---- a word

-- a refusal, and nothing else changes
abbrev pub refused_by : ℕ → Engine → Engine
refused_by r e =
    record {
      reason = r;
      place = e.place;
      left = e.left;
      under = e.under;
      marks = e.marks;
      marked = e.marked;
      values = e.values;
      before = e.before;
      starts = e.starts;
      lasts = e.lasts;
      numbers = e.numbers;
      bounds = e.bounds;
    }

-- a word that is taken: the next position, and its write, if it has one
abbrev pub taken_by : Asked → Engine → Engine
taken_by a e =
    record {
      reason = e.reason;
      place = e.place + 1;
      left = a.left;
      under = a.under;
      marks = cond (ltb a.cell.0 cells) (with_mark e.marks a.cell.0) e.marks;
      marked = e.marked;
      values = cond (ltb a.cell.0 cells) (set e.values a.cell.0 a.value) e.values;
      before = e.before;
      starts = e.starts;
      lasts = e.lasts;
      numbers = e.numbers;
      bounds = e.bounds;
    }

-- by what the word is told
abbrev pub told_by : ℕ → Asked → Engine → Engine
told_by zero a e = taken_by a e
told_by (suc r) a e = refused_by (suc r) e

-- by the reason that stands
abbrev pub unless_refused : ℕ → Engine → Engine → Engine
unless_refused zero e next = next
unless_refused (suc r) e next = e

-- an engine after a word, under the grants that it keeps
unfoldable pub fed_with : Terms → Engine → ℕ → Engine
fed_with g e w =
    let a = asked_in g (kind_from e.under) e.left w in
    unless_refused e.reason e (cond (leb most_fed e.place) (refused_by engine_full e) (told_by a.reason a e))

-- ---- closing

-- the reason that stands, or 10 where a packet is open
abbrev pub closing_reason : ℕ → ℕ → ℕ
closing_reason r k = cond (eqb r success) (ended k).reason r

-- and 14 where that is none and the pair is not kept
abbrev pub reason_behind : ℕ → Bool → ℕ
reason_behind r kept = cond (eqb r success) (unless kept bad_pair success) r

-- what is handed back: the state with what the words write, where there is no reason; else as it was
abbrev pub handed : ℕ → List ℕ → List ℕ → List ℕ
handed r new old = cond (eqb r success) new old

-- ---- what stands

-- the state at opening
abbrev pub opening : Engine → List ℕ
opening e = e.before ++ marks_of e.marked

-- the answer, the position, and the state with what the words write, without the marks of the pair that they do not
abbrev pub standing : Engine → Standing
standing e = record { answer = answer e.reason e.place; kind = kind_from e.under; left = e.left; pending = e.values ++ marks_of e.marks }

-- the pair, judged of what stands and of the marks at opening
abbrev pub pair_judged : Engine → Bool
pair_judged e =
    kept_in e.starts e.lasts e.numbers (part_in e.bounds 1) (bit_of e.marked 1) (bit_of e.marked 2) (e.values ++ marks_of e.marks)

-- the state with what the words write, the marks of the pair given back
abbrev pub behind : Engine → List ℕ
behind e = restored (bit_of e.marked 1) (bit_of e.marked 2) (e.values ++ marks_of e.marks)
