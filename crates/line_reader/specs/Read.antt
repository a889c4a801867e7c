-- What is read at the front of a text: that it stands there, and that nothing else of its kind does.
-- Assumes nothing.
use Rattle.std.specs.Prelude.{◌≡◌, List, [], ◌∷◌, ℕ, ◌≤◌, ◌<◌, length, take, drop, Option, Some, MatchOption, IfSome}
use Rattle.meaning.specs.Words.{Word, bytes_of}
use Rattle.meaning.specs.Registers.{cells}
use Rattle.meaning.specs.Lister.{hex}
use Rattle.lines.specs.Lines.{value_text}
use Rattle.listings.specs.Lines.{name_text, LineHere}
use Rattle.line_reader.specs.declared.Name.{Name}
use Rattle.line_reader.specs.declared.Line.{Line}

-- the bytes of a word, from `at` on
pub record Four (t : List ℕ) (at w : ℕ) : Type 0 where
  pub word : Word w
  pub same : take 4 (drop at t) ≡ bytes_of (w ∷ [])

-- a text that stands for a number v, and for no other;
pub record Stands (text : ℕ → List ℕ) (size : ℕ) (xs : List ℕ) (v : ℕ) : Type 0 where
  pub word : Word v
  pub same : take size xs ≡ text v
  pub only : (u : ℕ) → Word u → take size xs ≡ text u → v ≡ u

-- or for none
abbrev pub NoneStands : (ℕ → List ℕ) → ℕ → List ℕ → Type 0
NoneStands text size xs = (u : ℕ) → Word u → take size xs ≡ text u → ⊥

abbrev pub StandsFor : (ℕ → List ℕ) → ℕ → List ℕ → Option ℕ → Type 0
StandsFor text size xs r = MatchOption r (NoneStands text size xs) (Stands text size xs)

-- eight digits,
abbrev pub DigitsAt : List ℕ → Option ℕ → Type 0
DigitsAt = StandsFor (hex 8) 8

-- the end of a line
abbrev pub ValueAt : List ℕ → Option ℕ → Type 0
ValueAt = StandsFor value_text 14

-- the name of a cell, and where it ends; and no other cell's name stands there;
pub record NameAt (xs : List ℕ) (n : Name) : Type 0 where
  pub low : n.cell < cells
  pub long : n.end ≡ length (name_text n.cell)
  pub same : take n.end xs ≡ name_text n.cell
  pub only : (d : ℕ) → d < cells → take (length (name_text d)) xs ≡ name_text d → n.cell ≡ d

-- or no cell's
abbrev pub NoName : List ℕ → Type 0
NoName xs = (d : ℕ) → d < cells → take (length (name_text d)) xs ≡ name_text d → ⊥

-- the line of a cell from `first` to before `end`, with its value, where there is one
pub record LineAt (xs : List ℕ) (first end : ℕ) (r : Option Line) : Type 0 where
  pub found : IfSome r (λ l. (first ≤ l.cell) × ((l.cell < end) × LineHere xs l.cell l.value))
  pub only : (d u : ℕ) → first ≤ d → d < end → LineHere xs d u → r ≡ Some (record { cell = d; value = u })
