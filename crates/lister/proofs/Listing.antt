-- The listing is the head line, then the lines of the marked cells in the order of their numbers; and what the lister answers.
-- Assumes nothing.
use mathlib.Core.Path.{◌≡◌, refl, sym, ap, ap₂, ◌∙◌}
use mathlib.Core.Bool.{Bool, true, false}
use mathlib.Core.List.{List, ◌++◌, append_assoc}
use Prim.Native.Nat.{ℕ, ◌+◌, ◌*◌, ◌-◌, ◌≤◌, ◌<◌}
use native.Mathlib.Omega.{arith}
use borrow.Author.Tests.{lt-leb, le-leb}
use lib.ListN.{length, length-append}
use lib.Seq.{sets}
use Rattle.laws.specs.Lists.{join, over}
use Rattle.laws.proofs.Lists.{join_append}
use Rattle.laws.proofs.Tests.{holds_of}
use Rattle.laws.proofs.Arms.{told_true}
use Rattle.laws.proofs.Stores.{sets_over}
use Rattle.meaning.specs.Registers.{first_video, end_video}
use Rattle.meaning.specs.State.{state_words, well_formed, marked, count_in}
use Rattle.meaning.specs.Answers.{bad_state, no_room, success, answer}
use Rattle.meaning.specs.Text.{ascii}
use Rattle.meaning.specs.Lister.{decimal, cell_lines, listing, list_answer, list_leaves}
use Rattle.meaning.proofs.Writing.{count_few}
use Rattle.meaning.proofs.States.{formed_iff}
use Rattle.lines.specs.Lines.{cell_line_3d, cell_line_video}
use Rattle.lines.proofs.Stores.{behind}
use Rattle.lines.proofs.Pieces.{wide_3d, wide_video}
use Rattle.lister.specs.Listed.{lines_from, head_line}
use Rattle.lister.proofs.Lines.{lines_count, lines_length}
use Rattle.lister.proofs.Rows.{in_cell_order}

-- ---- its parts

-- five texts, with the first three as one
regroup : (h d e x y : List ℕ) → h ++ (d ++ (e ++ (x ++ y))) ≡ ((h ++ (d ++ e)) ++ x) ++ y
regroup h d e x y = simp append_assoc

module _ (st : List ℕ) where
  -- the lines of either kind, and the marked cells
  abbrev lines_3d : List (List ℕ)
  lines_3d = lines_from cell_line_3d st 0 first_video

  abbrev lines_video : List (List ℕ)
  lines_video = lines_from cell_line_video st first_video (end_video - first_video)

  abbrev marked_3d : ℕ
  marked_3d = count_in (marked st) 0 first_video

  abbrev marked_video : ℕ
  marked_video = count_in (marked st) first_video (end_video - first_video)

  -- as many lines as marked cells,
  line_each : length (cell_lines st) ≡ marked_3d + marked_video
  line_each =
      rw (in_cell_order st)
      (length-append lines_3d lines_video
      ∙ ap₂ (λ (x y : ℕ). x + y) (lines_count cell_line_3d st 0 first_video) (lines_count cell_line_video st first_video (end_video - first_video)))

  -- and no more of these than cells
  pub few : (marked_3d ≤ first_video) × (marked_video ≤ end_video - first_video)
  few = (count_few (marked st) 0 first_video, count_few (marked st) first_video (end_video - first_video))

  -- what the lister counts before it stores a byte: the marked cells of each kind, and the digits of their number
  module _ (a b digits : ℕ) (in_3d : a ≡ marked_3d) (in_video : b ≡ marked_video) (counted : digits ≡ length (decimal (a + b))) where
    -- the head line and the two kinds of line
    parts : listing st ≡ (head_line (a + b) ++ join lines_3d) ++ join lines_video
    unfolding listing head_line
    parts =
        rw (line_each, in_cell_order st, ← in_3d, ← in_video, join_append lines_3d lines_video)
        (regroup (ascii "cells=") (decimal (a + b)) (ascii "\n") (join lines_3d) (join lines_video))

    -- and how long each is
    length_3d : length (join lines_3d) ≡ 26 * a
    length_3d = rw in_3d (lines_length cell_line_3d st 26 wide_3d 0 first_video)

    length_video : length (join lines_video) ≡ 22 * b
    length_video = rw in_video (lines_length cell_line_video st 22 wide_video first_video (end_video - first_video))

    length_head : length (head_line (a + b)) ≡ 7 + digits
    unfolding head_line
    length_head = omega (arith, length-append (decimal (a + b)) (ascii "\n"), counted)

    -- so many bytes are needed
    pub listing_length : length (listing st) ≡ 7 + digits + 26 * a + 22 * b
    listing_length =
        rw parts
        (omega (
          arith,
          length-append (head_line (a + b) ++ join lines_3d) (join lines_video),
          length-append (head_line (a + b)) (join lines_3d),
          length_head,
          length_3d,
          length_video,
        ))

    -- the three texts, stored one behind the other, lie over the front of the output
    pub listing_stored : (out : List ℕ) → length (listing st) ≤ length out
        → sets (sets (sets out 0 (head_line (a + b))) (7 + digits) (join lines_3d)) (7 + digits + 26 * a) (join lines_video) ≡ over (listing st) out
    listing_stored out h =
        behind out 0 (7 + digits + 26 * a) (head_line (a + b) ++ join lines_3d) (join lines_video)
        (behind out 0 (7 + digits) (head_line (a + b)) (join lines_3d) refl (omega (arith, length_head)))
        (omega (arith, length-append (head_line (a + b)) (join lines_3d), length_head, length_3d))
        ∙ ap (sets out 0) (sym parts)
        ∙ sets_over (listing st) out h

-- ---- the answers

-- what the code's test of a state tells of its length
pub whole : (st : List ℕ) {r : Bool} → r ≡ well_formed st → r ≡ true → length st ≡ state_words
whole st e t = ((formed_iff st).0 (holds_of (told_true e t))).size

module _ (st out : List ℕ) where
  -- a state that is not well-formed
  pub by_bad_state : well_formed st ≡ false → (answer bad_state 0 ≡ list_answer st (length out)) × (out ≡ list_leaves st out)
  unfolding list_answer list_leaves
  by_bad_state e = rw e (refl, refl)

  -- an output that is too short
  pub by_no_room : well_formed st ≡ true → length out < length (listing st) → (answer no_room 0 ≡ list_answer st (length out)) × (out ≡ list_leaves st out)
  unfolding list_answer list_leaves
  by_no_room e l = rw (e, lt-leb (length (listing st)) (length out) l) (refl, refl)

  -- a listing
  pub listed : well_formed st ≡ true → length (listing st) ≤ length out
      → (answer success (length (listing st)) ≡ list_answer st (length out)) × (over (listing st) out ≡ list_leaves st out)
  unfolding list_answer list_leaves
  listed e l = rw (e, le-leb (length (listing st)) (length out) l) (refl, refl)
