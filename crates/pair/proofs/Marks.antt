-- Which cells a batch wrote, without a flag: read on a state whose two marks of the pair are cleared, it brings back those that it wrote.
-- Assumes nothing.
use mathlib.Core.Path.{◌≡◌, refl, sym, ap, ap₂, ◌∙◌}
use mathlib.Core.Logic.{◌≢◌}
use mathlib.Core.Bool.{Bool, true, false, ◌||◌, cond}
use mathlib.Core.List.{List, [], ◌∷◌}
use Prim.Native.Nat.{ℕ, zero, suc, ◌+◌, ◌<◌}
use native.Mathlib.Omega.{arith}
use native.Mathlib.Decide.{ℕ_discrete}
use borrow.Author.Tests.{ne_eqb, eqb-true, eqb-false}
use lib.Dec.{ltb, eqb}
use lib.ListN.{length, get_or, set, length-set}
use lib.Seq.{get_or-set_same, get_or-set_other, ext_get_or}
use Rattle.laws.specs.Lists.{some}
use Rattle.laws.specs.Tests.{within}
use Rattle.laws.proofs.Tests.{within_iff, false_of}
use Rattle.meaning.specs.Registers.{cells, cell}
use Rattle.meaning.specs.State.{state_words, mark_at, Write, apply, apply_all}
use Rattle.meaning.specs.Grants.{Terms}
use Rattle.meaning.specs.Positions.{writes_of}
use Rattle.meaning.specs.Reader.{batch_answer}
use Rattle.meaning.specs.Pair.{target_cell, location_cell, wrote_pair}
use Rattle.pair.specs.Marks.{cleared, outside, came_back, back, restored}
use Rattle.meaning.proofs.Reading.{batch_permitted}
use Rattle.meaning.proofs.Writes.{writes_of_cut}
use Rattle.meaning.proofs.Round.{packets_low}
use Rattle.meaning.proofs.States.{length_applied}
use Rattle.meaning.proofs.Pairs.{Low}
use Rattle.pairing.proofs.Entry.{applied_agree}

-- some write names cell c
unfoldable pub wrote : ℕ → List Write → Bool
wrote c ws = some (λ w. eqb w.cell.0 c) ws

-- "cell 1 or 2"
either_cell : (x : ℕ) → within 1 2 x ≡ (eqb x 1 || eqb x 2)
either_cell zero = refl
either_cell (suc zero) = refl
either_cell (suc (suc zero)) = refl
either_cell (suc (suc (suc x))) =
    rw (ne_eqb (suc (suc (suc x))) 1 (λ e. omega arith), ne_eqb (suc (suc (suc x))) 2 (λ e. omega arith)) (false_of (within 1 2 (suc (suc (suc x)))) (λ t. omega (arith, (within_iff 1 2 (suc (suc (suc x)))).0 t)))

or_four : (a b c d : Bool) → ((a || b) || (c || d)) ≡ ((a || c) || (b || d))
or_four true b c d = refl
or_four false true true d = refl
or_four false true false d = refl
or_four false false c d = refl

wrote_either : (ws : List Write) → wrote_pair ws ≡ (wrote 1 ws || wrote 2 ws)
unfolding wrote_pair wrote some
wrote_either [] = refl
wrote_either (w ∷ ws) =
    ap₂ (λ (x y : Bool). x || y) (either_cell w.cell.0) (wrote_either ws) ∙ or_four (eqb w.cell.0 1) (eqb w.cell.0 2) (wrote 1 ws) (wrote 2 ws)

-- the mark of a cell after writes
mark_one : (st : List ℕ) (w : Write) (c : ℕ) → length st ≡ state_words → c < cells → w.cell.0 < cells → (b : Bool) → eqb w.cell.0 c ≡ b
    → mark_at (apply st w) (cell c) ≡ cond b 1 (mark_at st (cell c))
unfolding apply
mark_one st w c n l k true e =
    let z : w.cell.0 ≡ c = eqb-true w.cell.0 c e in
    rw z (get_or-set_same (set st c w.value) (cells + c) 1 0 (omega (arith, length-set st c w.value)))
mark_one st w c n l k false e =
    let z = eqb-false w.cell.0 c e in
    get_or-set_other (set st w.cell.0 w.value) (cells + w.cell.0) (cells + c) 1 0 (λ f. z (omega arith))
    ∙ get_or-set_other st w.cell.0 (cells + c) w.value 0 (λ f. omega arith)

mark_by : (b d : Bool) (m : ℕ) → cond d 1 (cond b 1 m) ≡ cond (b || d) 1 m
mark_by true true m = refl
mark_by true false m = refl
mark_by false true m = refl
mark_by false false m = refl

pub mark_after : (st : List ℕ) (ws : List Write) (c : ℕ) → length st ≡ state_words → c < cells → Low ws
    → mark_at (apply_all st ws) (cell c) ≡ cond (wrote c ws) 1 (mark_at st (cell c))
unfolding apply_all wrote some
mark_after st [] c n l low = refl
mark_after st (w ∷ ws) c n l low =
    mark_after (apply st w) ws c (length_applied st (w ∷ []) ∙ n) l low.1
    ∙ ap (cond (wrote c ws) 1) (mark_one st w c n l low.0 (eqb w.cell.0 c) refl)
    ∙ mark_by (eqb w.cell.0 c) (wrote c ws) (mark_at st (cell c))

-- ---- the two marks cleared, and given back

pub cleared_length : (st : List ℕ) → length (cleared st) ≡ length st
unfolding cleared
cleared_length st = length-set (set st (cells + target_cell.0) 0) (cells + location_cell.0) 0 ∙ length-set st (cells + target_cell.0) 0

pub restored_length : (target location : ℕ) (now : List ℕ) → length (restored target location now) ≡ length now
unfolding restored
restored_length target location now = length-set (set now 102 _) 103 _ ∙ length-set now 102 _

cleared_else : (st : List ℕ) (i : ℕ) → i ≢ 102 → i ≢ 103 → get_or (cleared st) i 0 ≡ get_or st i 0
unfolding cleared
cleared_else st i a b = get_or-set_other (set st 102 0) 103 i 0 0 b ∙ get_or-set_other st 102 i 0 0 a

module _ (st : List ℕ) (n : length st ≡ state_words) where
  pub cleared_target : mark_at (cleared st) target_cell ≡ 0
  unfolding cleared
  cleared_target = get_or-set_other (set st 102 0) 103 102 0 0 (λ e. omega arith) ∙ get_or-set_same st 102 0 0 (omega arith)

  cleared_location : mark_at (cleared st) location_cell ≡ 0
  unfolding cleared
  cleared_location = get_or-set_same (set st 102 0) 103 0 0 (omega (arith, length-set st 102 0))

module _ (st : List ℕ) (n : length st ≡ state_words) (ws : List Write) (low : Low ws) where
  abbrev now : List ℕ
  now = apply_all (cleared st) ws

  came : (c : ℕ) → c < cells → mark_at (cleared st) (cell c) ≡ 0 → mark_at now (cell c) ≡ cond (wrote c ws) 1 0
  came c l z = mark_after (cleared st) ws c (cleared_length st ∙ n) l low ∙ ap (cond (wrote c ws) 1) z

  pub target_back : mark_at now target_cell ≡ cond (wrote 1 ws) 1 0
  target_back = came 1 (omega arith) (cleared_target st n)

  pub location_back : mark_at now location_cell ≡ cond (wrote 2 ws) 1 0
  location_back = came 2 (omega arith) (cleared_location st n)

  back_by : (b : Bool) (m : ℕ) → back (cond b 1 0) m ≡ cond b 1 m
  back_by true m = refl
  back_by false m = refl

  mark_back : (c : ℕ) → c < cells → mark_at now (cell c) ≡ cond (wrote c ws) 1 0 → back (mark_at now (cell c)) (mark_at st (cell c)) ≡ mark_at (apply_all st ws) (cell c)
  mark_back c l e = ap (λ (x : ℕ). back x (mark_at st (cell c))) e ∙ back_by (wrote c ws) (mark_at st (cell c)) ∙ sym (mark_after st ws c n l low)

  now_length : length now ≡ state_words
  now_length = length_applied (cleared st) ws ∙ cleared_length st ∙ n

  -- the batch wrote cell 1 or 2 exactly if a mark came back
  pub wrote_by_marks : came_back now ≡ wrote_pair ws
  unfolding came_back
  wrote_by_marks = rw (target_back, location_back) (marks (wrote 1 ws) (wrote 2 ws) ∙ sym (wrote_either ws))
    where
      marks : (a b : Bool) → (ltb 0 (cond a 1 0) || ltb 0 (cond b 1 0)) ≡ (a || b)
      marks true b = refl
      marks false true = refl
      marks false false = refl

  -- and the state with the marks given back is what the batch leaves of the true one
  pub restored_is : restored (mark_at st target_cell) (mark_at st location_cell) now ≡ apply_all st ws
  unfolding restored
  restored_is =
      ext_get_or 0 _ (apply_all st ws)
      (length-set (set now 102 _) 103 _ ∙ length-set now 102 _ ∙ now_length ∙ sym (length_applied st ws ∙ n))
      (λ i k. elim (ℕ_discrete i 103) [
        | yes e ↦ rw e (get_or-set_same (set now 102 _) 103 _ 0 (omega (arith, length-set now 102 (back (mark_at now target_cell) (mark_at st target_cell)), now_length))
            ∙ mark_back 2 (omega arith) location_back)
        | no e ↦ get_or-set_other (set now 102 _) 103 i _ 0 e ∙ elim (ℕ_discrete i 102) [
          | yes f ↦ rw f (get_or-set_same now 102 _ 0 (omega (arith, now_length)) ∙ mark_back 1 (omega arith) target_back)
          | no f ↦ get_or-set_other now 102 i _ 0 f ∙ applied_agree (cleared st) st i ws (cleared_length st) (cleared_else st i f e)
        ]
      ])

-- the mark of any cell of the state with the two cleared
pub cleared_mark : (st : List ℕ) → length st ≡ state_words → (c : ℕ) → c < cells → mark_at (cleared st) (cell c) ≡ outside c (mark_at st (cell c))
cleared_mark st n c l =
    elim (ℕ_discrete c 1) [
      | yes e ↦ rw e (cleared_target st n)
      | no a ↦ elim (ℕ_discrete c 2) [
        | yes e ↦ rw e (cleared_location st n)
        | no b ↦ rw (false_of (within 1 2 c) (λ t. omega (arith, (within_iff 1 2 c).0 t))) (cleared_else st (cells + c) (λ e. omega arith) (λ e. omega arith))
      ]
    ]

-- an accepted batch writes cells of the table
pub writes_low : (g : Terms) (ws : List ℕ) → (batch_answer g ws).reason ≡ 0 → Low (writes_of ws)
writes_low g ws e = let c = (batch_permitted g ws).0 e in rw (writes_of_cut g ws c) (packets_low g c.packets c.permitted)
