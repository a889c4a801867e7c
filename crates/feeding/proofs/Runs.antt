-- The reader on words that have more words after them: its answer, the position that it comes to, and the writes.
-- Assumes nothing.
use mathlib.Core.Path.{◌≡◌, refl, sym, ap, ◌∙◌}
use mathlib.Core.Logic.{◌⊎◌, inl, inr}
use mathlib.Core.List.{List, [], ◌∷◌, ◌++◌, append_assoc, append-nil}
use Prim.Native.Nat.{ℕ, zero, suc, ◌≤◌}
use native.Mathlib.Omega.{arith}
use lib.ListN.{length}
use Rattle.meaning.specs.declared.Kind.{Kind}
use Rattle.meaning.specs.declared.Position.{Position}
use Rattle.meaning.specs.Grants.{Terms}
use Rattle.meaning.specs.State.{Write}
use Rattle.meaning.specs.Positions.{next_kind, next_left, position_from, write_at, writes_from}
use Rattle.meaning.specs.Answers.{Answer, bad_offset, not_granted, answer}
use Rattle.meaning.specs.Reader.{judge, onward, follow, ended, run}
use Rattle.meaning.proofs.Places.{Good, good_next}
use Rattle.meaning.proofs.Exactly.{judge_given, given_range}

-- nothing speaks against any of the words, from a position on
unfoldable pub Passes : Terms → Kind → ℕ → List ℕ → Type 0
Passes g kind k [] = Unit {0}
Passes g kind k (w ∷ ws) = (judge g kind k w ≡ 0) × Passes g (next_kind kind k w) (next_left k w) ws

-- the position after all of the words
abbrev pub end_of : Kind → ℕ → List ℕ → Position
end_of kind k ws = position_from kind k ws (length ws)

-- the answer is one of 3 to 9, so that a word is refused
abbrev pub Refused : Answer → Type 0
Refused a = (bad_offset ≤ a.reason) × (a.reason ≤ not_granted)

-- ---- the reader's answer

module _ (g : Terms) where
  -- a word that is given a reason is refused, at whatever place
  pub judge_refused : (kind : Kind) (k w r n : ℕ) → Good kind k → judge g kind k w ≡ suc r → Refused (answer (suc r) n)
  judge_refused kind k w r n h e = given_range g (judge_given g kind k w r h e)

  -- one word and those after it, by its reason
  came_on : (kind : Kind) (k w : ℕ) (ws : List ℕ) (r : ℕ) (a : Answer) → Good kind k → judge g kind k w ≡ r
      → (r ≡ 0 → Passes g (next_kind kind k w) (next_left k w) ws ⊎ Refused a) → Passes g kind k (w ∷ ws) ⊎ Refused (follow r a)
  unfolding Passes
  came_on kind k w ws zero a h e more = elim (more refl) [ inl p ↦ inl (e, p) | inr f ↦ inr f ]
  came_on kind k w ws (suc r) a h e more = inr (judge_refused kind k w r 0 h e)

  -- all words pass, or one is refused
  pub came : (kind : Kind) (k : ℕ) (ws : List ℕ) → Good kind k → Passes g kind k ws ⊎ Refused (run g kind k ws)
  unfolding run Passes
  came kind k [] h = inl tt
  came kind k (w ∷ ws) h =
      came_on kind k w ws (judge g kind k w) _ h refl (λ e. came (next_kind kind k w) (next_left k w) ws (good_next g kind k w h e))

  -- words that pass are read to their end: 0, or 10 inside a packet
  pub run_passed : (kind : Kind) (k : ℕ) (ws : List ℕ) → Passes g kind k ws
      → run g kind k ws ≡ answer (ended (end_of kind k ws).left).reason (length ws)
  unfolding run position_from Passes
  run_passed kind zero [] p = refl
  run_passed kind (suc k) [] p = refl
  run_passed kind k (w ∷ ws) p = rw p.0 (ap onward (run_passed (next_kind kind k w) (next_left k w) ws p.1))

  -- and none of them is refused
  pub not_refused : (kind : Kind) (k : ℕ) (ws : List ℕ) → Passes g kind k ws → ¬ Refused (run g kind k ws)
  unfolding run Passes
  not_refused kind zero [] p f = omega arith
  not_refused kind (suc k) [] p f = omega arith
  not_refused kind k (w ∷ ws) p f = not_refused (next_kind kind k w) (next_left k w) ws p.1 (rw p.0 at f)

  stuck_on : (r : ℕ) (a b : Answer) → (Refused a → b ≡ a) → Refused (follow r a) → follow r b ≡ follow r a
  stuck_on zero a b h f = ap onward (h f)
  stuck_on (suc r) a b h f = refl

  -- a word that is refused is refused whatever follows
  pub stuck : (kind : Kind) (k : ℕ) (ws more : List ℕ) → Refused (run g kind k ws) → run g kind k (ws ++ more) ≡ run g kind k ws
  unfolding run
  stuck kind zero [] more f = absurd (omega arith)
  stuck kind (suc k) [] more f = absurd (omega arith)
  stuck kind k (w ∷ ws) more f = stuck_on (judge g kind k w) _ _ (stuck (next_kind kind k w) (next_left k w) ws more) f

  -- ---- one word more, after words that pass

  -- the reader comes to good positions alone
  pub good_end : (kind : Kind) (k : ℕ) (ws : List ℕ) → Good kind k → Passes g kind k ws → Good (end_of kind k ws).kind (end_of kind k ws).left
  unfolding position_from Passes
  good_end kind k [] h p = h
  good_end kind k (w ∷ ws) h p = good_end (next_kind kind k w) (next_left k w) ws (good_next g kind k w h p.0) p.1

  -- the word passes too
  pub passes_on : (kind : Kind) (k : ℕ) (ws : List ℕ) (w : ℕ) → Passes g kind k ws
      → judge g (end_of kind k ws).kind (end_of kind k ws).left w ≡ 0 → Passes g kind k (ws ++ (w ∷ []))
  unfolding position_from Passes
  passes_on kind k [] w p e = (e, tt)
  passes_on kind k (x ∷ ws) w p e = (p.0, passes_on (next_kind kind k x) (next_left k x) ws w p.1 e)

  -- or it is refused, at the number of words before it
  pub stops_on : (kind : Kind) (k : ℕ) (ws : List ℕ) (w r : ℕ) → Passes g kind k ws
      → judge g (end_of kind k ws).kind (end_of kind k ws).left w ≡ suc r → run g kind k (ws ++ (w ∷ [])) ≡ answer (suc r) (length ws)
  unfolding run position_from Passes
  stops_on kind k [] w r p e = rw e
  stops_on kind k (x ∷ ws) w r p e = rw p.0 (ap onward (stops_on (next_kind kind k x) (next_left k x) ws w r p.1 e))

-- ---- the position and the writes, with one word more

-- where the reader stands after it
pub end_snoc : (kind : Kind) (k : ℕ) (ws : List ℕ) (w : ℕ)
    → end_of kind k (ws ++ (w ∷ []))
    ≡ record { kind = next_kind (end_of kind k ws).kind (end_of kind k ws).left w; left = next_left (end_of kind k ws).left w }
unfolding position_from
end_snoc kind k [] w = refl
end_snoc kind k (x ∷ ws) w = end_snoc (next_kind kind k x) (next_left k x) ws w

-- and what is written
pub writes_snoc : (kind : Kind) (k : ℕ) (ws : List ℕ) (w : ℕ)
    → writes_from kind k (ws ++ (w ∷ [])) ≡ writes_from kind k ws ++ write_at (end_of kind k ws).kind (end_of kind k ws).left w
unfolding position_from writes_from
writes_snoc kind k [] w = append-nil (write_at kind k w)
writes_snoc kind k (x ∷ ws) w =
    ap (λ (l : List Write). write_at kind k x ++ l) (writes_snoc (next_kind kind k x) (next_left k x) ws w)
    ∙ sym (append_assoc (write_at kind k x) _ _)
