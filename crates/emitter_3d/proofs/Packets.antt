-- A packet whose parameters are stored first, from two places on, and then its head before them.
-- Assumes nothing.
use mathlib.Core.Path.{◌≡◌, ap, ◌∙◌}
use mathlib.Core.List.{List, [], ◌∷◌, append-nil}
use Prim.Native.Nat.{ℕ, suc, ◌+◌, ◌-◌, ◌/◌, ◌≤◌, ◌<◌}
use native.Mathlib.Omega.{arith}
use native.Mathlib.Decide.{ℕ_discrete}
use borrow.Author.Tests.{eq-eqb, ne_eqb}
use lib.ListN.{length, drop_of_length-le}
use Rattle.meaning.specs.Batch.{offset_3d}
use Rattle.meaning.specs.Writer.{header_word, setting_word}
use Rattle.words.specs.Stores.{put_words}
use Rattle.words.proofs.Stores.{put_none, length_put, put_append, put_before}
use Rattle.emitter_3d.specs.Emitted.{packet_words, Room}
use Rattle.emitter_3d.specs.Closed.{closed_end, closed_words}
use Rattle.emitter_3d.proofs.Cells.{emits_none}
use Rattle.emitter_3d.proofs.Runs.{Done}

-- the head before the parameters
headed : (out : List ℕ) (at h s : ℕ) (ps : List ℕ) → put_words (put_words out (at + 2) ps) at (h ∷ s ∷ []) ≡ put_words out at (h ∷ s ∷ ps)
headed out at h s ps = put_before out at (at + 2) (h ∷ s ∷ []) ps (omega arith) ∙ put_append out at (h ∷ s ∷ []) ps

-- with a parameter a packet has two words more
packet_some : (s : ℕ) (ps : List ℕ) → 0 < length ps → packet_words s ps ≡ header_word (suc (length ps)) offset_3d ∷ s ∷ ps
packet_some s [] l = absurd (omega arith)
packet_some s (p ∷ ps) l = append-nil (header_word (length (s ∷ p ∷ ps)) offset_3d ∷ s ∷ p ∷ ps)

module _ (t u : ℕ) (ps old : List ℕ) (at : ℕ) (room : at + length (packet_words (setting_word t u) ps) ≤ length old / 4) where
  -- where there is room for the packet, there is room for the parameters
  pub room_parameters : Room old (at + 2) ps
  room_parameters some = omega (arith, ap length (packet_some (setting_word t u) ps some))

  -- the parameters are stored
  module _ {out : List ℕ} {end : ℕ} (done : Done ps old (at + 2) out end) where
    -- what the head asks for
    pub head_asks : length ps ≤ 4 → t < 256 → u < 256
        → (at + 2 ≤ end) × ((end ≤ at + 6) × ((t < 256) × ((u < 256) × ((end ≡ at + 2 → ⊥) → end ≤ length out / 4))))
    head_asks few type sub_type = (
      omega (arith, done.0),
      (
        omega (arith, done.0),
        (type, (sub_type, λ some. omega (arith, done.0, ap length done.1, length_put old (at + 2) ps, room_parameters (omega (arith, done.0))))),
      ),
    )

    abbrev Closed : ℕ → List ℕ → Type 0
    Closed r out' = Done (packet_words (setting_word t u) ps) old at out' r

    no_packet : end ≡ at + 2 → Closed (closed_end at end) (closed_words out at end t u)
    unfolding closed_end closed_words
    no_packet still =
        let none : ps ≡ [] = drop_of_length-le ps {i = 0} (omega (arith, done.0)) in
        let same : out ≡ old = done.1 ∙ ap (put_words old (at + 2)) none ∙ put_none old (at + 2) in
        rw (eq-eqb end (at + 2) still, same) (emits_none old at (ap (packet_words (setting_word t u)) none))

    a_packet : (end ≡ at + 2 → ⊥) → Closed (closed_end at end) (closed_words out at end t u)
    unfolding closed_end closed_words
    a_packet some =
        let s = setting_word t u in
        let words : packet_words s ps ≡ header_word (suc (length ps)) offset_3d ∷ s ∷ ps = packet_some s ps (omega (arith, done.0)) in
        let n : end - at - 1 ≡ suc (length ps) = omega (arith, done.0) in
        rw (ne_eqb end (at + 2) some, words, n, done.1) (omega (arith, done.0), headed old at (header_word (suc (length ps)) offset_3d) s ps)

    -- the head makes the packet of the parameters that are stored
    pub closed : {r : ℕ} {out' : List ℕ} → r ≡ closed_end at end → out' ≡ closed_words out at end t u → Closed r out'
    closed er eo = rw (er, eo) (elim (ℕ_discrete end (at + 2)) [ yes e ↦ no_packet e | no e ↦ a_packet e ])
