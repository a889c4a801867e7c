-- A list of words is cut into permitted packets in one way only.
-- Assumes nothing.
use mathlib.Core.Path.{◌≡◌, refl, sym, ap, ap₂, ◌∙◌}
use mathlib.Core.List.{List, [], ◌∷◌, ◌++◌, head-eq_of_cons-eq, tail-eq_of_cons-eq, nil≢cons}
use Prim.Native.Nat.{ℕ}
use lib.ListN.{length}
use Rattle.laws.specs.Lists.{All, join}
use Rattle.laws.proofs.Lists.{same_front}
use Rattle.meaning.specs.Words.{count}
use Rattle.meaning.specs.Grants.{Terms}
use Rattle.meaning.specs.Batch.{Packet, packet_3d, packet_video, Cut}

-- a packet is a header and as many words as it counts
pub data Headed : List ℕ → Type 0 where
  headed : (h : ℕ) (body : List ℕ) → length body ≡ count h → Headed (h ∷ body)

pub head_of : {g : Terms} {p : List ℕ} → Packet g p → Headed p
head_of (packet_3d {h} {s} {ps} c) = headed h (s ∷ ps) c.whole
head_of (packet_video {h} {vs} c) = headed h vs c.whole

first : {p q : List ℕ} (x y : List ℕ) → Headed p → Headed q → p ++ x ≡ q ++ y → (p ≡ q) × (x ≡ y)
first x y (headed h a n) (headed k b m) e =
    let i : h ≡ k = head-eq_of_cons-eq e in
    let r : (a ≡ b) × (x ≡ y) = same_front a b x y (n ∙ ap count i ∙ sym m) (tail-eq_of_cons-eq e) in
    (ap₂ (λ (z : ℕ) (l : List ℕ). z ∷ l) i r.0, r.1)

never_empty : {p : List ℕ} (x : List ℕ) → Headed p → [] ≡ p ++ x → ⊥
never_empty x (headed h b n) e = nil≢cons e

one_way : (g : Terms) (ps qs : List (List ℕ)) → All (Packet g) ps → All (Packet g) qs → join ps ≡ join qs → ps ≡ qs
one_way g [] [] a b e = refl
one_way g [] (q ∷ qs) a b e = absurd (never_empty (join qs) (head_of b.0) e)
one_way g (p ∷ ps) [] a b e = absurd (never_empty (join ps) (head_of a.0) (sym e))
one_way g (p ∷ ps) (q ∷ qs) a b e =
    let r : (p ≡ q) × (join ps ≡ join qs) = first (join ps) (join qs) (head_of a.0) (head_of b.0) e in
    ap₂ (λ (x : List ℕ) (xs : List (List ℕ)). x ∷ xs) r.0 (one_way g ps qs a.1 b.1 r.1)

pub cut_one_way : {g : Terms} {ws : List ℕ} (c d : Cut g ws) → c.packets ≡ d.packets
cut_one_way {g} c d = one_way g c.packets d.packets c.permitted d.permitted (c.joined ∙ sym d.joined)
