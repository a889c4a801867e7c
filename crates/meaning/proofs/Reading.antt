-- The reader accepts exactly the permitted batches.
-- Assumes nothing.
use mathlib.Core.Path.{◌≡◌, refl, sym, ap, ◌∙◌, subst₂}
use mathlib.Core.Logic.{◌↔◌}
use mathlib.Core.List.{List, [], ◌∷◌, ◌++◌, head-eq_of_cons-eq, tail-eq_of_cons-eq, nil≢cons}
use Prim.Native.Nat.{ℕ, zero, suc, ◌≤◌}
use native.Mathlib.Omega.{arith}
use lib.ListN.{length, take, drop, length-append, take-append-drop}
use lib.Seq.{take_at, drop_at, length-take-le}
use Rattle.laws.specs.Lists.{All, join}
use Rattle.meaning.specs.Answers.{Answer}
use Rattle.meaning.specs.declared.Kind.{Kind}
use Rattle.meaning.specs.declared.Kind.TheVariants.{Setting}
use Rattle.meaning.specs.Words.{count}
use Rattle.meaning.specs.Grants.{Terms}
use Rattle.meaning.specs.Batch.{Packet, Cut}
use Rattle.meaning.specs.Positions.{kind_of, next_kind, next_left}
use Rattle.meaning.specs.Reader.{header_reason, judge, follow, run, batch_answer}
use Rattle.meaning.proofs.Packets.{Body, Opened, opened, open_packet, close_packet}

-- the words complete the open packet, which wants k more, and then are whole packets
pub record Left (g : Terms) (kind : Kind) (k : ℕ) (ws : List ℕ) : Type 0 where
  pub enough : k ≤ length ws
  pub body : Body g kind (take k ws)
  pub rest : Cut g (drop k ws)

-- ---- at a header

from_opened : {g : Terms} {p : List ℕ} (ps : List (List ℕ)) (h : ℕ) (ws : List ℕ) → Opened g p → All (Packet g) ps → p ++ join ps ≡ h ∷ ws
    → (header_reason h ≡ 0) × Left g (kind_of h) (count h) ws
from_opened {g} ps h ws (opened k t v n d) a e =
    subst₂ (λ (x : ℕ) (xs : List ℕ). (header_reason x ≡ 0) × Left g (kind_of x) (count x) xs)
    (head-eq_of_cons-eq e) (tail-eq_of_cons-eq e) (
      v,
      record {
        enough = omega (arith, length-append t (join ps), n);
        body = rw (take_at t (join ps) (count k) n) d;
        rest = record { packets = ps; joined = sym (drop_at t (join ps) (count k) n); permitted = a };
      },
    )

cut_open : (g : Terms) (h : ℕ) (ws : List ℕ) (ps : List (List ℕ)) → All (Packet g) ps → join ps ≡ h ∷ ws
    → (header_reason h ≡ 0) × Left g (kind_of h) (count h) ws
cut_open g h ws [] a e = absurd (nil≢cons e)
cut_open g h ws (p ∷ ps) a e = from_opened ps h ws (open_packet g a.0) a.1 e

cut_close : (g : Terms) (h : ℕ) (ws : List ℕ) → header_reason h ≡ 0 → Left g (kind_of h) (count h) ws → Cut g (h ∷ ws)
cut_close g h ws v l =
    record {
      packets = (h ∷ take (count h) ws) ∷ l.rest.packets;
      joined = ap (λ (x : List ℕ). h ∷ x) (ap (λ (x : List ℕ). take (count h) ws ++ x) l.rest.joined ∙ take-append-drop (count h) ws);
      permitted = (close_packet g (opened h (take (count h) ws) v (length-take-le (count h) ws l.enough) l.body), l.rest.permitted);
    }

-- ---- one word

pub left_cons : (g : Terms) (kind : Kind) (k w : ℕ) (ws : List ℕ)
    → Left g kind k (w ∷ ws) ↔ ((judge g kind k w ≡ 0) × Left g (next_kind kind k w) (next_left k w) ws)
unfolding judge next_kind next_left
left_cons g kind zero w ws = (
  λ l. cut_open g w ws l.rest.packets l.rest.permitted l.rest.joined,
  λ p. record { enough = omega arith; body = tt; rest = cut_close g w ws p.0 p.1 },
)
left_cons g kind (suc k) w ws = (
  λ l. (l.body.0, record { enough = omega (arith, l.enough); body = l.body.1; rest = l.rest }),
  λ p. record { enough = omega (arith, p.1.enough); body = (p.0, p.1.body); rest = p.1.rest },
)

-- ---- the whole batch

pub finished : (g : Terms) (kind : Kind) → Left g kind zero []
finished g kind = record { enough = omega arith; body = tt; rest = record { packets = []; joined = refl; permitted = tt } }

follow_accepted : (r : ℕ) (a : Answer) → (follow r a).reason ≡ 0 → (r ≡ 0) × (a.reason ≡ 0)
follow_accepted zero a e = (refl, e)
follow_accepted (suc r) a e = absurd (omega arith)

pub run_left : (g : Terms) (kind : Kind) (k : ℕ) (ws : List ℕ) → ((run g kind k ws).reason ≡ 0) ↔ Left g kind k ws
unfolding run
run_left g kind zero [] = (λ e. finished g kind, λ l. refl)
run_left g kind (suc k) [] = (λ e. absurd (omega arith), λ l. absurd (omega (arith, l.enough)))
run_left g kind k (w ∷ ws) =
    let one = left_cons g kind k w ws in
    let more = run_left g (next_kind kind k w) (next_left k w) ws in (
      λ e. let f = follow_accepted (judge g kind k w) _ e in one.1 (f.0, more.0 f.1),
      λ l. let f = one.0 l in rw f.0 (more.1 f.1),
    )

-- the place of an accepted batch is its length
pub run_length : (g : Terms) (kind : Kind) (k : ℕ) (ws : List ℕ) → (run g kind k ws).reason ≡ 0 → (run g kind k ws).place ≡ length ws
unfolding run
run_length g kind zero [] e = refl
run_length g kind (suc k) [] e = absurd (omega arith)
run_length g kind k (w ∷ ws) e =
    let f = follow_accepted (judge g kind k w) _ e in
    rw f.0 (ap suc (run_length g (next_kind kind k w) (next_left k w) ws f.1))

pub batch_permitted : (g : Terms) (ws : List ℕ) → ((batch_answer g ws).reason ≡ 0) ↔ Cut g ws
unfolding batch_answer
batch_permitted g ws =
    let all = run_left g Setting zero ws in
    (λ e. (all.0 e).rest, λ c. all.1 (record { enough = omega arith; body = tt; rest = c }))

pub batch_length : (g : Terms) (ws : List ℕ) → (batch_answer g ws).reason ≡ 0 → (batch_answer g ws).place ≡ length ws
unfolding batch_answer
batch_length g ws e = run_length g Setting zero ws e
