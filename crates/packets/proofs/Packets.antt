-- Reading packet by packet comes to reading word by word, and that comes to the reader's answer and the batch's writes.
-- Assumes nothing.
use mathlib.Core.Path.{◌≡◌, refl, sym, ap, ◌∙◌}
use mathlib.Core.Bool.{cond}
use mathlib.Core.List.{List, [], ◌∷◌, ◌++◌}
use Prim.Native.Nat.{ℕ, zero, suc, ◌+◌, ◌-◌, ◌≤◌, ◌<◌, min}
use native.Mathlib.Numerals.{add-one}
use native.Mathlib.Omega.{arith}
use native.Mathlib.Decide.{dec_lt}
use borrow.Author.Tests.{le-leb, lt-leb}
use lib.Dec.{leb}
use lib.ListN.{length, get_or, take, drop, take-append-drop, length-drop, length-set, drop_of_length-le}
use lib.Seq.{slice, take_all, length-take-le, drop-drop}
use Rattle.laws.proofs.Rest.{rest}
use Rattle.meaning.specs.declared.Reason.{Reason}
use Rattle.meaning.specs.declared.Kind.{Kind}
use Rattle.meaning.specs.declared.Kind.TheVariants.{Setting}
use Rattle.meaning.specs.Words.{count}
use Rattle.meaning.specs.Grants.{Terms}
use Rattle.meaning.specs.State.{Write, apply, apply_all}
use Rattle.meaning.specs.Positions.{kind_of, after, next_kind, next_left, write_at, writes_from, writes_of}
use Rattle.meaning.specs.Answers.{Answer, success, ends_inside, answer, number}
use Rattle.meaning.specs.Reader.{header_reason, word_reason, judge, follow, ended, run, batch_answer}
use Rattle.meaning.proofs.States.{applied_append}
use Rattle.meaning.proofs.Stretches.{after_all}
use Rattle.bodies.specs.Passes.{Passed, passed, answer_of, Comes, or_else, applied, body_from}
use Rattle.meaning.proofs.Refusals.{refused}
use Rattle.bodies.proofs.Bodies.{else_on, else_stop, comes}
use Rattle.packets.specs.Packets.{headed, up_to, packet_from, ends, packets_from}

-- ---- a packet, from what was read of it

take_none : (n : ℕ) → take {A = ℕ} n [] ≡ []
take_none zero = refl
take_none (suc n) = refl

-- a part in the middle, by its start and by how many it has
middle : (f n : ℕ) (l : List ℕ) → drop f (take (f + n) l) ≡ take n (drop f l)
middle zero n l = let e : 0 + n ≡ n = omega arith in rw e
middle (suc f) n [] = let e : suc f + n ≡ suc (f + n) = omega arith in rw e (sym (take_none n))
middle (suc f) n (x ∷ l) = let e : suc f + n ≡ suc (f + n) = omega arith in rw e (middle f n l)

-- the words at hand of the n that follow place `at`
at_hand : (ws : List ℕ) (at n : ℕ) → at < length ws → (end : ℕ) → end ≡ min (at + 1 + n) (length ws) → slice (at + 1) end ws ≡ take n (drop (at + 1) ws)
at_hand ws at n l end e =
    elim (dec_lt (at + 1 + n) (length ws)) [
      | yes h ↦ let m : end ≡ at + 1 + n = omega arith in rw m (middle (at + 1) n ws)
      | no h ↦
          let m : end ≡ length ws = omega arith in
          rw (m, take_all (length ws) ws (omega arith)) (sym (take_all n (drop (at + 1) ws) (omega (arith, length-drop (at + 1) ws))))
    ]

-- a header h at a place, and the words of its packet up to another
module _ (g : Terms) (ws : List ℕ) (at : ℕ) (st : List ℕ) (l : at < length ws) {h : ℕ} (is_header : h ≡ get_or ws at 0) (end : ℕ) (is_end : end ≡ min (at + 1 + count h) (length ws)) where
  abbrev read : Passed
  read = headed g at h (slice (at + 1) end ws) st

  packet_is : packet_from g at (drop at ws) st ≡ up_to (at + 1 + count h) read
  unfolding packet_from
  packet_is = rw (rest ws at l, ← is_header, at_hand ws at (count h) l end is_end, add-one at)

  -- a word of it is refused,
  pub packet_refused : (r : Reason) {p : ℕ} {left : List ℕ} → Comes (answer (number r) p) left read → Comes (answer (number r) p) left (packet_from g at (drop at ws) st)
  packet_refused r is = rw (packet_is ∙ else_stop read.reason read.place read.state _ (λ z. refused r (ap (λ (x : Answer). x.reason) is.0 ∙ z))) is

  -- or none is
  pub packet_passed : {p q : ℕ} {left : List ℕ} → Comes (answer success p) left read → q ≡ at + 1 + count h → Comes (answer success q) left (packet_from g at (drop at ws) st)
  packet_passed is e = rw (packet_is ∙ else_on read.place read.state (sym (ap (λ (x : Answer). x.reason) is.0))) (ap (answer success) e, is.1)

-- ---- words from a position on

-- between packets the kind does not matter
between : (g : Terms) (i : ℕ) (x y : Kind) (ws st : List ℕ) → packets_from g i x 0 ws st ≡ packets_from g i y 0 ws st
unfolding packets_from judge next_kind next_left write_at
between g i x y [] st = refl
between g i x y (w ∷ ws) st = refl

header_read : (g : Terms) (i : ℕ) (kind : Kind) (w : ℕ) (ws st : List ℕ)
    → packets_from g i kind 0 (w ∷ ws) st ≡ or_else (header_reason w) i st (packets_from g (suc i) (kind_of w) (count w) ws st)
unfolding packets_from judge next_kind next_left write_at apply_all
header_read g i kind w ws st = refl

word_read : (g : Terms) (i : ℕ) (kind : Kind) (k w : ℕ) (ws st : List ℕ)
    → packets_from g i kind (suc k) (w ∷ ws) st ≡ or_else (word_reason g kind w) i st (packets_from g (suc i) (after kind w) k ws (applied kind w st))
unfolding packets_from judge next_kind next_left write_at
word_read g i kind k w ws st = refl

-- ---- a stretch: what its words come to, and then what follows it

abbrev after_body : Passed → (List ℕ → Passed) → Passed
after_body a more = or_else a.reason a.place a.state (more a.state)

body_else : (r i : ℕ) (st : List ℕ) (a : Passed) (more : List ℕ → Passed) → after_body (or_else r i st a) more ≡ or_else r i st (after_body a more)
body_else zero i st a more = refl
body_else (suc r) i st a more = refl

stretch : (g : Terms) (i : ℕ) (kind : Kind) (k : ℕ) (xs ys st : List ℕ) → length xs ≤ k
    → packets_from g i kind k (xs ++ ys) st ≡ after_body (body_from g i kind xs st) (λ left. packets_from g (i + length xs) (after_all kind xs) (k - length xs) ys left)
unfolding body_from after_all
stretch g i kind k [] ys st l =
    let e : k ≡ k - 0 = omega arith in
    let f : i ≡ i + 0 = omega arith in
    ap (λ (n : ℕ). packets_from g n kind k ys st) f ∙ ap (λ (n : ℕ). packets_from g (i + 0) kind n ys st) e
stretch g i kind zero (x ∷ xs) ys st l = absurd (omega arith)
stretch g i kind (suc k) (x ∷ xs) ys st l =
    let e : suc i + length xs ≡ i + suc (length xs) = omega arith in
    let f : k - length xs ≡ suc k - suc (length xs) = omega arith in
    let next = after kind x in
    let left = applied kind x st in
    word_read g i kind k x (xs ++ ys) st
    ∙ ap (or_else (word_reason g kind x) i st) (
    stretch g (suc i) next k xs ys left (omega arith)
    ∙ ap (λ (n : ℕ). after_body (body_from g (suc i) next xs left) (λ end. packets_from g n (after_all next xs) (k - length xs) ys end)) e
    ∙ ap (λ (n : ℕ). after_body (body_from g (suc i) next xs left) (λ end. packets_from g (i + suc (length xs)) (after_all next xs) n ys end)) f)
    ∙ sym (body_else (word_reason g kind x) i st (body_from g (suc i) next xs left)
    (λ end. packets_from g (i + suc (length xs)) (after_all next xs) (suc k - suc (length xs)) ys end))

-- what stands after a packet's header and the words of its body that are at hand
abbrev tail_of : Terms → ℕ → ℕ → List ℕ → List ℕ → Passed
tail_of g i h ws left =
    let xs = take (count h) ws in packets_from g (suc i + length xs) (after_all (kind_of h) xs) (count h - length xs) (drop (count h) ws) left

packet_tail : (g : Terms) (i : ℕ) (kind : Kind) (h : ℕ) (ws st : List ℕ) → packets_from g i kind 0 (h ∷ ws) st ≡ after_body (headed g i h (take (count h) ws) st) (tail_of g i h ws)
unfolding headed
packet_tail g i kind h ws st =
    header_read g i kind h ws st
    ∙ ap (or_else (header_reason h) i st) (
    ap (λ (l : List ℕ). packets_from g (suc i) (kind_of h) (count h) l st) (sym (take-append-drop (count h) ws))
    ∙ stretch g (suc i) (kind_of h) (count h) (take (count h) ws) (drop (count h) ws) st (few (count h) ws))
    ∙ sym (body_else (header_reason h) i st (body_from g (suc i) (kind_of h) (take (count h) ws) st) (tail_of g i h ws))
  where
    few : (n : ℕ) (l : List ℕ) → length (take n l) ≤ n
    few zero l = omega arith
    few (suc n) [] = omega arith
    few (suc n) (x ∷ l) = omega (arith, few n l)

-- ---- packet after packet

-- the packets from place i on; where the batch ends before it, it ends inside a packet
unfoldable pub ahead : Terms → ℕ → List ℕ → List ℕ → Passed
ahead g i ws st = cond (leb i (length ws)) (packets_from g i Setting 0 (drop i ws) st) (passed ends_inside (length ws) st)

pub all_ahead : (g : Terms) (ws st : List ℕ) → ahead g 0 ws st ≡ packets_from g 0 Setting 0 ws st
unfolding ahead
all_ahead g ws st = rw (le-leb 0 (length ws) (omega arith))

-- a packet that is whole is followed by the next; one that is not, by nothing
tail_ahead : (g : Terms) (ws : List ℕ) (i h : ℕ) (left : List ℕ) → i < length ws → tail_of g i h (drop (i + 1) ws) left ≡ ahead g (i + 1 + count h) ws left
unfolding ahead packets_from
tail_ahead g ws i h left l =
    let long : length (drop (i + 1) ws) ≡ length ws - (i + 1) = length-drop (i + 1) ws in
    elim (dec_lt (length ws) (i + 1 + count h)) [
      | yes s ↦
          let few : length (drop (i + 1) ws) ≤ count h = omega arith in
          let some : count h - length (drop (i + 1) ws) ≡ suc (count h - length (drop (i + 1) ws) - 1) = omega arith in
          let end : suc i + length (drop (i + 1) ws) ≡ length ws = omega arith in
          rw (lt-leb (i + 1 + count h) (length ws) s, take_all (count h) (drop (i + 1) ws) few, drop_of_length-le (drop (i + 1) ws) few, some, end)
      | no s ↦
          let m = length-take-le (count h) (drop (i + 1) ws) (omega arith) in
          let z : count h - count h ≡ 0 = omega arith in
          let next : suc i + count h ≡ i + 1 + count h = omega arith in
          rw (le-leb (i + 1 + count h) (length ws) (omega arith), m, z, next, drop-drop (count h) (i + 1) ws)
          (between g (i + 1 + count h) _ Setting (drop (i + 1 + count h) ws) left)
    ]

module _ (g : Terms) (ws : List ℕ) (target : Passed) (st : List ℕ) (i : ℕ) (inv : ahead g i ws st ≡ target) where
  -- all is read
  pub all_read : {p : ℕ} → p ≡ length ws → i ≡ length ws → Comes (answer success p) st target
  unfolding ahead packets_from
  all_read is_end e =
      let inside : i ≤ length ws = omega arith in
      let none : length ws ≤ i = omega arith in
      comes (ap (λ (x : ℕ). passed success x st) (is_end ∙ sym e) ∙ (rw (le-leb i (length ws) inside, drop_of_length-le ws none) at inv))

  -- the last packet is not whole
  pub not_whole : {p : ℕ} → p ≡ length ws → length ws < i → Comes (answer ends_inside p) st target
  unfolding ahead
  not_whole is_end l = comes (ap (λ (x : ℕ). passed ends_inside x st) is_end ∙ (rw (lt-leb i (length ws) l) at inv))

  module _ (l : i < length ws) {a : Answer} {left : List ℕ} (is : Comes a left (packet_from g i (drop i ws) st)) where
    abbrev h : ℕ
    h = get_or ws i 0

    abbrev b : Passed
    b = headed g i h (take (count h) (drop (i + 1) ws)) st

    target_is : after_body b (tail_of g i h (drop (i + 1) ws)) ≡ target
    unfolding ahead
    target_is =
        let inside = rw (le-leb i (length ws) (omega arith)) at inv in
        sym (packet_tail g i Setting h (drop (i + 1) ws) st) ∙ sym (ap (λ (x : List ℕ). packets_from g i Setting 0 x st) (rest ws i l)) ∙ inside

    packet_up : packet_from g i (drop i ws) st ≡ up_to (suc i + count h) b
    unfolding packet_from
    packet_up = ap (λ (x : List ℕ). packet_from g i x st) (rest ws i l)

    -- the answer tells whether the header and the words at hand are fine
    reason_up : (r : ℕ) → b.reason ≡ r → (up_to (suc i + count h) b).reason ≡ r
    reason_up zero e = rw e
    reason_up (suc r) e = rw e

    a_reason : a.reason ≡ b.reason
    a_reason = ap (λ (x : Answer). x.reason) is.0 ∙ ap (λ (x : Passed). x.reason) packet_up ∙ reason_up b.reason refl

    -- a word of the next packet is refused,
    pub read_stop : (r : Reason) → a.reason ≡ number r → Comes a left target
    read_stop r e =
        let m : b.reason ≡ 0 → ⊥ = λ z. refused r (sym e ∙ a_reason ∙ z) in
        rw (packet_up ∙ else_stop b.reason b.place b.state _ m ∙ sym (else_stop b.reason b.place b.state _ m) ∙ target_is) at is

    -- or none is, and the packets behind it are left
    pub read_on : a.reason ≡ 0 → ahead g a.place ws left ≡ target
    read_on z =
        let fine : b.reason ≡ 0 = sym a_reason ∙ z in
        let up : packet_from g i (drop i ws) st ≡ passed success (suc i + count h) b.state = packet_up ∙ else_on b.place b.state fine in
        let place : a.place ≡ i + 1 + count h = ap (λ (x : Answer). x.place) is.0 ∙ ap (λ (x : Passed). x.place) up ∙ omega arith in
        let state : left ≡ b.state = is.1 ∙ ap (λ (x : Passed). x.state) up in
        rw (place, state) (sym (tail_ahead g ws i h b.state l) ∙ sym (else_on b.place b.state fine) ∙ target_is)

-- ---- all the words

-- an answer with its place counted from i on
abbrev counted : ℕ → Answer → Answer
counted i a = answer a.reason (i + a.place)

end_counted : (k i : ℕ) (st : List ℕ) → answer_of (ends k i st) ≡ counted i (ended k)
end_counted zero i st = ap (answer success) (omega arith)
end_counted (suc k) i st = ap (answer ends_inside) (omega arith)

word_counted : (r i : ℕ) (st : List ℕ) (x : Passed) (y : Answer) → answer_of x ≡ counted (suc i) y → answer_of (or_else r i st x) ≡ counted i (follow r y)
word_counted zero i st x y e = e ∙ ap (answer y.reason) (omega arith)
word_counted (suc r) i st x y e = ap (answer (suc r)) (omega arith)

from_run : (g : Terms) (i : ℕ) (kind : Kind) (k : ℕ) (ws st : List ℕ) → answer_of (packets_from g i kind k ws st) ≡ counted i (run g kind k ws)
unfolding packets_from run
from_run g i kind k [] st = end_counted k i st
from_run g i kind k (w ∷ ws) st =
    word_counted (judge g kind k w) i st _ _ (from_run g (suc i) (next_kind kind k w) (next_left k w) ws (apply_all st (write_at kind k w)))

-- a property of what was left before a word, and of what comes after it, is one of what is left
left_else : (P : List ℕ → Type 0) (r i : ℕ) (st : List ℕ) (x : Passed) → P st → P x.state → P (or_else r i st x).state
left_else P zero i st x before after = after
left_else P (suc r) i st x before after = before

-- where nothing speaks against them, they leave what they write
wrote_else : (r i : ℕ) (st : List ℕ) (x : Passed) (left : List ℕ) → (x.reason ≡ 0 → x.state ≡ left) → (or_else r i st x).reason ≡ 0 → (or_else r i st x).state ≡ left
wrote_else zero i st x left h e = h e
wrote_else (suc r) i st x left h e = absurd (omega arith)

from_writes : (g : Terms) (i : ℕ) (kind : Kind) (k : ℕ) (ws st : List ℕ) → (packets_from g i kind k ws st).reason ≡ 0
    → (packets_from g i kind k ws st).state ≡ apply_all st (writes_from kind k ws)
unfolding packets_from writes_from apply_all
from_writes g i kind zero [] st e = refl
from_writes g i kind (suc k) [] st e = refl
from_writes g i kind k (w ∷ ws) st e =
    wrote_else (judge g kind k w) i st _ _
    (λ z. from_writes g (suc i) (next_kind kind k w) (next_left k w) ws (apply_all st (write_at kind k w)) z ∙ sym (applied_append st (write_at kind k w) (writes_from (next_kind kind k w) (next_left k w) ws)))
    e

-- that is the reader's answer, and the batch's writes
pub answered : (g : Terms) (ws st : List ℕ) → answer_of (packets_from g 0 Setting 0 ws st) ≡ batch_answer g ws
unfolding batch_answer
answered g ws st = from_run g 0 Setting 0 ws st ∙ ap (answer (run g Setting 0 ws).reason) (omega arith)

pub wrote : (g : Terms) (ws st : List ℕ) → (packets_from g 0 Setting 0 ws st).reason ≡ 0 → (packets_from g 0 Setting 0 ws st).state ≡ apply_all st (writes_of ws)
unfolding writes_of
wrote g ws st e = from_writes g 0 Setting 0 ws st e

-- ---- the state keeps its size

length_writes : (st : List ℕ) (us : List Write) → length (apply_all st us) ≡ length st
unfolding apply_all apply
length_writes st [] = refl
length_writes st (u ∷ us) = length_writes (apply st u) us ∙ simp length-set

pub same_size : (g : Terms) (i : ℕ) (kind : Kind) (k : ℕ) (ws st : List ℕ) → length (packets_from g i kind k ws st).state ≡ length st
unfolding packets_from
same_size g i kind zero [] st = refl
same_size g i kind (suc k) [] st = refl
same_size g i kind k (w ∷ ws) st =
    left_else (λ l. length l ≡ length st) (judge g kind k w) i st _ refl
    (same_size g (suc i) (next_kind kind k w) (next_left k w) ws (apply_all st (write_at kind k w)) ∙ length_writes st (write_at kind k w))
