-- The place of a word's refusal is the length of the longest beginning of the batch with which some row of permitted packets starts.
-- Assumes nothing.
use mathlib.Core.Path.{◌≡◌, refl}
use mathlib.Core.Logic.{◌↔◌, ◌≢◌}
use mathlib.Core.Bool.{Bool, true, false, cond}
use mathlib.Core.List.{List, [], ◌∷◌, ◌++◌}
use Prim.Native.Nat.{ℕ, zero, suc, ◌≤◌}
use native.Mathlib.Omega.{arith}
use lib.Dec.{T, eqb, lit<}
use mir.Facts.{and_yes}
use lib.ListN.{length, take}
use Rattle.laws.specs.Lists.{All}
use Rattle.meaning.specs.Answers.{Answer}
use Rattle.meaning.specs.declared.VideoOffset.{VideoOffset}
use Rattle.meaning.specs.declared.Kind.{Kind}
use Rattle.meaning.specs.declared.Kind.TheVariants.{Setting, Parameter, Video}
use Rattle.meaning.specs.Words.{Word, count, offset, video_offset}
use Rattle.meaning.specs.Registers.{is_found, find_video}
use Rattle.meaning.specs.Grants.{Terms}
use Rattle.meaning.specs.Batch.{offset_3d, allowed, Cut}
use Rattle.meaning.specs.Positions.{kind_of, after, next_kind, next_left}
use Rattle.meaning.specs.Reader.{run_in, reason_3d, reason_video, header_reason, word_reason, judge, follow, run, batch_answer}
use Rattle.meaning.proofs.Verdicts.{unless_fine}
use Rattle.meaning.proofs.Packets.{run_header_fine}
use Rattle.meaning.proofs.Reading.{Left, left_cons, finished}

-- ---- positions that the reader comes to

-- the setting is one that is allowed, and a run stays in the video registers
abbrev pub Good : Kind → ℕ → Type 0
Good Setting k = Unit {0}
Good (Parameter s) k = T (allowed s)
Good (Video o) k = T (run_in o k)

module _ (g : Terms) where
  good_word : (kind : Kind) (k w : ℕ) → Good kind (suc k) → word_reason g kind w ≡ 0 → Good (after kind w) k
  unfolding word_reason after run_in
  good_word Setting k w h e = ((unless_fine (allowed w) 5 (lit< tt)).0 e).0
  good_word (Parameter s) k w h e = h
  good_word (Video o) k w h e = (and_yes (is_found (find_video o)) _ h).1

  good_header : (b : Bool) (w : ℕ) → cond b (reason_3d w) (reason_video w) ≡ 0 → Good (cond b Setting (Video (video_offset w))) (count w)
  good_header true w e = tt
  good_header false w e = ((run_header_fine w).0 e).2

  pub good_next : (kind : Kind) (k w : ℕ) → Good kind k → judge g kind k w ≡ 0 → Good (next_kind kind k w) (next_left k w)
  unfolding judge next_kind next_left header_reason kind_of
  good_next kind zero w h e = good_header (eqb (offset w) offset_3d) w e
  good_next kind (suc k) w h e = good_word kind k w h e

-- ---- words that may come next

pub record Sample (g : Terms) (kind : Kind) : Type 0 where
  pub word : ℕ
  pub small : Word word
  pub taken : word_reason g kind word ≡ 0

-- where each position has such a word
pub record Samples (g : Terms) : Type 0 where
  pub a_setting : Sample g Setting
  pub a_parameter : (s : ℕ) → T (allowed s) → Sample g (Parameter s)
  pub a_video_word : (o : VideoOffset) → T (is_found (find_video o)) → Sample g (Video o)

-- words that complete an open packet, or the batch
record Done (g : Terms) (kind : Kind) (k : ℕ) (xs : List ℕ) : Type 0 where
  more : List ℕ
  words : All Word more
  left : Left g kind k (xs ++ more)

module _ (g : Terms) (S : Samples g) where
  sample_of : (kind : Kind) (k : ℕ) → Good kind (suc k) → Sample g kind
  unfolding run_in
  sample_of Setting k h = S.a_setting
  sample_of (Parameter s) k h = S.a_parameter s h
  sample_of (Video o) k h = S.a_video_word o (and_yes (is_found (find_video o)) _ h).0

  complete : (kind : Kind) (k : ℕ) → Good kind k → Done g kind k []
  unfolding judge next_kind next_left
  complete kind zero h = record { more = []; words = tt; left = finished g kind }
  complete kind (suc k) h =
      let s = sample_of kind k h in
      let r = complete (after kind s.word) k (good_word g kind k s.word h s.taken) in
      record { more = s.word ∷ r.more; words = (s.small, r.words); left = (left_cons g kind (suc k) s.word r.more).1 (s.taken, r.left) }

-- some row of whole permitted packets starts with these words; what it goes on with is words of 32 bits
pub record Started (g : Terms) (ws : List ℕ) : Type 0 where
  pub more : List ℕ
  pub words : All Word more
  pub cut : Cut g (ws ++ more)

pub record Stopped (g : Terms) (ws : List ℕ) (p : ℕ) : Type 0 where
  pub within : p ≤ length ws
  pub started : Started g (take p ws)
  pub longest : (n : ℕ) → n ≤ length ws → Started g (take n ws) → n ≤ p

-- ---- what an answer tells

after_word : {g : Terms} {kind : Kind} {k : ℕ} (w : ℕ) {xs : List ℕ} → Done g kind k (w ∷ xs)
    → (judge g kind k w ≡ 0) × Done g (next_kind kind k w) (next_left k w) xs
after_word {g} {kind} {k} w {xs} d =
    let l = (left_cons g kind k w (xs ++ d.more)).0 d.left in
    (l.0, record { more = d.more; words = d.words; left = l.1 })

before_word : {g : Terms} {kind : Kind} {k w : ℕ} {xs : List ℕ} → judge g kind k w ≡ 0 → Done g (next_kind kind k w) (next_left k w) xs
    → Done g kind k (w ∷ xs)
before_word {g} {kind} {k} {w} {xs} e d = record { more = d.more; words = d.words; left = (left_cons g kind k w (xs ++ d.more)).1 (e, d.left) }

record Stop (g : Terms) (kind : Kind) (k : ℕ) (ws : List ℕ) (p : ℕ) : Type 0 where
  inside : p ≤ length ws
  begun : Done g kind k (take p ws)
  longest : (n : ℕ) → n ≤ length ws → Done g kind k (take n ws) → n ≤ p

-- no beginning holds a refused word
blocked : (g : Terms) (kind : Kind) (k w : ℕ) (ws : List ℕ) (r : ℕ) → judge g kind k w ≡ suc r → (n : ℕ) → Done g kind k (take n (w ∷ ws)) → n ≤ 0
blocked g kind k w ws r e zero d = omega arith
blocked g kind k w ws r e (suc n) d = absurd (omega (arith, (after_word w d).0))

one_more : (g : Terms) (kind : Kind) (k w : ℕ) (ws : List ℕ) (p : ℕ) → Stop g (next_kind kind k w) (next_left k w) ws p
    → (n : ℕ) → n ≤ suc (length ws) → Done g kind k (take n (w ∷ ws)) → n ≤ suc p
one_more g kind k w ws p t zero l d = omega arith
one_more g kind k w ws p t (suc n) l d = omega (arith, t.longest n (omega arith) (after_word w d).1)

module _ (g : Terms) (S : Samples g) where
  stop_cons : (kind : Kind) (k w : ℕ) (ws : List ℕ) (r : ℕ) (a : Answer) → Good kind k → judge g kind k w ≡ r
      → (r ≡ 0 → a.reason ≢ 0 → Stop g (next_kind kind k w) (next_left k w) ws a.place) → (follow r a).reason ≢ 0
      → Stop g kind k (w ∷ ws) (follow r a).place
  stop_cons kind k w ws zero a h e t z =
      let s = t refl z in
      record { inside = omega (arith, s.inside); begun = before_word e s.begun; longest = one_more g kind k w ws a.place s }
  stop_cons kind k w ws (suc r) a h e t z =
      record { inside = omega arith; begun = complete g S kind k h; longest = λ n l d. blocked g kind k w ws r e n d }

  stop : (kind : Kind) (k : ℕ) (ws : List ℕ) → Good kind k → (run g kind k ws).reason ≢ 0 → Stop g kind k ws (run g kind k ws).place
  unfolding run
  stop kind zero [] h z = absurd (z refl)
  stop kind (suc k) [] h z = record { inside = omega arith; begun = complete g S kind (suc k) h; longest = λ n l d. l }
  stop kind k (w ∷ ws) h z =
      stop_cons kind k w ws (judge g kind k w) (run g (next_kind kind k w) (next_left k w) ws) h refl
      (λ e. stop (next_kind kind k w) (next_left k w) ws (good_next g kind k w h e)) z

  started_done : {xs : List ℕ} → Started g xs ↔ Done g Setting 0 xs
  started_done {xs} = (
    λ b. record { more = b.more; words = b.words; left = record { enough = omega arith; body = tt; rest = b.cut } },
    λ d. record { more = d.more; words = d.words; cut = d.left.rest },
  )

  pub refusal_stops : (ws : List ℕ) → (batch_answer g ws).reason ≢ 0 → Stopped g ws (batch_answer g ws).place
  unfolding batch_answer
  refusal_stops ws z =
      let s = stop Setting 0 ws tt z in
      record { within = s.inside; started = started_done.1 s.begun; longest = λ n l b. s.longest n l (started_done.0 b) }
