-- What a reading tells of a set of texts, and how that carries over to texts that start with a form.
-- Assumes nothing.
use mathlib.Core.Path.{◌≡◌, refl, sym, ap, subst, ◌∙◌}
use mathlib.Core.List.{List, [], ◌++◌, append_assoc, append-nil}
use mathlib.Core.Logic.{◌≢◌}
use Prim.Native.Nat.{ℕ, zero, suc, ◌+◌, ◌≤◌, ◌<◌, max}
use native.Mathlib.Omega.{arith}
use native.Mathlib.Decide.{dec_lt}
use lib.ListN.{length, take, drop, length-drop, take-append-drop}
use lib.Seq.{take-add, take-length, drop_at}
use Rattle.meaning.specs.State.{Write}
use Rattle.meaning.specs.Answers.{answer, not_listing}
use Rattle.meaning.specs.ListingReader.{Slot, along, Outcome, refused, at_least}
use Rattle.listings.proofs.Forms.{Follows, follows_length, along_within, whole_follows, follows_whole, Meets, inside, beyond, meets, completed}

-- texts, and what each writes
abbrev pub Texts : Type 1
Texts = List ℕ → List Write → Type 0

-- one of the texts starts with the first n bytes
pub record Starts (L : Texts) (xs : List ℕ) (n : ℕ) : Type 0 where
  pub more : List ℕ
  pub writes : List Write
  pub whole : L (take n xs ++ more) writes

pub record Some (L : Texts) : Type 0 where
  pub text : List ℕ
  pub writes : List Write
  pub whole : L text writes

-- 0 exactly for a text of the set, with its writes; the place is the length of the longest beginning of one of them (0 where there is none)
pub record Tells (L : Texts) (xs : List ℕ) (r : Outcome) : Type 0 where
  pub right : r.answer.reason ≡ 0 → L xs r.writes × (r.answer.place ≡ length xs)
  pub found : (ws : List Write) → L xs ws → (r.answer.reason ≡ 0) × (r.writes ≡ ws)
  pub inside : r.answer.place ≤ length xs
  pub begun : 0 < r.answer.place → Starts L xs r.answer.place
  pub longest : (n : ℕ) → n ≤ length xs → Starts L xs n → n ≤ r.answer.place
  pub refusal : r.answer.reason ≢ 0 → r.answer.reason ≡ not_listing

-- a refusal at 0 where no text has a first byte as here
pub tells_none : (L : Texts) (xs : List ℕ) → ((n : ℕ) → n ≤ length xs → Starts L xs n → n ≤ 0) → ((ws : List Write) → L xs ws → ⊥) → Tells L xs (refused 0)
tells_none L xs h none = record {
  right = λ e. absurd (omega arith);
  found = λ ws i. absurd (none ws i);
  inside = omega arith;
  begun = λ l. absurd (omega arith);
  longest = h;
  refusal = λ n. refl;
}

-- the whole text is a beginning
pub all_starts : (L : Texts) (xs : List ℕ) (ws : List Write) → L xs ws → Starts L xs (length xs)
all_starts L xs ws i = record { more = []; writes = ws; whole = rw (take-length xs, append-nil xs) i }

-- at the place, if there is a text at all
pub starts_there : (L : Texts) (xs : List ℕ) (r : Outcome) → Some L → Tells L xs r → Starts L xs r.answer.place
starts_there L xs r s t = by r.answer.place refl
  where
    by : (p : ℕ) → r.answer.place ≡ p → Starts L xs p
    by zero e = record { more = s.text; writes = s.writes; whole = s.whole }
    by (suc p) e = rw e at (t.begun (omega arith))

-- ---- a form, then one of the texts L; or else one of the texts M

pub record This (f : List Slot) (w : List ℕ → List Write → List Write) (L : Texts) (xs : List ℕ) (vs : List Write) : Type 0 where
  pub front : List ℕ
  pub rest : List ℕ
  pub later : List Write
  pub follows : Follows f front
  pub texts : L rest later
  pub parts : xs ≡ front ++ rest
  pub all : vs ≡ w xs later

pub data Either (f : List Slot) (w : List ℕ → List Write → List Write) (L M : Texts) (xs : List ℕ) (vs : List Write) : Type 0 where
  this : This f w L xs vs → Either f w L M xs vs
  that : M xs vs → Either f w L M xs vs

cut_at : (n m p : ℕ) (xs ys : List ℕ) → n ≡ m → take (n + p) xs ++ ys ≡ take m xs ++ (take p (drop n xs) ++ ys)
cut_at n m p xs ys e = rw (take-add n p xs, append_assoc (take n xs) (take p (drop n xs)) ys, e)

module _ (f : List Slot) (w : List ℕ → List Write → List Write) (L M : Texts) (xs : List ℕ) where
  -- the reading that goes on behind the form
  abbrev pub behind : ℕ → Outcome → Outcome
  behind n r = record { answer = answer r.answer.reason (n + r.answer.place); writes = w xs r.writes }

  -- where the text goes along the form to its end
  module _ (e : along f xs ≡ length f) (others : (n : ℕ) → n ≤ length xs → Starts M xs n → n < length f) (r : Outcome) (some : Some L)
      (t : Tells L (drop (along f xs) xs) r) where
    long : length f ≤ length xs
    long = omega (arith, (along_within f xs).1)

    dropped : length (drop (along f xs) xs) + length f ≡ length xs
    dropped = omega (arith, long, length-drop (along f xs) xs)

    whole_right : r.answer.reason ≡ 0 → Either f w L M xs (w xs r.writes) × (along f xs + r.answer.place ≡ length xs)
    whole_right z =
        let p = t.right z in (
          this (record {
            front = take (length f) xs;
            rest = drop (along f xs) xs;
            later = r.writes;
            follows = whole_follows f xs e;
            texts = p.0;
            parts = rw e (sym (take-append-drop (length f) xs));
            all = refl;
          }),
          omega (arith, p.1, dropped),
        )

    whole_found : (vs : List Write) → Either f w L M xs vs → (r.answer.reason ≡ 0) × (w xs r.writes ≡ vs)
    whole_found vs (this h) =
        let d : drop (along f xs) xs ≡ h.rest = rw (e, h.parts) (drop_at h.front h.rest (length f) (follows_length h.follows)) in
        let p = t.found h.later (rw d h.texts) in
        (p.0, ap (w xs) p.1 ∙ sym h.all)
    whole_found vs (that m) = absurd (omega (arith, others (length xs) (omega arith) (all_starts M xs vs m), long))

    whole_begun : Starts (Either f w L M) xs (along f xs + r.answer.place)
    whole_begun =
        let p = r.answer.place in
        let s = starts_there L (drop (along f xs) xs) r some t in
        record {
          more = s.more;
          writes = w (take (along f xs + p) xs ++ s.more) s.writes;
          whole = this (record {
            front = take (length f) xs;
            rest = take p (drop (along f xs) xs) ++ s.more;
            later = s.writes;
            follows = whole_follows f xs e;
            texts = s.whole;
            parts = cut_at (along f xs) (length f) p xs s.more e;
            all = refl;
          });
        }

    whole_longest : (n : ℕ) → n ≤ length xs → Starts (Either f w L M) xs n → n ≤ along f xs + r.answer.place
    whole_longest n l s = by s.whole
      where
        met : (h : This f w L (take n xs ++ s.more) s.writes) → Meets f xs n s.more h.rest → n ≤ along f xs + r.answer.place
        met h (inside k) = omega arith
        met h (beyond m a q z) =
            let at : L (take m (drop (along f xs) xs) ++ s.more) h.later = rw (e, ← z) h.texts in
            omega (arith, t.longest m (omega (arith, dropped)) (record { more = s.more; writes = h.later; whole = at }))

        by : Either f w L M (take n xs ++ s.more) s.writes → n ≤ along f xs + r.answer.place
        by (this h) = met h (meets xs n s.more h.rest h.follows h.parts l)
        by (that m) = omega (arith, others n l (record { more = s.more; writes = s.writes; whole = m }))

    pub tells_whole : Tells (Either f w L M) xs (behind (along f xs) r)
    tells_whole = record {
      right = whole_right;
      found = whole_found;
      inside = omega (arith, t.inside, dropped);
      begun = λ l. whole_begun;
      longest = whole_longest;
      refusal = t.refusal;
    }

  -- where it leaves the form
  module _ (e : along f xs ≡ length f → ⊥) (r : Outcome) (some : Some L) (t : Tells M xs r) where
    -- the farther of the two
    abbrev far : ℕ
    far = max (along f xs) r.answer.place

    that_far : 0 < r.answer.place → Starts (Either f w L M) xs r.answer.place
    that_far l = let s = t.begun l in record { more = s.more; writes = s.writes; whole = that s.whole }

    this_far : Starts (Either f w L M) xs (along f xs)
    this_far =
        let c = completed f xs in
        record {
          more = c.rest ++ some.text;
          writes = w (take (along f xs) xs ++ (c.rest ++ some.text)) some.writes;
          whole = this (record {
            front = c.text;
            rest = some.text;
            later = some.writes;
            follows = c.follows;
            texts = some.whole;
            parts = rw (c.same, append_assoc (take (along f xs) xs) c.rest some.text);
            all = refl;
          });
        }

    left_begun : 0 < far → Starts (Either f w L M) xs far
    left_begun l = elim (dec_lt r.answer.place (along f xs)) [
      | yes h ↦ subst (Starts (Either f w L M) xs) (omega arith) this_far
      | no h ↦ subst (Starts (Either f w L M) xs) (omega arith) (that_far (omega arith))
    ]

    left_longest : (n : ℕ) → n ≤ length xs → Starts (Either f w L M) xs n → n ≤ far
    left_longest n l s = by s.whole
      where
        met : (h : This f w L (take n xs ++ s.more) s.writes) → Meets f xs n s.more h.rest → n ≤ far
        met h (inside k) = omega arith
        met h (beyond m a q y) = absurd (e a)

        by : Either f w L M (take n xs ++ s.more) s.writes → n ≤ far
        by (this h) = met h (meets xs n s.more h.rest h.follows h.parts l)
        by (that m) = omega (arith, t.longest n l (record { more = s.more; writes = s.writes; whole = m }))

    left_found : (vs : List Write) → Either f w L M xs vs → (r.answer.reason ≡ 0) × (r.writes ≡ vs)
    left_found vs (this h) = absurd (e (rw h.parts (follows_whole h.follows h.rest)))
    left_found vs (that m) = t.found vs m

    pub tells_left : Tells (Either f w L M) xs (at_least (along f xs) r)
    tells_left = record {
      right = λ k. let p = t.right k in (that p.0, omega (arith, p.1, (along_within f xs).1));
      found = left_found;
      inside = omega (arith, t.inside, (along_within f xs).1);
      begun = left_begun;
      longest = left_longest;
      refusal = t.refusal;
    }
