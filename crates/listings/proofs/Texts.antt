-- The texts that follow a line's form are its lines for the values that fit.
-- Assumes nothing.
use mathlib.Core.Path.{◌≡◌, refl, sym, ap, ap₂, ◌∙◌}
use mathlib.Core.List.{List, [], ◌∷◌, ◌++◌, append_assoc, map}
use Prim.Native.Nat.{ℕ, ◌<◌, ◌^◌}
use lib.ListN.{length, take, drop, replicate}
use lib.Seq.{take_at, drop_at}
use mir.Facts.{eqb_yes, yes_eqb}
use Rattle.meaning.specs.Text.{ascii}
use Rattle.meaning.specs.Lister.{hex}
use Rattle.meaning.specs.ListingReader.{Slot, fixed, any_digit, worth, Line, form_of, write_of}
use Rattle.listings.proofs.Forms.{Follows, end, next}
use Rattle.listings.proofs.Digits.{hex_length, worth_hex, digits_make, hex_follows}

-- the line of a value
abbrev pub text_of : Line → ℕ → List ℕ
text_of l v = l.before ++ (hex l.digits v ++ ascii "\n")

-- ---- forms in two parts

follows_append : (f g : List Slot) (xs ys : List ℕ) → Follows f xs → Follows g ys → Follows (f ++ g) (xs ++ ys)
follows_append f g xs ys end r = r
follows_append f g xs ys (next t q) r = next t (follows_append _ g _ ys q r)

record Parts (f g : List Slot) (xs : List ℕ) : Type 0 where
  front : List ℕ
  rest : List ℕ
  first : Follows f front
  second : Follows g rest
  same : xs ≡ front ++ rest

follows_parts : (f g : List Slot) (xs : List ℕ) → Follows (f ++ g) xs → Parts f g xs
follows_parts [] g xs r = record { front = []; rest = xs; first = end; second = r; same = refl }
follows_parts (s ∷ f) g xs (next {t} {ts} h r) =
    let p = follows_parts f g ts r in
    record { front = t ∷ p.front; rest = p.rest; first = next h p.first; second = p.second; same = ap (λ (l : List ℕ). t ∷ l) p.same }

pub fixed_follows : (bs : List ℕ) → Follows (map fixed bs) bs
fixed_follows [] = end
fixed_follows (b ∷ bs) = next (yes_eqb {a = b} refl) (fixed_follows bs)

pub follows_fixed : (bs xs : List ℕ) → Follows (map fixed bs) xs → xs ≡ bs
follows_fixed [] xs end = refl
follows_fixed (b ∷ bs) xs (next {t} {ts} h r) = ap₂ (λ (x : ℕ) (l : List ℕ). x ∷ l) (eqb_yes h) (follows_fixed bs ts r)

-- ---- a line

pub text_follows : (l : Line) (v : ℕ) → Follows (form_of l) (text_of l v)
text_follows l v =
    follows_append (map fixed l.before) _ l.before _ (fixed_follows l.before)
    (follows_append (replicate l.digits any_digit) (map fixed (ascii "\n")) (hex l.digits v) (ascii "\n") (hex_follows l.digits v) (fixed_follows (ascii "\n")))

-- what it writes, whatever comes after it
pub text_writes : (l : Line) (v : ℕ) (zs : List ℕ) → v < 16 ^ l.digits → write_of l (text_of l v ++ zs) ≡ record { cell = l.cell; value = v }
text_writes l v zs h =
    let k = l.digits in
    let a : text_of l v ++ zs ≡ l.before ++ (hex k v ++ (ascii "\n" ++ zs)) =
    append_assoc l.before (hex k v ++ ascii "\n") zs ∙ ap (λ (x : List ℕ). l.before ++ x) (append_assoc (hex k v) (ascii "\n") zs) in
    let d : drop (length l.before) (text_of l v ++ zs) ≡ hex k v ++ (ascii "\n" ++ zs) = rw a (drop_at l.before _ (length l.before) refl) in
    let t : take k (hex k v ++ (ascii "\n" ++ zs)) ≡ hex k v = take_at (hex k v) _ k (hex_length k v) in
    let w : worth (take k (drop (length l.before) (text_of l v ++ zs))) ≡ v = rw (d, t) (worth_hex k v h) in
    ap (λ (x : ℕ). record { cell = l.cell; value = x }) w

pub record OfValue (l : Line) (ts : List ℕ) : Type 0 where
  pub value : ℕ
  pub low : value < 16 ^ l.digits
  pub same : ts ≡ text_of l value

pub follows_text : (l : Line) (ts : List ℕ) → Follows (form_of l) ts → OfValue l ts
follows_text l ts r =
    let p = follows_parts (map fixed l.before) (replicate l.digits any_digit ++ map fixed (ascii "\n")) ts r in
    let q = follows_parts (replicate l.digits any_digit) (map fixed (ascii "\n")) p.rest p.second in
    let m = digits_make l.digits q.first in
    let a : p.front ≡ l.before = follows_fixed l.before p.front p.first in
    let b : q.rest ≡ ascii "\n" = follows_fixed (ascii "\n") q.rest q.second in
    let e : hex l.digits (worth q.front) ≡ q.front = m.same in
    record {
      value = worth q.front;
      low = m.low;
      same = p.same ∙ ap₂ (λ (x y : List ℕ). x ++ y) a (q.same ∙ ap₂ (λ (x y : List ℕ). x ++ y) (sym e) b);
    }
