-- Hex digits and the number that they make.
-- Assumes nothing.
use mathlib.Core.Path.{◌≡◌, refl, ap, ◌∙◌}
use mathlib.Core.Bool.{true, false}
use mathlib.Core.Logic.{inl, inr}
use mathlib.Core.List.{List, ◌∷◌}
use Prim.Native.Nat.{ℕ, zero, suc, ◌+◌, ◌*◌, ◌-◌, ◌/◌, ◌%◌, ◌≤◌, ◌<◌, ◌^◌}
use native.Mathlib.Omega.{arith}
use native.Mathlib.Decide.{dec_lt}
use native.Mathlib.Nat.{pow-suc, mul_assoc, mul_comm, one-le-pow, mul-add-div_right, div-add-mod', div-eq_of_lt, mul-le-mul_right, mod-lt, div-lt_iff_lt-mul}
use borrow.Author.Tests.{lt-ltb, le-ltb, le-leb, lt-leb}
use lib.Dec.{T, leb, ltb}
use lib.ListN.{length, replicate}
use mir.Facts.{or_yes}
use Rattle.laws.specs.Tests.{within}
use Rattle.laws.proofs.Tests.{within_iff, or_left, or_right}
use Rattle.meaning.specs.Lister.{digit, hex}
use Rattle.meaning.specs.ListingReader.{any_digit, is_hex, digit_worth, worth}
use Rattle.listings.proofs.Forms.{Follows, end, next}

-- ---- one digit

pub digit_worth_lem : (d : ℕ) → d < 16 → T (is_hex (digit d)) × (digit_worth (digit d) ≡ d)
unfolding is_hex digit digit_worth
digit_worth_lem d l = elim (dec_lt d 10) [
  | yes h ↦
      let z : ltb d 10 ≡ true = lt-ltb d 10 h in
      let e : leb (48 + d) 57 ≡ true = le-leb (48 + d) 57 (omega arith) in
      let s : 48 + d - 48 ≡ d = omega arith in
      rw z (or_left (within 48 57 (48 + d)) (within 97 102 (48 + d)) ((within_iff 48 57 (48 + d)).1 (omega arith, omega arith)), rw (e, s))
  | no h ↦
      let z : ltb d 10 ≡ false = le-ltb d 10 (omega arith) in
      let e : leb (87 + d) 57 ≡ false = lt-leb (87 + d) 57 (omega arith) in
      let s : 87 + d - 87 ≡ d = omega arith in
      rw z (or_right (within 48 57 (87 + d)) (within 97 102 (87 + d)) ((within_iff 97 102 (87 + d)).1 (omega arith, omega arith)), rw (e, s))
]

pub worth_digit : (x : ℕ) → T (is_hex x) → (digit (digit_worth x) ≡ x) × (digit_worth x < 16)
unfolding is_hex digit digit_worth
worth_digit x t = elim (or_yes (within 48 57 x) _ t) [
  | inl h ↦
      let p = (within_iff 48 57 x).0 h in
      let e : leb x 57 ≡ true = le-leb x 57 p.1 in
      let z : ltb (x - 48) 10 ≡ true = lt-ltb (x - 48) 10 (omega (arith, p.0, p.1)) in
      let s : 48 + (x - 48) ≡ x = omega (arith, p.0) in
      rw (e, z) (s, omega (arith, p.0, p.1))
  | inr h ↦
      let p = (within_iff 97 102 x).0 h in
      let e : leb x 57 ≡ false = lt-leb x 57 (omega (arith, p.0)) in
      let z : ltb (x - 87) 10 ≡ false = le-ltb (x - 87) 10 (omega (arith, p.0)) in
      let s : 87 + (x - 87) ≡ x = omega (arith, p.0) in
      rw (e, z) (s, omega (arith, p.0, p.1))
]

-- ---- digits

pub hex_length : (k n : ℕ) → length (hex k n) ≡ k
unfolding hex
hex_length zero n = refl
hex_length (suc k) n = ap suc (hex_length k n)

some16 : (k : ℕ) → 0 < 16 ^ k
some16 k = omega (arith, one-le-pow k 16 (omega arith))

-- what lies above the lowest k digits does not show
hex_low : (k a m : ℕ) → hex k (a * 16 ^ k + m) ≡ hex k m
unfolding hex
hex_low zero a m = refl
hex_low (suc k) a m =
    let e : a * 16 ^ suc k + m ≡ a * 16 * 16 ^ k + m = rw (pow-suc 16 k, mul_comm (16 ^ k) 16, mul_assoc a 16 (16 ^ k)) in
    let d : (a * 16 * 16 ^ k + m) / 16 ^ k ≡ a * 16 + m / 16 ^ k = mul-add-div_right (some16 k) (a * 16) m in
    let r : (a * 16 + m / 16 ^ k) % 16 ≡ m / 16 ^ k % 16 = omega arith in
    rw (e, d, r, hex_low k (a * 16) m)

-- the highest digit, and the others
hex_split : (k d m : ℕ) → d < 16 → m < 16 ^ k → hex (suc k) (d * 16 ^ k + m) ≡ digit d ∷ hex k m
unfolding hex
hex_split k d m l h =
    let q : (d * 16 ^ k + m) / 16 ^ k ≡ d + m / 16 ^ k = mul-add-div_right (some16 k) d m in
    let z : m / 16 ^ k ≡ 0 = div-eq_of_lt h in
    let r : (d + 0) % 16 ≡ d = omega arith in
    rw (q, z, r, hex_low k d m)

small : (k d m : ℕ) → d < 16 → m < 16 ^ k → d * 16 ^ k + m < 16 ^ suc k
small k d m l h =
    let p : d * 16 ^ k ≤ 15 * 16 ^ k = mul-le-mul_right (16 ^ k) (omega arith) in
    rw (pow-suc 16 k) (omega arith)

worth_none : (n : ℕ) → n < 1 → worth (hex 0 n) ≡ n
unfolding worth hex
worth_none n l = omega arith

pub worth_hex : (k n : ℕ) → n < 16 ^ k → worth (hex k n) ≡ n
unfolding worth
worth_hex zero n l = worth_none n l
worth_hex (suc k) n l =
    let d : n / 16 ^ k < 16 = (div-lt_iff_lt-mul (some16 k)).1 (rw (pow-suc 16 k, mul_comm (16 ^ k) 16) at l) in
    let m : n % 16 ^ k < 16 ^ k = mod-lt n (some16 k) in
    let e : n / 16 ^ k * 16 ^ k + n % 16 ^ k ≡ n = div-add-mod' n (16 ^ k) in
    let s : hex (suc k) n ≡ digit (n / 16 ^ k) ∷ hex k (n % 16 ^ k) = rw e at (hex_split k (n / 16 ^ k) (n % 16 ^ k) d m) in
    rw (s, (digit_worth_lem (n / 16 ^ k) d).1, hex_length k (n % 16 ^ k), worth_hex k (n % 16 ^ k) m) e

-- what follows k free digits is those of the number that they make
pub record Makes (k : ℕ) (ds : List ℕ) : Type 0 where
  pub size : length ds ≡ k
  pub low : worth ds < 16 ^ k
  pub same : hex k (worth ds) ≡ ds

pub digits_make : {ds : List ℕ} (k : ℕ) → Follows (replicate k any_digit) ds → Makes k ds
unfolding worth hex
digits_make zero end = record { size = refl; low = omega arith; same = refl }
digits_make (suc k) (next {t} {ts} h r) =
    let m = digits_make k r in
    let w = worth_digit t h in
    record {
      size = ap suc m.size;
      low = rw m.size (small k (digit_worth t) (worth ts) w.1 m.low);
      same = rw m.size (hex_split k (digit_worth t) (worth ts) w.1 m.low ∙ rw (w.0, m.same));
    }

pub hex_follows : (k n : ℕ) → Follows (replicate k any_digit) (hex k n)
unfolding hex
hex_follows zero n = end
hex_follows (suc k) n = next (digit_worth_lem (n / 16 ^ k % 16) (omega arith)).0 (hex_follows k n)
