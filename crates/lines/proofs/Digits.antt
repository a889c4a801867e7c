-- Digits by pairs: the table of pairs has those of each byte, and a longer number is its pairs, one behind the other.
-- Assumes nothing.
use mathlib.Core.Path.{◌≡◌, refl, ◌∙◌}
use mathlib.Core.List.{[], ◌∷◌, ◌++◌, map}
use Prim.Native.Nat.{ℕ, zero, suc, ◌+◌, ◌*◌, ◌/◌, ◌%◌, ◌^◌, ◌<◌}
use native.Mathlib.Omega.{arith}
use native.Mathlib.Nat.{add-zero, pow-suc, div-div-eq-div-mul}
use lib.ListN.{get_or}
use Rattle.laws.specs.Lists.{join, from}
use Rattle.meaning.specs.Lister.{digit, hex}
use Rattle.lines.specs.Lines.{digit_pairs}

-- ---- the table

-- of the pairs from i on, pair j
pair_in : (k i j : ℕ) → j < k
    → (get_or (join (map (hex 2) (from i k))) (j * 2) 0 ≡ digit ((i + j) / 16 % 16))
    × (get_or (join (map (hex 2) (from i k))) (j * 2 + 1) 0 ≡ digit ((i + j) / 1 % 16))
unfolding hex from
pair_in zero i j l = absurd (omega arith)
pair_in (suc k) i zero l = rw (add-zero i) (refl, refl)
pair_in (suc k) i (suc j) l =
    let e : suc j * 2 ≡ suc (suc (j * 2)) = omega arith in
    let f : suc j * 2 + 1 ≡ suc (suc (j * 2 + 1)) = omega arith in
    let s : i + suc j ≡ suc i + j = omega arith in
    rw (f, e, s) (pair_in k (suc i) j (omega arith))

-- the pair of a byte has the two lowest digits of each number that ends in this byte
pub pair_at : (n : ℕ) → get_or digit_pairs (n % 256 * 2) 0 ∷ get_or digit_pairs (n % 256 * 2 + 1) 0 ∷ [] ≡ hex 2 n
unfolding hex digit_pairs
pair_at n =
    let p = pair_in 256 0 (n % 256) (omega arith) in
    let high : (0 + n % 256) / 16 % 16 ≡ n / 16 % 16 = omega arith in
    let low : (0 + n % 256) / 1 % 16 ≡ n / 1 % 16 = omega arith in
    rw (p.0, p.1, high, low)

-- ---- more than two digits

-- a pair in front of k digits
pair_before : (k n : ℕ) → hex 2 (n / 16 ^ k) ++ hex k n ≡ hex (suc (suc k)) n
unfolding hex
pair_before k n =
    let first : n / 16 ^ k / 16 ≡ n / 16 ^ suc k = div-div-eq-div-mul n (16 ^ k) 16 ∙ rw (pow-suc 16 k) in
    let second : n / 16 ^ k / 1 ≡ n / 16 ^ k = omega arith in
    rw (first, second)

-- four digits, as two pairs
pub four_digits : (n : ℕ) → hex 2 (n / 0x100) ++ hex 2 n ≡ hex 4 n
four_digits n = pair_before 2 n

-- eight digits, as four
pub eight_digits : (n : ℕ) → hex 2 (n / 0x1000000) ++ (hex 2 (n / 0x10000) ++ (hex 2 (n / 0x100) ++ hex 2 n)) ≡ hex 8 n
eight_digits n = rw (four_digits n, pair_before 4 n) (pair_before 6 n)
