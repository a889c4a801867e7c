-- The ties of a sample's filters: which codes are 2 is told of all four at once, by a bit for each; what is permitted is a few such sets.
-- Assumes nothing.
use mathlib.Core.Path.{◌≡◌, refl, sym, ap, ap₂, ◌∙◌}
use mathlib.Core.Bool.{Bool, true, false, ◌&&◌, ◌||◌}
use mathlib.Core.List.{List, [], ◌∷◌}
use Prim.Native.Nat.{ℕ, zero, suc, ◌+◌, ◌*◌, ◌/◌, ◌%◌, ◌^◌, ◌<◌}
use native.Mathlib.Nat.{div-add-mod', div-div-eq-div-mul, mul_comm}
use native.Mathlib.Omega.{arith}
use lib.Dec.{eqb, leb}
use borrow.Author.Tests.{leb-true}
use lib.Bits.{bit_and, bit_or, bit_xor, and_block, and_mask, and_zero_r, or_shr, or_mod, xor_shr, xor_mod}
use Rattle.laws.specs.Lists.{some}
use Rattle.laws.specs.Tests.{implies, one_of}
use Rattle.meaning.specs.State.{one}
use Rattle.meaning.specs.Registers.{both_two}

-- the upper bit of a code without its lower one, at the place of the lower one; of all codes at once, wherever they stand
abbrev pub twos : ℕ → ℕ
twos v = bit_xor (bit_or (v / 2) v) v

-- the permitted sets of codes that are 2: none, those for enlarging, those for shrinking, all four
abbrev pub sets : List ℕ
sets = 0 ∷ 0x2080 ∷ 0x410 ∷ 0x2490 ∷ []

-- ---- one code

-- of two bits, the upper one and the lower one
upper_alone : (u l : ℕ) → u < 2 → l < 2 → bit_xor (bit_or u l) l ≡ one (eqb (u * 2 + l) 2)
upper_alone zero zero p q = refl
upper_alone zero (suc zero) p q = refl
upper_alone (suc zero) zero p q = refl
upper_alone (suc zero) (suc zero) p q = refl
upper_alone (suc (suc u)) l p q = absurd (omega arith)
upper_alone zero (suc (suc l)) p q = absurd (omega arith)
upper_alone (suc zero) (suc (suc l)) p q = absurd (omega arith)

-- the lowest code
low_code : (x : ℕ) → twos x % 2 ≡ one (eqb (x % 4) 2)
low_code x =
    let code : x / 2 % 2 * 2 + x % 2 ≡ x % 4 = omega arith in
    xor_mod (bit_or (x / 2) x) x 1
    ∙ ap (λ (y : ℕ). bit_xor y (x % 2)) (or_mod (x / 2) x 1)
    ∙ upper_alone (x / 2 % 2) (x % 2) (omega arith) (omega arith)
    ∙ ap (λ (y : ℕ). one (eqb y 2)) code

-- a code that begins at bit k
code_at : (v k : ℕ) → twos v / 2 ^ k % 2 ≡ one (eqb (v / 2 ^ k % 4) 2)
code_at v k =
    let halved : v / 2 / 2 ^ k ≡ v / 2 ^ k / 2 = div-div-eq-div-mul v 2 (2 ^ k) ∙ ap (λ (y : ℕ). v / y) (mul_comm 2 (2 ^ k)) ∙ sym (div-div-eq-div-mul v (2 ^ k) 2) in
    ap (λ (y : ℕ). y % 2) (xor_shr (bit_or (v / 2) v) v k ∙ ap (λ (y : ℕ). bit_xor y (v / 2 ^ k)) (or_shr (v / 2) v k ∙ ap (λ (y : ℕ). bit_or y (v / 2 ^ k)) halved))
    ∙ low_code (v / 2 ^ k)

-- ---- the mask that leaves the four bits, at 13, 10, 7 and 4

-- from a place on: a bit, and the rest of the mask three bits further up
bit_there : (x place m : ℕ) → bit_and (x / place) (m * 8 + 1) ≡ bit_and (x / (place * 8)) m * 8 + x / place % 2
bit_there x place m =
    let y : ℕ = x / place in
    let low : y % 8 % 2 ≡ y % 2 = omega arith in
    ap (λ (z : ℕ). bit_and z (m * 8 + 1)) (sym (div-add-mod' y 8))
    ∙ and_block 3 (y / 8) m (y % 8) 1 (omega arith) (omega arith)
    ∙ ap₂ (λ (z w : ℕ). bit_and z m * 8 + w) (div-div-eq-div-mul x place 8) (and_mask (y % 8) 1 ∙ low)

-- a mask without its low four bits
mask_above : (x m : ℕ) → bit_and x (m * 16 + 0) ≡ bit_and (x / 16) m * 16 + 0
mask_above x m =
    ap (λ (z : ℕ). bit_and z (m * 16 + 0)) (sym (div-add-mod' x 16))
    ∙ and_block 4 (x / 16) m (x % 16) 0 (omega arith) (omega arith)
    ∙ ap (λ (z : ℕ). bit_and (x / 16) m * 16 + z) (and_zero_r (x % 16))

-- the mask takes the bits from the top; what they come to, each at its own place
weights : (a b c d : ℕ) → ((((0 * 8 + a) * 8 + b) * 8 + c) * 8 + d) * 16 + 0 ≡ a * 0x2000 + b * 0x400 + c * 0x80 + d * 0x10
weights a b c d = omega arith

-- what the mask leaves is the four bits, each at its place
four_bits : (x : ℕ) → bit_and x 0x2490 ≡ x / 2 ^ 13 % 2 * 0x2000 + x / 2 ^ 10 % 2 * 0x400 + x / 2 ^ 7 % 2 * 0x80 + x / 2 ^ 4 % 2 * 0x10
four_bits x =
    rw (mask_above x 0x249, bit_there x 0x10 0x49, bit_there x 0x80 9, bit_there x 0x400 1, bit_there x 0x2000 0, and_zero_r (x / 0x10000))
    (weights (x / 0x2000 % 2) (x / 0x400 % 2) (x / 0x80 % 2) (x / 0x10 % 2))

-- ---- the ties

-- by whether each code is 2: for enlarging and for shrinking in S, then in T
tied_bits : (a b c d : Bool)
    → one_of (one a * 0x2000 + one b * 0x400 + one c * 0x80 + one d * 0x10) sets ≡ (implies (a || c) (a && c) && implies (b || d) (b && d))
unfolding some one_of
tied_bits true true true true = refl
tied_bits true true true false = refl
tied_bits true true false true = refl
tied_bits true true false false = refl
tied_bits true false true true = refl
tied_bits true false true false = refl
tied_bits true false false true = refl
tied_bits true false false false = refl
tied_bits false true true true = refl
tied_bits false true true false = refl
tied_bits false true false true = refl
tied_bits false true false false = refl
tied_bits false false true true = refl
tied_bits false false true false = refl
tied_bits false false false true = refl
tied_bits false false false false = refl

-- of a value: the codes that are 2 are a permitted set exactly if both ties hold
pub tied_codes : (v : ℕ)
    → one_of (bit_and (twos v) 0x2490) sets ≡ (both_two (v / 0x2000 % 4) (v / 0x80 % 4) && both_two (v / 0x400 % 4) (v / 0x10 % 4))
tied_codes v =
    rw (four_bits (twos v), code_at v 13, code_at v 10, code_at v 7, code_at v 4)
    (tied_bits (eqb (v / 0x2000 % 4) 2) (eqb (v / 0x400 % 4) 2) (eqb (v / 0x80 % 4) 2) (eqb (v / 0x10 % 4) 2))

-- ---- a field of three bits

-- that is at most 3 is its low two bits
low_two : (x : ℕ) → leb (x % 8) 3 ≡ true → x % 4 ≡ x % 8
low_two x h = omega (arith, leb-true (x % 8) 3 h)

-- so these tell of two such fields whether both are 2
pub low_codes : (x y : ℕ) → leb (x % 8) 3 ≡ true → leb (y % 8) 3 ≡ true → both_two (x % 4) (y % 4) ≡ both_two (x % 8) (y % 8)
low_codes x y p q = ap₂ both_two (low_two x p) (low_two y q)
