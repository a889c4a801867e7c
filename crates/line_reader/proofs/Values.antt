-- Eight digits and the end of a line: what stands at the front of a text, and for which value.
-- Assumes nothing.
use Rattle.std.specs.Prelude.{Option, Some, None}
use mathlib.Core.Path.{◌≡◌, refl, sym, ap, ◌∙◌}
use mathlib.Core.List.{List, [], ◌∷◌, ◌++◌}
use mathlib.Core.Logic.{◌≢◌}
use Prim.Native.Nat.{ℕ, suc, ◌+◌, ◌*◌, ◌≤◌, ◌<◌, ◌^◌}
use native.Mathlib.Omega.{arith}
use native.Mathlib.Nat.{pow-suc, pow-le-pow_right}
use lib.ListN.{length, take, drop, get_or, take-append-drop, length-drop}
use lib.Seq.{take-suc, take-add, drop-cons, drop-drop, get_or-take, get_or-drop}
use Rattle.meaning.specs.Words.{Word}
use Rattle.meaning.specs.Text.{ascii}
use Rattle.meaning.specs.Lister.{digit, hex}
use Rattle.meaning.specs.ListingReader.{worth}
use Rattle.lines.specs.Lines.{value_text}
use Rattle.listings.proofs.Digits.{worth_hex}
use Rattle.line_reader.specs.Named.{hex_digit}
use Rattle.line_reader.specs.Read.{Four, Stands, NoneStands, DigitsAt, ValueAt}
use Rattle.line_reader.proofs.Fours.{bytes_once}
use Rattle.line_reader.proofs.Digits.{hex_none, hex_some, counts_digit, digit_counts, hex_hex, hex_more}

-- two numbers of the same digits
hex_once : (u v : ℕ) → Word u → Word v → hex 8 u ≡ hex 8 v → u ≡ v
hex_once u v a b e = sym (worth_hex 8 u a) ∙ ap worth e ∙ worth_hex 8 v b

-- ---- digit by digit: those before i make the value

pub record Making (t : List ℕ) (at value i : ℕ) : Type 0 where
  pub room : at + 8 ≤ length t
  pub few : i ≤ 8
  pub low : value < 16 ^ i
  pub made : take i (drop at t) ≡ hex i value

pub making_start : (t : List ℕ) (at : ℕ) → at + 8 ≤ length t → Making t at 0 0
unfolding hex
making_start t at l = record { room = l; few = omega arith; low = omega arith; made = refl }

module _ {t : List ℕ} {at value i : ℕ} (m : Making t at value i) where
  pub making_done : 8 ≤ i → Stands (hex 8) 8 (drop at t) value
  making_done l =
      let e : i ≡ 8 = omega (arith, m.few) in
      let low : Word value = rw e at m.low in
      let made : take 8 (drop at t) ≡ hex 8 value = rw e at m.made in
      record { word = low; same = made; only = λ u w s. hex_once value u low w (sym made ∙ s) }

  module _ (l : i < 8) where
    byte : get_or (drop at t) i 0 ≡ get_or t (at + i) 0
    byte = get_or-drop at t i 0

    -- no digit
    pub making_stopped : None ≡ hex_digit (get_or t (at + i) 0) → NoneStands (hex 8) 8 (drop at t)
    making_stopped h u w s =
        let x : get_or (hex 8 u) i 0 ≡ get_or t (at + i) 0 = ap (λ (y : List ℕ). get_or y i 0) (sym s) ∙ get_or-take 8 (drop at t) i 0 l ∙ byte in
        absurd (omega (arith, hex_none _ h, digit_counts (get_or t (at + i) 0) (rw x at (hex_hex 8 u i l))))

    pub making_fits : (d : ℕ) → d ≤ 15 → value * 16 + d < 2 ^ 32
    making_fits d h =
        let p : 16 ^ i ≤ 16 ^ 7 = pow-le-pow_right {n = 16} (omega arith) {i = i} {j = 7} (omega arith) in
        let q : 16 ^ i ≤ 268435456 = p in
        omega (arith, m.low)

    pub making_next : {d : ℕ} → Some d ≡ hex_digit (get_or t (at + i) 0) → Making t at (value * 16 + d) (i + 1)
    making_next {d} told =
        let e = (hex_some (get_or t (at + i) 0) told).0 in
        let h = (hex_some (get_or t (at + i) 0) told).1 in
        let s : i + 1 ≡ suc i = omega arith in
        let j : i < length (drop at t) = omega (arith, length-drop at t, m.room) in
        let x = get_or t (at + i) 0 in
        let g : get_or t (at + i) 0 ≡ digit d = sym (ap digit e ∙ counts_digit (get_or t (at + i) 0) (omega arith)) in
        record {
          room = m.room;
          few = omega arith;
          low = rw (s, pow-suc 16 i) (omega (arith, m.low));
          made = rw (s, take-suc (drop at t) i 0 j, m.made, byte, g) (sym (hex_more i value d (omega arith)));
        }

-- ---- the end of a line

-- what stands at the front of a text, and the rest
pub standing : (n : ℕ) (ys t : List ℕ) → take n ys ≡ t → ys ≡ t ++ drop n ys
standing n ys t e = sym (take-append-drop n ys) ∙ ap (λ (x : List ℕ). x ++ drop n ys) e

one_byte : (ys : List ℕ) (n : ℕ) → n < length ys → take 1 (drop n ys) ≡ get_or ys n 0 ∷ []
one_byte ys n l = rw (drop-cons ys n 0 l)

module _ (ys : List ℕ) where
  -- its parts, if it is one
  pub record Ends (u : ℕ) : Type 0 where
    pub key : take 4 ys ≡ ascii " val"
    pub equals : get_or ys 4 0 ≡ 61
    pub digits : take 8 (drop 5 ys) ≡ hex 8 u
    pub newline : get_or ys 13 0 ≡ 10

  pub ends_of : (u : ℕ) → take 14 ys ≡ value_text u → Ends u
  unfolding hex
  ends_of u e =
      let s = standing 14 ys (value_text u) e in
      record { key = rw s; equals = rw s; digits = rw s; newline = rw s }

  pub of_ends : (u : ℕ) → 14 ≤ length ys → Ends u → take 14 ys ≡ value_text u
  of_ends u l p =
      take-add 4 10 ys
      ∙ rw (p.key, take-add 1 9 (drop 4 ys), drop-drop 1 4 ys, take-add 8 1 (drop 5 ys), drop-drop 8 5 ys, one_byte ys 4 (omega arith), p.equals, p.digits, one_byte ys 13 (omega arith), p.newline)

-- ` val`, as a word
abbrev pub val_key : ℕ
val_key = 0x6C617620

module _ (t : List ℕ) (at : ℕ) (room : at + 14 ≤ length t) where
  abbrev ys : List ℕ
  ys = drop at t

  long : 14 ≤ length ys
  long = omega (arith, length-drop at t)

  -- something else stands there
  refuted : ((u : ℕ) → Ends ys u → ⊥) → NoneStands value_text 14 ys
  refuted none u w s = none u (ends_of ys u s)

  module _ {w : ℕ} (f : Four t at w) where
    pub no_key : w ≢ val_key → NoneStands value_text 14 ys
    no_key ne = refuted (λ u p. ne (ap (λ (l : List ℕ). get_or l 0 0) (bytes_once (w ∷ []) (val_key ∷ []) (f.word, tt) (omega arith, tt) (sym f.same ∙ p.key))))

    pub no_equals : get_or t (at + 4) 0 ≢ 61 → NoneStands value_text 14 ys
    no_equals ne = refuted (λ u p. ne (sym (get_or-drop at t 4 0) ∙ p.equals))

    pub no_newline : get_or t (at + 13) 0 ≢ 10 → NoneStands value_text 14 ys
    no_newline ne = refuted (λ u p. ne (sym (get_or-drop at t 13 0) ∙ p.newline))

    pub value_of : w ≡ val_key → get_or t (at + 4) 0 ≡ 61 → get_or t (at + 13) 0 ≡ 10 → (r : Option ℕ) → DigitsAt (drop (at + 5) t) r → ValueAt ys r
    value_of key equals newline (Some v) d =
        record {
          word = d.word;
          same =
              of_ends ys v long
              (record {
                key = f.same ∙ rw key;
                equals = get_or-drop at t 4 0 ∙ equals;
                digits = ap (take 8) (drop-drop 5 at t) ∙ d.same;
                newline = get_or-drop at t 13 0 ∙ newline;
              });
          only = λ u x s. d.only u x (ap (take 8) (sym (drop-drop 5 at t)) ∙ (ends_of ys u s).digits);
        }
    value_of key equals newline None d = λ u x s. d u x (ap (take 8) (sym (drop-drop 5 at t)) ∙ (ends_of ys u s).digits)
