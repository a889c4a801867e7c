-- The names of cells and the words that they are: what the code's two `match`es tell of them, and that they find each name.
-- Assumes nothing.
use Rattle.std.specs.Prelude.{Option, Some, None, IfSome, unwrap_or}
use Rattle.std.proofs.lemmas.Option.{none-some}
use mathlib.Core.Path.{◌≡◌, refl, sym, ap, ap₂, ◌∙◌}
use mathlib.Core.Bool.{Bool, true, false, cond, ◌&&◌, not}
use mathlib.Core.List.{List, [], ◌∷◌}
use mathlib.Core.Logic.{◌≢◌, ◌⊎◌, inl, inr}
use Prim.Native.Nat.{ℕ, ◌+◌, ◌*◌, ◌-◌, ◌/◌, ◌%◌, ◌≤◌, ◌<◌}
use native.Mathlib.Omega.{arith}
use native.Mathlib.Decide.{dec_lt}
use borrow.Author.Tests.{le-leb, lt-leb, eqb-true, ltb-false}
use lib.Dec.{T, leb, ltb, eqb}
use lib.ListN.{length, take, get_or}
use lib.Seq.{take-take}
use mir.Facts.{and_yes, eqb_yes, ltb_yes, leb_yes}
use Rattle.laws.specs.Lists.{All, every, from}
use Rattle.laws.proofs.Lists.{every_from}
use Rattle.meaning.specs.Registers.{cells, first_video, end_video}
use Rattle.meaning.specs.Words.{Word, words_of, bytes_of}
use Rattle.meaning.specs.Lister.{digit, hex}
use Rattle.meaning.proofs.Bytes.{words_bytes}
use Rattle.registers.specs.Names.{type_of, sub_type_of, address_of, offset_of}
use Rattle.listings.specs.Lines.{name_3d, name_video, name_text}
use Rattle.line_reader.specs.Named.{digit_or_16, cell_3d_by, cell_3d_of, cell_video_of}
use Rattle.line_reader.specs.Read.{NameAt, NoName}
use Rattle.line_reader.proofs.Fours.{bytes_once}
use Rattle.line_reader.proofs.Digits.{counts_digit}

-- the first word of every name
abbrev pub reg_key : ℕ
reg_key = 0x3D676572

-- ---- lists of numbers, compared

same_list : List ℕ → List ℕ → Bool
same_list [] [] = true
same_list [] (y ∷ ys) = false
same_list (x ∷ xs) [] = false
same_list (x ∷ xs) (y ∷ ys) = eqb x y && same_list xs ys

same_list_lem : (xs ys : List ℕ) → T (same_list xs ys) → xs ≡ ys
unfolding same_list
same_list_lem [] [] t = refl
same_list_lem [] (y ∷ ys) t = absurd t
same_list_lem (x ∷ xs) [] t = absurd t
same_list_lem (x ∷ xs) (y ∷ ys) t =
    let both = and_yes (eqb x y) _ t in
    ap₂ (λ (a : ℕ) (l : List ℕ). a ∷ l) (eqb_yes both.0) (same_list_lem xs ys both.1)

-- ---- how long a name is

pub name_3d_lem : (c : ℕ) → c < first_video → name_text c ≡ name_3d c
unfolding name_text
name_3d_lem c l = rw (le-leb c 83 (omega arith))

pub name_video_lem : (c : ℕ) → first_video ≤ c → name_text c ≡ name_video c
unfolding name_text
name_video_lem c l = rw (lt-leb c 83 (omega arith))

pub length_3d : (c : ℕ) → c < first_video → length (name_text c) ≡ 12
unfolding name_3d hex
length_3d c l = rw (name_3d_lem c l)

pub length_video : (c : ℕ) → first_video ≤ c → length (name_text c) ≡ 8
unfolding name_video hex
length_video c l = rw (name_video_lem c l)

-- ---- each name is found

is_cell : Option ℕ → ℕ → Bool
is_cell None c = false
is_cell (Some x) c = eqb x c

is_cell_lem : (o : Option ℕ) (c : ℕ) → T (is_cell o c) → o ≡ Some c
unfolding is_cell
is_cell_lem None c t = absurd t
is_cell_lem (Some x) c t = ap Some (eqb_yes t)

-- a 3D name's three words,
found_in_3d : ℕ → List ℕ → Bool
found_in_3d c [] = false
found_in_3d c (r ∷ []) = false
found_in_3d c (r ∷ k ∷ []) = false
found_in_3d c (r ∷ k ∷ n ∷ rest) = eqb r reg_key && is_cell (cell_3d_of k n) c

-- and a video name's two, of which the second is no 3D name's
found_in_video : ℕ → List ℕ → Bool
found_in_video c [] = false
found_in_video c (r ∷ []) = false
found_in_video c (r ∷ o ∷ rest) = eqb r reg_key && (is_cell (cell_video_of o) c && (not (eqb o 0x302E3130) && (not (eqb o 0x302E3230) && not (eqb o 0x322E3230))))

names_found : T (every (λ c. found_in_3d c (words_of (name_text c))) (from 0 first_video)) × T (every (λ c. found_in_video c (words_of (name_text c))) (from first_video (end_video - first_video)))
unfolding every from is_cell found_in_3d found_in_video name_text name_3d name_video hex digit type_of sub_type_of address_of offset_of digit_or_16 cell_3d_of cell_3d_by cell_video_of
names_found = (tt, tt)

module _ (c r k n : ℕ) (w : All Word (r ∷ k ∷ n ∷ [])) where
  pub found_3d : c < first_video → bytes_of (r ∷ k ∷ n ∷ []) ≡ name_text c → (r ≡ reg_key) × (cell_3d_of k n ≡ Some c)
  unfolding found_in_3d
  found_3d l e =
      let same : words_of (name_text c) ≡ r ∷ k ∷ n ∷ [] = ap words_of (sym e) ∙ words_bytes (r ∷ k ∷ n ∷ []) w in
      let t = every_from (λ c. found_in_3d c (words_of (name_text c))) 0 first_video names_found.0 c (omega arith) (omega arith) in
      let both = and_yes (eqb r reg_key) _ (rw same at t) in
      (eqb_yes both.0, is_cell_lem (cell_3d_of k n) c both.1)

not_so : (b : Bool) → T (not b) → b ≡ false
not_so true t = absurd t
not_so false t = refl

-- where the first half is none of the three, there is no 3D name
none_3d : (k n : ℕ) → eqb k 0x302E3130 ≡ false → eqb k 0x302E3230 ≡ false → eqb k 0x322E3230 ≡ false → cell_3d_of k n ≡ None
unfolding cell_3d_of cell_3d_by
none_3d k n a b c = rw (a, b, c) (by (ltb 15 (digit_or_16 (n % 256))))
  where
    by : (x : Bool) → ◌≡◌ {A = Option ℕ} (cond {A = Option ℕ} x None None) None
    by true = refl
    by false = refl

module _ (c r o : ℕ) (w : All Word (r ∷ o ∷ [])) where
  pub found_video : first_video ≤ c → c < end_video → bytes_of (r ∷ o ∷ []) ≡ name_text c → (r ≡ reg_key) × (cell_video_of o ≡ Some c) × ((n : ℕ) → cell_3d_of o n ≡ None)
  unfolding found_in_video
  found_video l h e =
      let same : words_of (name_text c) ≡ r ∷ o ∷ [] = ap words_of (sym e) ∙ words_bytes (r ∷ o ∷ []) w in
      let t = every_from (λ c. found_in_video c (words_of (name_text c))) first_video (end_video - first_video) names_found.1 c l (omega arith) in
      let p = and_yes (eqb r reg_key) _ (rw same at t) in
      let q = and_yes (is_cell (cell_video_of o) c) _ p.1 in
      let x = and_yes (not (eqb o 0x302E3130)) _ q.1 in
      let y = and_yes (not (eqb o 0x302E3230)) _ x.1 in
      (eqb_yes p.0, is_cell_lem (cell_video_of o) c q.0, λ n. none_3d o n (not_so _ x.0) (not_so _ y.0) (not_so _ y.1))

-- ---- and what is found is a name

-- for a digit d, the words of the cells that have it in their name
series : ℕ → ℕ → ℕ → ℕ → ℕ → Bool
series first size kind address d =
    ltb (first + size * d) first_video && same_list (name_text (first + size * d)) (bytes_of (reg_key ∷ kind ∷ (digit d + 256 * address) ∷ []))

abbrev Series : ℕ → ℕ → ℕ → ℕ → Type 0
Series first size kind address = T (every (series first size kind address) (from 0 16))

all_series : Series 4 2 0x302E3230 0x30352E × Series 5 2 0x302E3230 0x31352E × Series 36 3 0x322E3230 0x30332E × Series 37 3 0x322E3230 0x31332E × Series 38 3 0x322E3230 0x32332E
unfolding every from series same_list name_text name_3d hex digit type_of sub_type_of address_of
all_series = (tt, tt, tt, tt, tt)

-- c is a 3D cell, and these are the words of its name
abbrev Is3D : ℕ → ℕ → ℕ → Type 0
Is3D k n c = (c < first_video) × (bytes_of (reg_key ∷ k ∷ n ∷ []) ≡ name_text c)

target_names : Is3D 0x302E3130 0x66332E30 0 × Is3D 0x302E3130 0x30352E30 1 × Is3D 0x302E3130 0x31352E30 2 × Is3D 0x302E3130 0x32352E30 3
unfolding name_text name_3d hex digit type_of sub_type_of address_of
target_names = ((omega arith, refl), (omega arith, refl), (omega arith, refl), (omega arith, refl))

module _ (k n : ℕ) where
  abbrev d : ℕ
  d = digit_or_16 (n % 256)

  in_series : (first size kind address : ℕ) → Series first size kind address → d < 16 → k ≡ kind → n / 256 ≡ address → Is3D k n (first + size * d)
  unfolding series
  in_series first size kind address t l e a =
      let both = and_yes (ltb (first + size * d) first_video) _ (every_from (series first size kind address) 0 16 t d (omega arith) (omega arith)) in
      let low : digit d ≡ n % 256 = counts_digit (n % 256) l in
      let whole : digit d + 256 * address ≡ n = rw (low, ← a) (omega arith) in
      (ltb_yes both.0, ap₂ (λ (a b : ℕ). bytes_of (reg_key ∷ a ∷ b ∷ [])) e (sym whole) ∙ sym (same_list_lem _ _ both.1))

-- a property of both ways of a test
pick : (P : Option ℕ → Type 0) (b : Bool) {x y : Option ℕ} → (b ≡ true → P x) → (b ≡ false → P y) → P (cond b x y)
pick P true p q = p refl
pick P false p q = q refl

module _ (k n : ℕ) where
  abbrev Told : Option ℕ → Type 0
  Told c = IfSome c (Is3D k n)

  key : (x y : ℕ) → eqb x y ≡ true → x ≡ y
  key x y = eqb-true x y

  target_told : (a b c : ℕ) → Is3D a b c → eqb k a ≡ true → eqb n b ≡ true → Told (Some c)
  target_told a b c is e f = rw (key k a e, key n b f) is

  way : (b : Bool) (x y : Option ℕ) → (b ≡ true → Told x) → (b ≡ false → Told y) → Told (cond b x y)
  way b x y p q = pick Told b p q

  pub named_3d : Told (cell_3d_of k n)
  unfolding cell_3d_of cell_3d_by
  named_3d =
      let d = digit_or_16 (n % 256) in
      way (ltb 15 d) _ _ (λ h. tt) (λ h.
      let low : d < 16 = omega (arith, ltb-false 15 d h) in
      way (eqb k 0x302E3130) _ _ (λ e.
      way (eqb n 0x66332E30) _ _ (target_told 0x302E3130 0x66332E30 0 target_names.0 e) (λ _.
      way (eqb n 0x30352E30) _ _ (target_told 0x302E3130 0x30352E30 1 target_names.1 e) (λ _.
      way (eqb n 0x31352E30) _ _ (target_told 0x302E3130 0x31352E30 2 target_names.2 e) (λ _.
      way (eqb n 0x32352E30) _ _ (target_told 0x302E3130 0x32352E30 3 target_names.3 e) (λ _. tt))))) (λ _.
      way (eqb k 0x302E3230) _ _ (λ e.
      way (eqb (n / 256) 0x30352E) _ _ (λ f. in_series k n 4 2 0x302E3230 0x30352E all_series.0 low (key k _ e) (key (n / 256) _ f)) (λ _.
      way (eqb (n / 256) 0x31352E) _ _ (λ f. in_series k n 5 2 0x302E3230 0x31352E all_series.1 low (key k _ e) (key (n / 256) _ f)) (λ _. tt))) (λ _.
      way (eqb k 0x322E3230) _ _ (λ e.
      way (eqb (n / 256) 0x30332E) _ _ (λ f. in_series k n 36 3 0x322E3230 0x30332E all_series.2 low (key k _ e) (key (n / 256) _ f)) (λ _.
      way (eqb (n / 256) 0x31332E) _ _ (λ f. in_series k n 37 3 0x322E3230 0x31332E all_series.3 low (key k _ e) (key (n / 256) _ f)) (λ _.
      way (eqb (n / 256) 0x32332E) _ _ (λ f. in_series k n 38 3 0x322E3230 0x32332E all_series.4 low (key k _ e) (key (n / 256) _ f)) (λ _. tt)))) (λ _. tt))))

-- ---- video names

-- an offset's digits and its cell
record Key : Type 0 where
  digits : ℕ
  cell : ℕ

abbrev is : ℕ → ℕ → Key
is o c = record { digits = o; cell = c }

keys : List Key
keys =
    is 0x38303232 84 ∷ is 0x63303232 85 ∷ is 0x30313232 86 ∷ is 0x34653332 87 ∷ is 0x38653332 88 ∷ is 0x63653332 89 ∷ is 0x30663332 90 ∷ is 0x34663332 91
    ∷ is 0x38663332 92 ∷ is 0x63663332 93 ∷ is 0x34653333 94 ∷ is 0x38653333 95 ∷ is 0x63653333 96 ∷ is 0x30663333 97 ∷ is 0x34663333 98 ∷ is 0x38663333 99
    ∷ is 0x63663333 100 ∷ []

-- the code's `match`, as a search
search_keys : List Key → ℕ → Option ℕ
search_keys [] o = None
search_keys (k ∷ ks) o = let more = search_keys ks o in cond (eqb o k.digits) (Some k.cell) more

as_search : (o : ℕ) → cell_video_of o ≡ search_keys keys o
unfolding cell_video_of search_keys keys
as_search o = refl

-- c is a video cell, and these are the words of its name
abbrev pub IsVideo : ℕ → ℕ → Type 0
IsVideo o c = (first_video ≤ c) × (c < end_video) × (bytes_of (reg_key ∷ o ∷ []) ≡ name_text c)

key_test : Key → Bool
key_test k = leb first_video k.cell && (ltb k.cell end_video && same_list (bytes_of (reg_key ∷ k.digits ∷ [])) (name_text k.cell))

keys_test : T (every key_test keys)
unfolding every keys key_test same_list name_text name_video hex digit offset_of
keys_test = tt

key_told : (o : ℕ) (k : Key) → eqb o k.digits ≡ true → T (key_test k) → IsVideo o k.cell
unfolding key_test
key_told o k e t =
    let p = and_yes (leb first_video k.cell) _ t in
    let q = and_yes (ltb k.cell end_video) _ p.1 in
    (leb_yes p.0, ltb_yes q.0, rw (eqb-true o k.digits e) (same_list_lem _ _ q.1))

searched : (o : ℕ) (ks : List Key) → T (every key_test ks) → IfSome (search_keys ks o) (IsVideo o)
unfolding every search_keys
searched o [] t = tt
searched o (k ∷ ks) t =
    let both = and_yes (key_test k) _ t in
    pick (λ (c : Option ℕ). IfSome c (IsVideo o)) (eqb o k.digits) (λ e. key_told o k e both.0) (λ _. searched o ks both.1)

pub named_video : (o : ℕ) → IfSome (cell_video_of o) (IsVideo o)
named_video o = rw (as_search o) (searched o keys keys_test)

-- ---- the name at the front of a text

-- every name begins alike
begins : (d : ℕ) → (take 4 (name_text d) ≡ bytes_of (reg_key ∷ [])) × (4 ≤ length (name_text d))
unfolding name_3d name_video
begins d = elim (dec_lt d first_video) [
  | yes h ↦ rw (name_3d_lem d h) (refl, omega arith)
  | no h ↦ rw (name_video_lem d (omega arith)) (refl, omega arith)
]

-- the key is another
pub no_key : (xs : List ℕ) (r : ℕ) → Word r → take 4 xs ≡ bytes_of (r ∷ []) → r ≢ reg_key → NoName xs
no_key xs r w f ne d l e =
    let b = begins d in
    let same : bytes_of (r ∷ []) ≡ bytes_of (reg_key ∷ []) = sym f ∙ sym (take-take 4 (length (name_text d)) xs b.1) ∙ ap (take 4) e ∙ b.0 in
    ne (ap (λ (l : List ℕ). get_or l 0 0) (bytes_once (r ∷ []) (reg_key ∷ []) (w, tt) (omega arith, tt) same))

some_once : {a b : ℕ} → Some a ≡ Some b → a ≡ b
some_once e = ap (λ (o : Option ℕ). unwrap_or o 0) e

module _ (xs : List ℕ) (r k n : ℕ) (w : All Word (r ∷ k ∷ n ∷ [])) (three : take 12 xs ≡ bytes_of (r ∷ k ∷ n ∷ [])) where
  two : take 8 xs ≡ bytes_of (r ∷ k ∷ [])
  two = sym (take-take 8 12 xs (omega arith)) ∙ rw three

  -- whose it can be
  only : (d : ℕ) → d < cells → take (length (name_text d)) xs ≡ name_text d
      → (r ≡ reg_key) × (((d < first_video) × (cell_3d_of k n ≡ Some d)) ⊎ ((cell_video_of k ≡ Some d) × (cell_3d_of k n ≡ None)))
  only d l e = elim (dec_lt d first_video) [
    | yes h ↦ let f = found_3d d r k n w h (sym three ∙ (rw (length_3d d h) at e)) in (f.0, inl (h, f.1))
    | no h ↦ let f = found_video d r k (w.0, (w.1.0, tt)) (omega arith) l (sym two ∙ (rw (length_video d (omega arith)) at e)) in (f.0, inr (f.1, f.2 n))
  ]

  module _ (e : r ≡ reg_key) where
    pub at_3d : (c : ℕ) → Some c ≡ cell_3d_of k n → NameAt xs (record { cell = c; end = 12 })
    at_3d c found =
        let is : Is3D k n c = rw (sym found) at (named_3d k n) in
        record {
          low = omega (arith, is.0);
          long = sym (length_3d c is.0);
          same = three ∙ ap (λ (x : ℕ). bytes_of (x ∷ k ∷ n ∷ [])) e ∙ is.1;
          only = λ d h s. elim (only d h s).1 [ inl f ↦ some_once (found ∙ f.1) | inr f ↦ absurd (none-some c (sym (found ∙ f.1))) ];
        }

    module _ (none : None ≡ cell_3d_of k n) where
      pub at_video : (c : ℕ) → Some c ≡ cell_video_of k → NameAt xs (record { cell = c; end = 8 })
      at_video c found =
          let is : IsVideo k c = rw (sym found) at (named_video k) in
          record {
            low = is.1;
            long = sym (length_video c is.0);
            same = two ∙ ap (λ (x : ℕ). bytes_of (x ∷ k ∷ [])) e ∙ is.2;
            only = λ d h s. elim (only d h s).1 [ inl f ↦ absurd (none-some d (none ∙ f.1)) | inr f ↦ some_once (found ∙ f.0) ];
          }

      pub no_video : None ≡ cell_video_of k → NoName xs
      no_video video d h s = elim (only d h s).1 [ inl f ↦ none-some d (none ∙ f.1) | inr f ↦ none-some d (video ∙ f.0) ]
