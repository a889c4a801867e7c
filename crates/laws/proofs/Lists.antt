-- Facts on lists: a property of each element, a test of each or of some, numbers in a row, equal beginnings.
-- Assumes nothing.
use mathlib.Core.Path.{◌≡◌, refl, sym, ap, subst, ◌∙◌}
use mathlib.Core.Logic.{◌↔◌, inl, inr}
use mathlib.Core.Bool.{Bool}
use mathlib.Core.List.Memᴰ
use mathlib.Core.List.{List, [], ◌∷◌, ◌++◌, append_assoc, Memᴰ}
use Prim.Native.Nat.{ℕ, zero, suc, ◌+◌, ◌≤◌, ◌<◌}
use native.Mathlib.Omega.{arith}
use native.Mathlib.Decide.{ℕ_discrete}
use lib.Dec.{T}
use lib.ListN.{length, take, drop, length-append}
use lib.Seq.{take_at, drop_at}
use mir.Facts.{and_yes, yes_and, or_yes}
use Rattle.laws.specs.Lists.{All, every, some, join, from}
use Rattle.laws.proofs.Tests.{or_left, or_right}

-- ---- a property of each element

pub all_append {ℓ} : {A : Type ℓ} (P : A → Type 0) (xs ys : List A) → All P xs → All P ys → All P (xs ++ ys)
all_append P [] ys a b = b
all_append P (x ∷ xs) ys a b = (a.0, all_append P xs ys a.1 b)

pub all_split {ℓ} : {A : Type ℓ} (P : A → Type 0) (xs ys : List A) → All P (xs ++ ys) → All P xs × All P ys
all_split P [] ys a = (tt, a)
all_split P (x ∷ xs) ys a = let r = all_split P xs ys a.1 in ((a.0, r.0), r.1)

pub all_join {ℓ} : {A : Type ℓ} (P : A → Type 0) (ls : List (List A)) → All (All P) ls → All P (join ls)
all_join P [] a = tt
all_join P (l ∷ ls) a = all_append P l (join ls) a.0 (all_join P ls a.1)

pub all_unit {ℓ} : {A : Type ℓ} (xs : List A) → All (λ x. Unit {0}) xs
all_unit [] = tt
all_unit (x ∷ xs) = (tt, all_unit xs)

pub all_map {ℓ} : {A : Type ℓ} (P Q : A → Type 0) → ((x : A) → P x → Q x) → (xs : List A) → All P xs → All Q xs
all_map P Q h [] a = tt
all_map P Q h (x ∷ xs) a = (h x a.0, all_map P Q h xs a.1)

pub all_both {ℓ} : {A : Type ℓ} (P Q R : A → Type 0) → ((x : A) → P x → Q x → R x) → (xs : List A) → All P xs → All Q xs → All R xs
all_both P Q R h [] a b = tt
all_both P Q R h (x ∷ xs) a b = (h x a.0 b.0, all_both P Q R h xs a.1 b.1)

pub every_all {ℓ} : {A : Type ℓ} (f : A → Bool) (xs : List A) → T (every f xs) → All (λ x. T (f x)) xs
unfolding every
every_all f [] t = tt
every_all f (x ∷ xs) t = let both = and_yes (f x) _ t in (both.0, every_all f xs both.1)

-- ---- numbers in a row

pub every_from : (f : ℕ → Bool) (i n : ℕ) → T (every f (from i n)) → (x : ℕ) → i ≤ x → x < i + n → T (f x)
unfolding every from
every_from f i zero t x l h = absurd (omega arith)
every_from f i (suc n) t x l h =
    let both = and_yes (f i) _ t in
    elim (ℕ_discrete x i) [ yes e ↦ subst (λ (y : ℕ). T (f y)) (sym e) both.0 | no e ↦ every_from f (suc i) n both.1 x (omega arith) (omega arith) ]

pub from_every : (f : ℕ → Bool) (i n : ℕ) → ((x : ℕ) → i ≤ x → x < i + n → T (f x)) → T (every f (from i n))
unfolding every from
from_every f i zero h = tt
from_every f i (suc n) h = yes_and (f i) _ (h i (omega arith) (omega arith)) (from_every f (suc i) n (λ x l k. h x (omega arith) (omega arith)))

-- one of two numbers that follow each other
pub one_of_two : (P : ℕ → Type 0) (i j k : ℕ) → P i → P j → j ≡ suc i → i ≤ k → k < i + 2 → P k
one_of_two P i j k p q next low high =
    elim (ℕ_discrete i k) [
      | yes e ↦ subst P e p
      | no e ↦ let other : j ≡ k = omega arith in subst P other q
    ]

-- ---- beginnings

-- equally long beginnings of one list are equal, and so is what follows
pub same_front {ℓ} : {A : Type ℓ} (a b x y : List A) → length a ≡ length b → a ++ x ≡ b ++ y → (a ≡ b) × (x ≡ y)
same_front a b x y n e = (
  sym (take_at a x (length b) n) ∙ ap (take (length b)) e ∙ take_at b y (length b) refl,
  sym (drop_at a x (length b) n) ∙ ap (drop (length b)) e ∙ drop_at b y (length b) refl,
)

-- ---- lists joined

pub join_append {ℓ} : {A : Type ℓ} (ls ms : List (List A)) → join (ls ++ ms) ≡ join ls ++ join ms
join_append [] ms = refl
join_append (l ∷ ls) ms = ap (λ (x : List _). l ++ x) (join_append ls ms) ∙ sym (append_assoc l (join ls) (join ms))

pub length_join_append {ℓ} : {A : Type ℓ} (ls ms : List (List A)) → length (join (ls ++ ms)) ≡ length (join ls) + length (join ms)
length_join_append ls ms = ap length (join_append ls ms) ∙ length-append (join ls) (join ms)

-- ---- some element

pub some_iff {ℓ} : {A : Type ℓ} (f : A → Bool) (xs : List A) → T (some f xs) ↔ ((x : A) × Memᴰ x xs × T (f x))
unfolding some
some_iff f [] = (λ t. absurd t, λ p. Memᴰ.not-nil p.1)
some_iff f (x ∷ xs) =
    let more = some_iff f xs in (
      λ t. elim (or_yes (f x) _ t) [ inl h ↦ (x, Memᴰ.head refl, h) | inr h ↦ let s = more.0 h in (s.0, Memᴰ.tail s.1, s.2) ],
      λ p. elim (Memᴰ.cases_cons p.1) [
        | inl e ↦ or_left (f x) (some f xs) (subst (λ y. T (f y)) e p.2)
        | inr m ↦ or_right (f x) (some f xs) (more.1 (p.0, m, p.2))
      ],
    )

-- where each passes a test, one that passes another passes both
pub every_some {ℓ} : {A : Type ℓ} (f g : A → Bool) (xs : List A) → T (every f xs) → T (some g xs) → (x : A) × T (f x) × T (g x)
unfolding every some
every_some f g [] all one = absurd one
every_some f g (x ∷ xs) all one =
    let both = and_yes (f x) _ all in
    elim (or_yes (g x) _ one) [ inl h ↦ (x, both.0, h) | inr h ↦ every_some f g xs both.1 h ]
