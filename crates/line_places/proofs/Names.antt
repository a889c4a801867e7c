-- What stands before a cell's digits, from the digits of its name.
-- Assumes nothing.
use mathlib.Core.Path.{◌≡◌}
use mathlib.Core.List.{[], ◌∷◌, ◌++◌}
use Prim.Native.Nat.{ℕ, ◌/◌, ◌%◌}
use native.Mathlib.Omega.{arith}
use Rattle.meaning.specs.declared.Cell.{Cell}
use Rattle.meaning.specs.declared.VideoOffset.{VideoOffset}
use Rattle.meaning.specs.Text.{ascii}
use Rattle.meaning.specs.Lister.{digit, hex}
use Rattle.registers.specs.declared.Name.{Name}
use Rattle.registers.specs.Names.{type_of, sub_type_of, address_of, name_of, offset_of}
use Rattle.listings.specs.Lines.{name_3d, name_video}

last : (n : ℕ) → n / 1 % 16 ≡ n % 16
last n = omega arith

module _ (c : Cell) (n : Name) (e : n ≡ name_of c) (t u v w x y : ℕ) where
  pub name_3d_lem : t ≡ digit (n.ty / 16 % 16) → u ≡ digit (n.ty % 16) → v ≡ digit (n.sub / 16 % 16) → w ≡ digit (n.sub % 16)
      → x ≡ digit (n.address.0 / 16 % 16) → y ≡ digit (n.address.0 % 16)
      → 114 ∷ 101 ∷ 103 ∷ 61 ∷ t ∷ u ∷ 46 ∷ v ∷ w ∷ 46 ∷ x ∷ y ∷ 32 ∷ 118 ∷ 97 ∷ 108 ∷ 61 ∷ 48 ∷ 48 ∷ [] ≡ name_3d c.0 ++ ascii " val=00"
  unfolding name_3d hex name_of
  name_3d_lem a b d f g h = rw (a, b, d, f, g, h, e, last (type_of c), last (sub_type_of c), last (address_of c).0)

module _ (c : Cell) (o : VideoOffset) (e : o ≡ offset_of c) (t u v w : ℕ) where
  pub name_video_lem : t ≡ digit (o.0 / 4096 % 16) → u ≡ digit (o.0 / 256 % 16) → v ≡ digit (o.0 / 16 % 16) → w ≡ digit (o.0 % 16)
      → 114 ∷ 101 ∷ 103 ∷ 61 ∷ t ∷ u ∷ v ∷ w ∷ 32 ∷ 118 ∷ 97 ∷ 108 ∷ 61 ∷ [] ≡ name_video c.0 ++ ascii " val="
  unfolding name_video hex
  name_video_lem a b d f = rw (a, b, d, f, e, last (offset_of c).0)
