-- The video registers stand in three rows: their offsets, and where a run leaves them.
-- Assumes nothing.
use Rattle.std.specs.Prelude.{Some, None}
use mathlib.Core.Path.{◌≡◌, refl, ◌∙◌}
use Prim.Native.Nat.{ℕ, ◌+◌, ◌*◌, ◌-◌, ◌%◌, ◌≤◌, ◌<◌}
use native.Mathlib.Omega.{arith}
use native.Mathlib.Decide.{dec_lt}
use borrow.Author.Tests.{le-leb, lt-leb}
use lib.Dec.{leb}
use Rattle.meaning.specs.declared.VideoOffset.{VideoOffset}
use Rattle.meaning.specs.Registers.{cell, find_video}
use Rattle.meaning.specs.Reader.{run_in}
use Rattle.registers.specs.Names.{offset_of, row_from}
use Rattle.registers.proofs.Names.{named_video, row_run, no_video}

-- a row: its first offset, its first cell, and how many registers stand in it
pub data VideoRow : ℕ → ℕ → ℕ → Type 0 where
  overlay : VideoRow 0x2208 84 3
  first : VideoRow 0x23E4 87 7
  second : VideoRow 0x33E4 94 7

-- register number i of a row
pub record Register (o c n i : ℕ) : Type 0 where
  pub low : 84 ≤ c
  pub high : c + i < 101
  pub offset : (offset_of (cell (c + i))).0 ≡ o + 4 * i
  pub row : row_from (cell (c + i)) ≡ n - i

-- by its offset, and by where its row ends
placed : {o c n : ℕ} (i : ℕ) → 84 ≤ c → c + n ≤ 101 → i < n → (offset_of (cell (c + i))).0 ≡ o + 4 * i → row_from (cell (c + i)) ≡ c + n - (c + i) → Register o c n i
placed {o} {c} {n} i low end h offset row =
    let left : c + n - (c + i) ≡ n - i = omega arith in
    record { low = low; high = omega arith; offset = offset; row = row ∙ left }

pub register : {o c n : ℕ} → VideoRow o c n → (i : ℕ) → i < n → Register o c n i
unfolding offset_of row_from
register overlay i h =
    let low = le-leb (84 + i) 86 (omega arith) in
    placed i (omega arith) (omega arith) h (rw low (omega arith)) (rw low)
register first i h =
    let above = lt-leb (87 + i) 86 (omega arith) in
    let low = le-leb (87 + i) 93 (omega arith) in
    placed i (omega arith) (omega arith) h (rw (above, low) (omega arith)) (rw (above, low))
register second i h =
    let above = lt-leb (94 + i) 86 (omega arith) in
    let high = lt-leb (94 + i) 93 (omega arith) in
    placed i (omega arith) (omega arith) h (rw (above, high) (omega arith)) (rw (above, high))

-- where a run of so many words from there on stays in the row
pub stays : {o c n : ℕ} (r : VideoRow o c n) (i : ℕ) → i < n → (k : ℕ) → (find_video (offset_of (cell (c + i))) ≡ Some (cell (c + i))) × (run_in (offset_of (cell (c + i))) k ≡ leb (i + k) n)
stays {o} {c} {n} r i h k =
    let own = register r i h in
    let found = named_video (c + i) (omega (arith, own.low)) own.high in (
      found,
      row_run _ _ found k ∙ rw own.row (elim (dec_lt (n - i) k) [
        | yes l ↦ rw (lt-leb k (n - i) l, lt-leb (i + k) n (omega arith))
        | no l ↦ rw (le-leb k (n - i) (omega arith), le-leb (i + k) n (omega arith))
      ]),
    )

-- the offset of each video cell is one of a row's
pub record InRow (c : ℕ) : Type 0 where
  pub start : ℕ
  pub cells : ℕ
  pub registers : ℕ
  pub row : VideoRow start cells registers
  pub number : ℕ
  pub inside : number < registers
  pub offset : (offset_of (cell c)).0 ≡ start + 4 * number

in_row : {o d n : ℕ} → VideoRow o d n → (c : ℕ) → d ≤ c → c < d + n → InRow c
in_row {o} {d} {n} r c l h =
    let i : ℕ = c - d in
    let own = register r i (omega arith) in
    let e : d + i ≡ c = omega arith in
    record { start = o; cells = d; registers = n; row = r; number = i; inside = omega arith; offset = rw e at own.offset }

pub in_some_row : (c : ℕ) → 84 ≤ c → c < 101 → InRow c
in_some_row c l h =
    elim (dec_lt c 87) [
      | yes a ↦ in_row overlay c l a
      | no a ↦ elim (dec_lt c 94) [
        | yes b ↦ in_row first c (omega arith) b
        | no b ↦ in_row second c (omega arith) h
      ]
    ]

-- every row starts at a multiple of four, and none of them near 043Ch
pub starts : {o c n : ℕ} → VideoRow o c n → (o % 4 ≡ 0) × (0x2208 ≤ o)
starts overlay = (refl, omega arith)
starts first = (refl, omega arith)
starts second = (refl, omega arith)

-- between two registers there is none,
pub between : (o : VideoOffset) → (o.0 % 4 ≡ 0 → ⊥) → find_video o ≡ None
between o n = no_video o (λ c l h e. let r = in_some_row c l h in n (omega (arith, r.offset, (starts r.row).0)))

-- and outside the rows
pub outside : (o : VideoOffset) → ((s c n : ℕ) → VideoRow s c n → (i : ℕ) → i < n → o.0 ≡ s + 4 * i → ⊥) → find_video o ≡ None
outside o out = no_video o (λ c l h e. let r = in_some_row c l h in out _ _ _ r.row r.number r.inside (e ∙ r.offset))
