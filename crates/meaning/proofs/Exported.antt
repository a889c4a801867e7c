-- What the calls on bytes leave is, as words, what the calls on words leave.
-- Assumes nothing.
use mathlib.Core.Path.{◌≡◌, refl, ap, ap₂, ◌∙◌}
use mathlib.Core.Logic.{◌↔◌, ◌≢◌}
use mathlib.Core.Bool.{Bool, true, false, ◌&&◌}
use mathlib.Core.List.{List, [], ◌∷◌, ◌++◌}
use Prim.Native.Nat.{ℕ, zero, suc, ◌+◌, ◌*◌, ◌/◌, ◌≤◌, ◌<◌}
use native.Mathlib.Omega.{arith}
use lib.Dec.{T}
use lib.ListN.{length, drop, set}
use Rattle.laws.specs.Lists.{All, every, join, over}
use Rattle.meaning.specs.Words.{Byte, Word, words_of, bytes_of}
use Rattle.meaning.specs.Registers.{cells}
use Rattle.meaning.specs.Grants.{Terms}
use Rattle.meaning.specs.Batch.{Packet, Cut}
use Rattle.meaning.specs.State.{Write, apply, apply_all, all_writes}
use Rattle.meaning.specs.Positions.{writes_of}
use Rattle.meaning.specs.Answers.{Answer, provided}
use Rattle.meaning.specs.Reader.{read_answer}
use Rattle.meaning.specs.Writer.{write_answer}
use Rattle.meaning.specs.Lister.{list_answer, list_leaves}
use Rattle.meaning.specs.Exported.{buffer_fine, word_buffer_fine, exported_read, exported_write, exported_list, exported_list_leaves}
use Rattle.meaning.proofs.EachWrite.{each_write}
use Rattle.meaning.proofs.Writes.{writes_of_cut}
use Rattle.meaning.proofs.Exactly.{read_told, read_range}
use Rattle.meaning.proofs.Outputs.{write_told, write_range, list_told, list_range}
use Rattle.meaning.proofs.Bytes.{words_bytes, length_words, length_bytes, provided_then, provided_first}

-- ---- words that are words of 32 bits

pub words_small : (bs : List ℕ) → All Byte bs → All Word (words_of bs)
words_small [] x = tt
words_small (a ∷ []) x = tt
words_small (a ∷ b ∷ []) x = tt
words_small (a ∷ b ∷ c ∷ []) x = tt
words_small (a ∷ b ∷ c ∷ d ∷ bs) x =
    let la = x.0 in
    let lb = x.1.0 in
    let lc = x.1.1.0 in
    let ld = x.1.1.1.0 in
    (omega arith, words_small bs x.1.1.1.1)

set_small : (l : List ℕ) (i v : ℕ) → Word v → All Word l → All Word (set l i v)
set_small [] i v w a = tt
set_small (x ∷ l) zero v w a = (w, a.1)
set_small (x ∷ l) (suc i) v w a = (a.0, set_small l i v w a.1)

applied_small : (st : List ℕ) (ws : List Write) → All (λ w. Word w.value) ws → All Word st → All Word (apply_all st ws)
unfolding apply_all apply
applied_small st [] a s = s
applied_small st (w ∷ ws) a s =
    applied_small (apply st w) ws a.1 (set_small (set st w.cell.0 w.value) (cells + w.cell.0) 1 (omega arith) (set_small st w.cell.0 w.value a.0 s))

packets_small : (g : Terms) (ps : List (List ℕ)) → All (Packet g) ps → All Word (join ps) → All (λ w. Word w.value) (all_writes ps)
packets_small g = each_write g (λ (w : Write). Word w.value) Word (λ c v l n s. omega arith) (λ c v l n s. n)

pub left_small : (batch st : List ℕ) (g : Terms) → Cut g batch → All Word batch → All Word st → All Word (apply_all st (writes_of batch))
left_small batch st g c b s =
    let w : All Word (join c.packets) = rw c.joined b in
    rw (writes_of_cut g batch c) (applied_small st (all_writes c.packets) (packets_small g c.packets c.permitted w) s)

-- ---- words over the front of a buffer

words_append : (ws bs : List ℕ) → All Word ws → words_of (bytes_of ws ++ bs) ≡ ws ++ words_of bs
words_append [] bs a = refl
words_append (w ∷ ws) bs a =
    ap₂ (λ (x y : List ℕ). x ++ y) (words_bytes (w ∷ []) (a.0, tt)) (words_append ws bs a.1)

four_on : (n : ℕ) → suc n * 4 ≡ suc (suc (suc (suc (n * 4))))
four_on n = omega arith

words_drop : (n : ℕ) (bs : List ℕ) → words_of (drop (n * 4) bs) ≡ drop n (words_of bs)
words_drop zero bs = refl
words_drop (suc n) [] = rw (four_on n)
words_drop (suc n) (a ∷ []) = rw (four_on n)
words_drop (suc n) (a ∷ b ∷ []) = rw (four_on n)
words_drop (suc n) (a ∷ b ∷ c ∷ []) = rw (four_on n)
words_drop (suc n) (a ∷ b ∷ c ∷ d ∷ bs) = rw (four_on n) (words_drop n bs)

pub words_over : (ws bs : List ℕ) → All Word ws → words_of (over (bytes_of ws) bs) ≡ over ws (words_of bs)
words_over ws bs a =
    words_append ws (drop (length (bytes_of ws)) bs) a
    ∙ ap (λ (l : List ℕ). ws ++ l) (ap (λ (n : ℕ). words_of (drop n bs)) (length_bytes ws) ∙ words_drop (length ws) bs)

-- ---- the calls

-- 13 comes from no call on words
pub read_not_13 : (a b c : List ℕ) → ((read_answer a b c).reason ≢ 13) × ((read_answer a b c).reason ≤ 14)
read_not_13 a b c = read_range a b c (read_told a b c)

pub write_below_13 : (a b : List ℕ) (room : ℕ) → (write_answer a b room).reason < 13
write_below_13 a b room = omega (arith, write_range a b room (write_told a b room))

pub list_below_13 : (a : List ℕ) (room : ℕ) → (list_answer a room).reason < 13
list_below_13 a room = omega (arith, list_range a room (list_told a room))

pub provided_range : (b : Bool) (a : Answer) → a.reason < 256 → (provided b 13 a).reason < 256
provided_range true a l = omega arith
provided_range false a l = omega arith

pub read_call_range : (a b c : List ℕ) → (exported_read a b c).reason < 256
unfolding exported_read
read_call_range a b c = provided_range (every word_buffer_fine (a ∷ b ∷ c ∷ [])) _ (omega (arith, (read_not_13 (words_of a) (words_of b) (words_of c)).1))

pub write_call_range : (a b c : List ℕ) → (exported_write a b c).reason < 256
unfolding exported_write
write_call_range a b c = provided_range (every word_buffer_fine (a ∷ b ∷ c ∷ [])) _ (omega (arith, write_below_13 (words_of a) (words_of b) (length c / 4)))

pub list_call_range : (a c : List ℕ) → (exported_list a c).reason < 256
unfolding exported_list
list_call_range a c = provided_range (word_buffer_fine a && buffer_fine c) _ (omega (arith, list_below_13 (words_of a) (length c)))

-- 13 is given exactly of buffers that are not fine
pub read_13_exactly : (a b c : List ℕ) → ((exported_read a b c).reason ≡ 13) ↔ (¬ T (every word_buffer_fine (a ∷ b ∷ c ∷ [])))
unfolding exported_read
read_13_exactly a b c = provided_first (every word_buffer_fine (a ∷ b ∷ c ∷ [])) 13 _ (read_not_13 (words_of a) (words_of b) (words_of c)).0

pub write_13_exactly : (a b c : List ℕ) → ((exported_write a b c).reason ≡ 13) ↔ (¬ T (every word_buffer_fine (a ∷ b ∷ c ∷ [])))
unfolding exported_write
write_13_exactly a b c = provided_first (every word_buffer_fine (a ∷ b ∷ c ∷ [])) 13 _ (λ e. omega (arith, write_below_13 (words_of a) (words_of b) (length c / 4)))

pub list_13_exactly : (a c : List ℕ) → ((exported_list a c).reason ≡ 13) ↔ (¬ T (word_buffer_fine a && buffer_fine c))
unfolding exported_list
list_13_exactly a c = provided_first (word_buffer_fine a && buffer_fine c) 13 _ (λ e. omega (arith, list_below_13 (words_of a) (length c)))

module _ (a b c : List ℕ) (fine : T (every word_buffer_fine (a ∷ b ∷ c ∷ []))) where
  pub read_call : exported_read a b c ≡ read_answer (words_of a) (words_of b) (words_of c)
  unfolding exported_read
  read_call = provided_then (every word_buffer_fine (a ∷ b ∷ c ∷ [])) 13 _ fine

  pub write_call : exported_write a b c ≡ write_answer (words_of a) (words_of b) (length (words_of c))
  unfolding exported_write
  write_call = rw (length_words c) (provided_then (every word_buffer_fine (a ∷ b ∷ c ∷ [])) 13 _ fine)

module _ (a c : List ℕ) (fine : T (word_buffer_fine a && buffer_fine c)) where
  pub list_call : exported_list a c ≡ list_answer (words_of a) (length c)
  unfolding exported_list
  list_call = provided_then (word_buffer_fine a && buffer_fine c) 13 _ fine

  pub list_call_leaves : exported_list_leaves a c ≡ list_leaves (words_of a) c
  unfolding exported_list_leaves list_leaves
  list_call_leaves = rw list_call
