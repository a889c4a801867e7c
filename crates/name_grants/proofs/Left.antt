-- The state that an accepted batch leaves is well-formed in its bytes.
-- Assumes nothing.
use mathlib.Core.Path.{◌≡◌}
use mathlib.Core.List.{List}
use Prim.Native.Nat.{ℕ, ◌*◌}
use native.Mathlib.Omega.{arith}
use lib.Dec.{T}
use lib.ListN.{length}
use Rattle.meaning.specs.Words.{words_of, bytes_of}
use Rattle.meaning.specs.State.{state_words, well_formed, empty}
use Rattle.meaning.specs.Reader.{read_leaves}
use Rattle.meaning.specs.Exported.{exported_read, exported_read_leaves}
use Rattle.meaning.proofs.Bytes.{length_bytes, settle_done}
use Rattle.meaning.proofs.States.{formed_iff, empty_well_formed}
use Rattle.meaning.proofs.Round.{leaves_formed}
use Rattle.listings.proofs.Again.{formed_again}
use Rattle.name_grants.specs.Named.{empty_bytes, answered, state_left}

module _ (grants batch : List ℕ) (accepted : (answered grants batch).reason ≡ 0) where
  left : List ℕ
  left = read_leaves (words_of batch) (words_of grants) (words_of empty_bytes)

  bytes_left : state_left grants batch ≡ bytes_of left
  unfolding state_left exported_read_leaves answered left
  bytes_left = settle_done (exported_read batch grants empty_bytes) _ empty_bytes accepted

  left_formed : T (well_formed left)
  unfolding left empty_bytes empty
  left_formed = (formed_iff _).1 (leaves_formed (words_of batch) (words_of grants) (words_of empty_bytes) ((formed_iff _).0 empty_well_formed))

  pub state_formed : T (well_formed (words_of (state_left grants batch)))
  state_formed = rw bytes_left (formed_again left left_formed)

  pub state_size : length (state_left grants batch) ≡ state_words * 4
  state_size = rw bytes_left (omega (arith, length_bytes left, ((formed_iff left).0 left_formed).size))
