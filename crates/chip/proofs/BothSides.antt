-- The other side: a switch to a program that has not written what is marked on the chip leaves it there. Computed.
-- Assumes nothing.
use mathlib.Core.Path.{◌≡◌, refl, ap}
use mathlib.Core.Bool.{false}
use mathlib.Core.List.Memᴰ
use mathlib.Core.List.{List, []}
use Prim.Native.Nat.{ℕ}
use native.Mathlib.Omega.{arith}
use lib.Dec.{lit<}
use Rattle.laws.specs.Lists.{every, some, from}
use Rattle.laws.proofs.Tests.{fails_of}
use Rattle.meaning.specs.Answers.{Answer}
use Rattle.meaning.specs.declared.Memory.TheVariants.{Only}
use Rattle.meaning.specs.Registers.{cell, target_group, stage, sample, overlay, scaler, sections, register_at, register_in, register_among}
use Rattle.meaning.specs.Grants.{grants_of, terms_of, grants_fine, covers, granted}
use Rattle.meaning.specs.State.{value_at, mark_at, cell_formed, well_formed, empty}
use Rattle.meaning.specs.Pair.{memory_of, target_of, pair_fine}
use Rattle.meaning.specs.Reader.{unless, value_reason}
use Rattle.meaning.specs.Writer.{parameters, packets_video, packets_among, words_for, packets_of, most_written, written, writable, lowest_bad, write_answer}
use Rattle.meaning.specs.Fitter.{Inside, OfTarget}
use Rattle.meaning.specs.Cases.{with, holding, grant_in, addressed}
use Rattle.meaning.proofs.Fitter.{granted_iff}
use Rattle.meaning.proofs.Pairs.{pair_iff}
use Rattle.pairing.proofs.Entry.{memory_marked}
use Rattle.pairing.proofs.Examples.{pair_written}
use Rattle.chip.specs.Chip.{obeys, LaidOver, EachAddress}
use Rattle.chip.proofs.Switch.{switch_lays}

-- ---- an address that stays

-- a chip on which a program has set its target to 00100000h, and then the written words of a program that has set a stage alone, and is
-- granted nothing
abbrev pub leftover : List ℕ
leftover = obeys (holding 1 0x1000) (written (holding 10 1))

-- the writer writes that program's state under no grant at all,
pub leftover_written : (write_answer (holding 10 1) [] most_written).reason ≡ 0
unfolding with holding empty cell_formed well_formed grants_fine pair_fine writable lowest_bad write_answer value_reason unless register_at register_in register_among parameters packets_video packets_among words_for packets_of written target_group stage sample overlay scaler sections every from
leftover_written = refl

-- and the target stays
pub leftover_stays : (value_at leftover (cell 1) ≡ 0x1000) × (mark_at leftover (cell 1) ≡ 1)
unfolding with holding empty
leftover_stays = (switch_lays (holding 1 0x1000) (holding 10 1) [] most_written leftover_written refl).unmarked 1 (lit< tt) (λ m. omega (arith, m))

-- outside every grant of the program that goes on
pub leftover_outside : ¬ EachAddress (Inside (grants_of [])) leftover
unfolding register_at register_in register_among target_group stage sample overlay scaler sections from
leftover_outside h = Memᴰ.not-nil (h 1 (lit< tt) (omega (arith, leftover_stays.1))).listed

-- ---- a location that stays

-- a chip on which a program has set the location of its target to memory 1, and then the written words of a program that has set its
-- target to 00100000h and no location, and is granted memory 0 there
abbrev pub relocated : List ℕ
relocated = obeys (holding 2 0x100000) (written addressed)

-- the writer writes that program's state under its grant,
pub relocated_written : (write_answer addressed (grant_in 0 1) most_written).reason ≡ 0
relocated_written = ap (λ (x : Answer). x.reason) pair_written.1

relocated_over : LaidOver (holding 2 0x100000) addressed relocated
unfolding with holding empty
relocated_over = switch_lays (holding 2 0x100000) addressed (grant_in 0 1) most_written relocated_written refl

-- its address is on the chip, under the location of the other,
pub relocated_names : (value_at relocated (cell 1) ≡ 0x1000) × (mark_at relocated (cell 1) ≡ 1) × (memory_of relocated ≡ 1)
unfolding with holding empty
relocated_names =
    let target = relocated_over.marked 1 (lit< tt) (lit< tt) in
    let location = relocated_over.unmarked 2 (lit< tt) (λ m. omega (arith, m)) in
    (target.0, target.1, rw (memory_marked relocated (omega (arith, location.1)), location.0))

-- where it is not granted: the pair is not fine
pub relocated_outside : (pair_fine (terms_of (grant_in 0 1)) relocated ≡ false) × (¬ OfTarget (Inside (grants_of (grant_in 0 1))) relocated)
unfolding pair_fine granted covers some
relocated_outside =
    let n = relocated_names in
    let bad : pair_fine (terms_of (grant_in 0 1)) relocated ≡ false = rw (n.0, n.1, n.2) in (
      bad,
      λ h. fails_of bad ((pair_iff (terms_of (grant_in 0 1)) relocated).1
          (λ m. (granted_iff (grants_of (grant_in 0 1)) (Only (memory_of relocated)) 1 (target_of relocated)).1 (h m))),
    )
