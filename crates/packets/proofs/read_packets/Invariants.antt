-- Packet after packet: to read on from here is to read the whole.
-- Assumes nothing.
use Rattle.std.proofs.Common.{◌≡◌, ◌-◌}
use Rattle.meaning.specs.declared.Kind.TheVariants.{Setting}
use Rattle.meaning.specs.Words.{words_of}
use Rattle.meaning.specs.Grants.{Terms}
use Rattle.grants.specs.Held.{IsKept}
use Rattle.packets.specs.Packets.{packets_from}
use Rattle.packets.proofs.Packets.{ahead}
use Rattle.packets.proofs.read_packets.Given as goal

abbrev pub invariant-loop-at : goal.invariant-loop-at
invariant-loop-at l =
    (g : Terms) → IsKept g l.kept → ahead g l.at (words_of l.batch) l.state ≡ packets_from g 0 Setting 0 (words_of l.batch) l.initial.state

abbrev pub decreases-loop-at : goal.decreases-loop-at
decreases-loop-at l = l.words - l.at
