-- 13 where a buffer is bad; else the listing reader's answer as a number.
-- Assumes nothing.
use mathlib.Core.Path.{◌≡◌}
use mathlib.Core.Bool.{true, ◌&&◌}
use Rattle.laws.proofs.Arms.{told_true, told_false}
use Rattle.meaning.specs.Exported.{buffer_fine, word_buffer_fine}
use Rattle.irangelda.proofs.Buffers.{listing_13, listing_answered, listing_small}
use Rattle.irangelda.proofs.irangelda_read_listing.Goals as goal
use Rattle.irangelda.proofs.irangelda_read_listing.Goals.{After-read_listing}

pub returns-then-not-text_buffers_fine : goal.returns-then-not-text_buffers_fine
returns-then-not-text_buffers_fine c = let both = listing_13 _ _ (told_false c.text_buffers_fine.ensures.fine c.if-not-text_buffers_fine.true) in record { number = both.0; bytes = both.1 }

-- the buffers of a call that gets as far as the listing reader are fine
fine : (l : goal.After-read_listing) → word_buffer_fine l.args.state.now && buffer_fine l.args.listing.now ≡ true
fine l = told_true l.text_buffers_fine.ensures.fine l.if-not-text_buffers_fine.false

pub number-requires : goal.number-requires
number-requires c = record { place = rw c.read_listing.ensures.answer (listing_small _ _ (fine (goal.at.number-requires c).After-read_listing)) }

pub returns : goal.returns
returns c = let both = listing_answered _ _ (fine (goal.at.returns c).After-read_listing) c.read_listing.ensures.answer c.read_listing.ensures.bytes c.number.ensures.number in record { number = both.0; bytes = both.1 }
