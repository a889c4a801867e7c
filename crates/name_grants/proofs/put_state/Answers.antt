-- The places first, and the listing in the room behind them.
-- Assumes nothing.
use native.Mathlib.Omega.{arith}
use Rattle.meaning.proofs.Bytes.{length_words}
use Rattle.name_grants.proofs.Places.{places_within}
use Rattle.name_grants.proofs.Told.{told_whole, told_few}
use Rattle.name_grants.proofs.put_state.Goals as goal

pub put_grants-places-requires : goal.put_grants-places-requires
put_grants-places-requires c = record { whole = omega (arith, length_words c.args.state.now, c.requires.size); room = omega (arith, c.requires.room) }

pub slice_bounds-irangelda_list-count : goal.slice_bounds-irangelda_list-count
slice_bounds-irangelda_list-count c = places_within _ _ _ c.put_grants-places.ensures.count c.put_grants-places.ensures.bytes

pub returns : goal.returns
returns c = let both = told_whole c.args.state.now c.args.grants.now c.args.out.now c.requires.size c.requires.formed c.requires.room c.put_grants-places.result c.put_grants-places.ensures.count c.put_grants-places.new.out
    c.put_grants-places.ensures.bytes c.irangelda_list-number.result c.irangelda_list-number.ensures.number c.irangelda_list-number.new.out c.irangelda_list-number.ensures.bytes in record { count = both.0; bytes = both.1 }

pub overflow_add-result : goal.overflow_add-result
overflow_add-result c = omega (arith, (returns c).count, told_few c.args.state.now c.args.grants.now)
