-- The three texts are the listing, and the sum of their lengths, known before the first is stored, is its length.
-- Assumes nothing.
use mathlib.Core.Path.{refl, sym, ◌∙◌}
use Prim.Native.Nat.{◌≤◌}
use native.Mathlib.Omega.{arith}
use lib.ListN.{length}
use Rattle.laws.specs.Lists.{from}
use Rattle.meaning.specs.Words.{words_of}
use Rattle.meaning.specs.Lister.{digit, hex, listing}
use Rattle.lines.specs.Lines.{digit_pairs}
use Rattle.lister.proofs.Listing.{by_bad_state, by_no_room, listed, whole, few, listing_length, listing_stored}
use Rattle.lister.proofs.list.Goals as goal

pub overflow_add-in_3d : goal.overflow_add-in_3d
overflow_add-in_3d c = let few-here = few (words_of c.args.state.now) in
    omega arith

pub overflow_mul-first_video : goal.overflow_mul-first_video
overflow_mul-first_video c = let few-here = few (words_of c.args.state.now) in
    omega arith

pub overflow_add-first_video : goal.overflow_add-first_video
overflow_add-first_video c = let few-here = few (words_of c.args.state.now) in
    omega arith

pub overflow_mul-need : goal.overflow_mul-need
overflow_mul-need c = let few-here = few (words_of c.args.state.now) in
    omega arith

pub overflow_add-need : goal.overflow_add-need
overflow_add-need c = let few-here = few (words_of c.args.state.now) in
    omega arith

pub overflow_add-in_3d-2 : goal.overflow_add-in_3d-2
overflow_add-in_3d-2 c = let few-here = few (words_of c.args.state.now) in
    omega arith

pub put_head-requires : goal.put_head-requires
put_head-requires c = let few-here = few (words_of c.args.state.now) in record { small = omega arith; digits = c.decimal_length-digits.ensures.length.0; room = omega arith }

pub returns-then-not-well_formed : goal.returns-then-not-well_formed
returns-then-not-well_formed c =
    let both = by_bad_state (words_of c.args.state.now) c.args.out.now (sym c.if-not-well_formed.ensures.formed) in
    record { answer = rw c.at.ensures.at both.0; bytes = both.1 }

pub marked_between-in_3d-requires : goal.marked_between-in_3d-requires
marked_between-in_3d-requires c = record { inside = omega arith; whole = whole _ c.if-not-well_formed.ensures.formed refl }

pub marked_between-in_video-requires : goal.marked_between-in_video-requires
marked_between-in_video-requires c = record { inside = omega arith; whole = whole _ c.if-not-well_formed.ensures.formed refl }

pub returns-then-out-need : goal.returns-then-out-need
returns-then-out-need c =
    let st = words_of c.args.state.now in
    let need = listing_length st _ _ _ c.marked_between-in_3d.ensures.count c.marked_between-in_video.ensures.count c.decimal_length-digits.ensures.length.0 in
    let both = by_no_room st c.args.out.now (sym c.if-not-well_formed.ensures.formed) (omega arith) in
    record { answer = rw c.at-then-out-need.ensures.at both.0; bytes = both.1 }

pub put_lines_3d-requires : goal.put_lines_3d-requires
unfolding digit_pairs hex digit from
put_lines_3d-requires c = record {
  table = refl;
  whole = whole _ c.if-not-well_formed.ensures.formed refl;
  count = omega arith;
  room = omega arith;
}

pub put_lines_video-requires : goal.put_lines_video-requires
unfolding digit_pairs hex digit from
put_lines_video-requires c = record { table = refl; whole = whole _ c.if-not-well_formed.ensures.formed refl; room = omega arith }

pub returns : goal.returns
returns c =
    let st = words_of c.args.state.now in
    let out = c.args.out.now in
    let in_3d = c.marked_between-in_3d.ensures.count in
    let in_video = c.marked_between-in_video.ensures.count in
    let digits = c.decimal_length-digits.ensures.length.0 in
    let need = listing_length st _ _ _ in_3d in_video digits in
    let fits : length (listing st) ≤ length out = omega arith in
    let done = listed st out (sym c.if-not-well_formed.ensures.formed) fits in
    record {
      answer = rw need at done.0;
      bytes =
          rw (c.put_lines_video.ensures.stored, c.put_lines_3d.ensures.stored, c.put_head.ensures.stored)
          (listing_stored st _ _ _ in_3d in_video digits out fits ∙ done.1);
    }
