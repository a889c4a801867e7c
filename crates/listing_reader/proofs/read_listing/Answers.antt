-- The key, the count and the lines; each way out is a law of Whole.
-- Assumes nothing.
use Rattle.std.proofs.Common.{rules, of_calls, Ok, Err}
use mathlib.Core.Path.{◌≡◌, refl, ◌∙◌}
use Prim.Native.Nat.{◌/◌}
use native.Mathlib.Omega.{arith}
use lib.ListN.{length, drop}
use Rattle.laws.specs.Lists.{from}
use Rattle.meaning.specs.declared.Reason.TheVariants.{NotAListing}
use Rattle.meaning.specs.State.{state_words, empty}
use Rattle.meaning.specs.ListingReader.{refused, further, read_first, read_text}
use Rattle.meaning.proofs.Bytes.{length_words}
use Rattle.line_reader.specs.Named.{digit_or_16, digit_table}
use Rattle.listing_reader.specs.Counted.{Counted}
use Rattle.listing_reader.proofs.Whole.{key_left, key_on, key_inside, wrong_length, answers, count_refused, lines_told, lines_done}
use Rattle.listing_reader.proofs.read_listing.Goals as goal
use Rattle.listing_reader.proofs.read_listing.Goals.{After-read_count, After-read_lines-read}

-- once the count is read: what the tests told
long : (h : After-read_count) → length h.args.state.now / 4 ≡ state_words
long h = omega (arith, h.if-state-ne-STATE_WORDS.false)

keyed : (h : After-read_count) → read_text h.args.text.now ≡ further 6 (read_first (drop 6 h.args.text.now))
keyed h = key_on h.args.text.now h.key_bytes-agreed.result h.key_bytes-agreed.ensures.bytes (omega (arith, h.if-agreed-lt6.false))

-- and where it is one
counted : (h : After-read_lines-read) → Counted h.args.text.now 6 h.in_ok-head.head.at h.in_ok-head.head.count
counted h = let is : h.read_count.result ≡ Ok h.in_ok-head.head = search (rules, of_calls) in rw is at h.read_count.ensures.count

pub returns-then-state-ne-STATE_WORDS-clause-answer : goal.returns-then-state-ne-STATE_WORDS-clause-answer
returns-then-state-ne-STATE_WORDS-clause-answer c = rw c.at.ensures.at (wrong_length c.args.text.now c.args.state.now (λ e. omega arith))

pub returns-then-agreed-lt6-clause-answer : goal.returns-then-agreed-lt6-clause-answer
returns-then-agreed-lt6-clause-answer c =
    rw c.at-then-agreed-lt6.ensures.at
    (answers c.args.text.now c.args.state.now (omega arith) (refused c.key_bytes-agreed.result) (key_left c.args.text.now c.key_bytes-agreed.result c.key_bytes-agreed.ensures.bytes (omega arith)))

pub read_count-requires : goal.read_count-requires
read_count-requires c = record { inside = key_inside c.args.text.now c.key_bytes-agreed.result c.key_bytes-agreed.ensures.bytes (omega arith) }

pub returns-in_err-head-clause-answer : goal.returns-in_err-head-clause-answer
returns-in_err-head-clause-answer c =
    let h = (goal.at.returns-in_err-head-clause-answer c).After-read_count in
    let at = c.in_err-head.field-0.0.place in
    let none : c.read_count.result ≡ Err at = search (rules, of_calls) in
    let refusal : c.from_residual.result ≡ Err (record { reason = NotAListing; place = at }) = search (rules, of_calls) in
    rw refusal (count_refused c.args.text.now c.args.state.now (long h) (keyed h) (rw none at c.read_count.ensures.none))

pub read_lines-read-requires-clause-table : goal.read_lines-read-requires-clause-table
unfolding digit_table digit_or_16 from
read_lines-read-requires-clause-table c = refl

pub returns-in_err-place-clause-answer : goal.returns-in_err-place-clause-answer
returns-in_err-place-clause-answer c =
    let at = goal.at.returns-in_err-place-clause-answer c in
    let refusal : c.from_residual-in_err-place.result ≡ Err c.in_err-place.field-0.0 = search (rules, of_calls) in
    rw refusal (lines_told c.args.text.now c.args.state.now (long at.After-read_count) (keyed at.After-read_count) (counted at.After-read_lines-read) c.in_err-place.ensures.answer)

pub store-requires-clause-whole : goal.store-requires-clause-whole
store-requires-clause-whole c = length_words c.args.state.now ∙ long (goal.at.store-requires-clause-whole c).After-read_count

pub returns-clause-answer : goal.returns-clause-answer
returns-clause-answer c =
    let at = goal.at.returns-clause-answer c in
    lines_told c.args.text.now c.args.state.now (long at.After-read_count) (keyed at.After-read_count) (counted at.After-read_lines-read) c.in_ok-place.ensures.answer

pub returns-clause-bytes : goal.returns-clause-bytes
unfolding empty
returns-clause-bytes c =
    let at = goal.at.returns-clause-bytes c in
    lines_done c.args.text.now c.args.state.now (long at.After-read_count) (keyed at.After-read_count) (counted at.After-read_lines-read) c.in_ok-place.ensures.answer refl _ _ c.read_lines-read.ensures.state
    c.store.ensures.stored
