-- The word is read, and held to what there is.
-- Assumes nothing.
use Rattle.name_grants.proofs.Parts.{all_there, too_few}
use Rattle.name_grants.proofs.list_length.Goals as goal

pub returns-then-most-length : goal.returns-then-most-length
returns-then-most-length c = let both = too_few c.args.input.now c.word-length.result c.requires.word c.word-length.ensures.word c.if-most-length.true in record { inside = both.0; grants = both.1.0; batch = both.1.1 }

pub returns : goal.returns
returns c = let both = all_there c.args.input.now c.word-length.result c.requires.word c.word-length.ensures.word c.if-most-length.false in record { inside = both.0; grants = both.1.0; batch = both.1.1 }
