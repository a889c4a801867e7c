-- The calls of the driver ask nothing of their caller, whatever is lent to them.
-- What a contract asks is taken as its callers read it: NAME.Asked, of lifetimes and arguments.
-- Assumes nothing.
use Rattle.irangelda.proofs.irangelda_read.Reads as irangelda_read
use Rattle.irangelda.proofs.irangelda_size.Reads as irangelda_size
use Rattle.irangelda.proofs.irangelda_write.Reads as irangelda_write
use Rattle.irangelda.proofs.irangelda_list.Reads as irangelda_list
use Rattle.irangelda.proofs.irangelda_read_listing.Reads as irangelda_read_listing
use Rattle.irangelda.proofs.irangelda_which_grant.Reads as irangelda_which_grant

-- a contract that every caller keeps to,
abbrev pub AsksNothing {ℓ} : {K : Type ℓ} {A : K → Type ℓ} (P : (κ : K) → A κ → Type ℓ) → Type ℓ
AsksNothing P = (κs : _) (a : _) → P κs a

-- since there is nothing to keep to
pub nothing_asked {ℓ} : Unit {ℓ}
nothing_asked = tt

pub irangelda_read_asks : AsksNothing irangelda_read.Asked
irangelda_read_asks κs a = nothing_asked

pub irangelda_size_asks : AsksNothing irangelda_size.Asked
irangelda_size_asks κs a = nothing_asked

pub irangelda_write_asks : AsksNothing irangelda_write.Asked
irangelda_write_asks κs a = nothing_asked

pub irangelda_list_asks : AsksNothing irangelda_list.Asked
irangelda_list_asks κs a = nothing_asked

pub irangelda_read_listing_asks : AsksNothing irangelda_read_listing.Asked
irangelda_read_listing_asks κs a = nothing_asked

pub irangelda_which_grant_asks : AsksNothing irangelda_which_grant.Asked
irangelda_which_grant_asks κs a = nothing_asked
