-- `menduvo::menduvo_listing` meets its contract.
-- Assumes nothing.
use Rattle.listing_text.proofs.Bridge.{length_told}
use Rattle.menduvo.proofs.menduvo_listing.Goals as goal

pub listed_numbers-requires : goal.listed_numbers-requires
listed_numbers-requires c = rw c.listing_text.ensures.value (length_told _ _)
