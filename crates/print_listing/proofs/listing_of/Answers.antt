-- `listing_of` never meets refusal 10: every listing fits its text. Assumes nothing.
use Rattle.listing_text.proofs.Bridge.{no_refusal, whole_text}
use Rattle.print_listing.proofs.listing_of.Goals as goal

pub returns-in_default : goal.returns-in_default
returns-in_default c = absurd (no_refusal _ _ _ c.listing_text.ensures.value c.requires _ c.in_default.is)

pub returns : goal.returns
returns c = whole_text _ _ _ _ _ c.listing_text.ensures.value c.requires c.in-Ok.is c.listing_text.ensures.text_after
