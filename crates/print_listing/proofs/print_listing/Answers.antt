-- What `print_listing` hands to write lies within its text.
use Rattle.std.proofs.Common.{sym, take}
use native.Mathlib.Omega.{arith}
use Rattle.std.proofs.lemmas.List.{length-take-le}
use Rattle.listing_text.proofs.Bridge.{text_fits}
use Rattle.print_listing.proofs.print_listing.Goals as goal

pub slice_bounds-text-end : goal.slice_bounds-text-end
slice_bounds-text-end g c =
    omega (arith, c.listing_of-count.ensures.size, c.listing_of-count.auto.text, text_fits (take c.in-Ok.bytes c.read_case.new.buffer))

pub slice_bounds-write_all-end-2 : goal.slice_bounds-write_all-end-2
slice_bounds-write_all-end-2 g c =
    sym (length-take-le _ _ (omega (arith, c.listing_of-count.ensures.size, c.listing_of-count.auto.text, text_fits (take c.in-Ok.bytes c.read_case.new.buffer))))
