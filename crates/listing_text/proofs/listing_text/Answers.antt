-- `listing_text` writes the text where the slice has room for it. Assumes nothing.
use borrow.Author.Rules.{rules}
use mathlib.Core.Path.{refl}
use Rattle.listing_text.proofs.Bridge.{rows_fit, answer_text, too_short, long_enough}
use Rattle.listing_text.proofs.listing_text.Goals as goal

pub fits-requires : goal.fits-requires
fits-requires c = let rows = rows_fit _ _ refl _ c.encode-answer.ensures.value in search rules

pub write_text-requires : goal.write_text-requires
write_text-requires c = let rows = rows_fit _ _ refl _ c.encode-answer.ensures.value in search rules

pub returns-then-fits : goal.returns-then-fits
returns-then-fits c =
    let both =
    long_enough _ _ _ (answer_text _ _ refl _ _ c.encode-answer.ensures.value c.encode-answer.ensures.table_after) _ c.fits.ensures c.if-fits.true
    c.write_text.ensures
    in record { value = both.0; text_after = both.1 }

pub returns : goal.returns
returns c =
    let both =
    too_short _ _ _ (answer_text _ _ refl _ _ c.encode-answer.ensures.value c.encode-answer.ensures.table_after) _ c.fits.ensures c.if-fits.false
    in record { value = both.0; text_after = both.1 }
