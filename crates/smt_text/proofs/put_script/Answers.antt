-- `put_script` writes the text where the slice has room for it. Assumes nothing.
use mathlib.Core.Path.{sym}
use borrow.Author.Rules.{rules}
use Rattle.smt_text.proofs.Answer.{too_short, long_enough}
use Rattle.smt_text.proofs.put_script.Goals as goal

pub returns-then-not-fits : goal.returns-then-not-fits
returns-then-not-fits c = too_short _ c.requires.taken _ c.fits.ensures c.if-not-fits.true

pub returns : goal.returns
returns c =
    let put = c.write_script.ensures in
    long_enough _ c.requires.taken _ c.fits.ensures c.if-not-fits.false (search rules) (rw (c.text-1.given.1.1 (sym put.same_slice)) put.spelt)
