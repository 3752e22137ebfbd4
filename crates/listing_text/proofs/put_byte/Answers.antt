-- `put_byte` stores within the slice; beyond it a store changes nothing. Assumes nothing.
use mathlib.Core.Path.{sym}
use lib.Seq.{set_out}
use Rattle.laws.specs.Written.{numbers_at}
use Rattle.laws.proofs.Writing.{numbers_one}
use Rattle.listing_text.proofs.put_byte.Goals as goal

pub returns-then-text-at : goal.returns-then-text-at
unfolding numbers_at
returns-then-text-at c = sym (set_out _ _ _ c.if-text-at.true)

pub returns : goal.returns
returns c = numbers_one _ _ _
