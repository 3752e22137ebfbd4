-- `put_stay` writes the 8 of a line that has one. Assumes nothing.
use mathlib.Core.Path.{ap}
use mathlib.Core.List.{List}
use native.Mathlib.Omega.{arith}
use lib.ListN.{length}
use Rattle.model.specs.Table.{Row, numbers_of}
use Rattle.laws.proofs.Writing.{put_nothing}
use Rattle.rows.proofs.Made.{put_one, eight_by}
use Rattle.rows.proofs.put_stay.Goals as goal

pub put_row-requires : goal.put_row-requires
unfolding numbers_of
put_row-requires c = omega (arith, c.requires, ap (λ (ws : List Row). length (numbers_of ws)) (eight_by c.args.link c.stays.ensures c.if-stays.true))

pub returns-then-stays : goal.returns-then-stays
returns-then-stays c = rw (eight_by c.args.link c.stays.ensures c.if-stays.true) (put_one c.put_row.ensures c.stay_row-w.ensures)

pub returns : goal.returns
unfolding numbers_of
returns c = rw (eight_by c.args.link c.stays.ensures c.if-stays.false) put_nothing
