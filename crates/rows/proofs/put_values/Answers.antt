-- `put_values` writes a line's 4 and its 5. Assumes nothing.
use mathlib.Core.Path.{◌∙◌}
use native.Mathlib.Omega.{arith}
use Rattle.rows.proofs.Made.{some_row, values_are}
use Rattle.rows.proofs.put_values.Goals as goal

pub put_row-requires : goal.put_row-requires
put_row-requires c = omega (arith, some_row (c.args.kind))

pub returns : goal.returns
returns c = λ case earlier l e. values_are _ case earlier l _ _ _ _ _ _ e c.value_row-w.ensures c.put_row.ensures (c.put_demand.ensures case earlier l (c.value_row-w.ensures ∙ e))
