-- `write_table` writes the rows of the run and then the goal. Assumes nothing.
use Rattle.rows.proofs.Made.{one_row}
use Rattle.encoder.proofs.Parts.{table_written}
use Rattle.encoder.proofs.write_table.Goals as goal

pub returns : goal.returns
returns c = table_written _ c.requires c.write_run-at.ensures (one_row _ _ _ c.put_row.ensures c.goal_row-goal.ensures)
