-- `write_run` writes the order rows, the 4s and 5s, and the 6s. Assumes nothing.
use Rattle.encoder.proofs.Parts.{run_written}
use Rattle.encoder.proofs.write_run.Goals as goal

pub returns : goal.returns
returns c =
    run_written _ c.write_orders-orders.ensures
    c.write_all_values-values.ensures.put c.write_blocks.ensures
