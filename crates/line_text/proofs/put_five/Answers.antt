-- `put_five` puts both parts in their words. Assumes nothing.
use Rattle.linked.proofs.Variables.{or_not_run_spelt}
use Rattle.line_text.proofs.Lines.{demand_found}
use Rattle.line_text.proofs.put_five.Goals as goal

pub returns : goal.returns
returns c = λ case f found. or_not_run_spelt case _ _ c.put.ensures (c.put_not_run.ensures case f.shape) c.put-2.ensures (demand_found case _ _ found _ _ (c.put_demand.ensures case f)) c.put-3.ensures
