-- `put_stranger` puts both parts in their words. Assumes nothing.
use Rattle.goal_text.proofs.Heads.{stranger_spelt}
use Rattle.goal_text.proofs.put_stranger.Goals as goal

pub returns : goal.returns
returns c = λ case f. stranger_spelt case _ _ _ _ (c.holder-own.ensures c.args.k) c.put.ensures (c.put_not_run.ensures case f.shape) c.put-2.ensures (c.put_reads.ensures case f) c.put-3.ensures
