use Rattle.links.proofs.ChainWalks.{Following}
use Rattle.links.proofs.check_chains.Given as goal

abbrev pub invariant-loop-t : goal.invariant-loop-t
invariant-loop-t l = Following l.case l.reached l.lines l.few l.t
