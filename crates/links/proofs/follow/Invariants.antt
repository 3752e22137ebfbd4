use Prim.Native.Nat.{suc, ◌-◌}
use Rattle.model.specs.CaseFile.{records}
use Rattle.links.proofs.ChainWalks.{Walking}
use Rattle.links.proofs.follow.Given as goal

abbrev pub invariant-loop-k : goal.invariant-loop-k
invariant-loop-k l = Walking l.case l.initial.reached l.t l.reached l.k l.n

abbrev pub decreases-loop-k : goal.decreases-loop-k
decreases-loop-k l = suc (records l.case) - l.n
