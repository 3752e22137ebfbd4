-- `run::put_values` meets its contract. The invariant: the values that are left decide. Assumes nothing.
use Rattle.run.proofs.ItemsPut.{Putting}
use Rattle.run.proofs.put_values.Given as goal

abbrev pub invariant-loop-g : goal.invariant-loop-g
invariant-loop-g l = Putting l.initial.trace l.fn.values l.count l.start l.trace l.g
