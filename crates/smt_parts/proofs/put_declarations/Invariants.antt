-- `put_declarations` puts a line after the other. Assumes nothing.
use Prim.Native.Nat.{◌-◌}
use Rattle.smt.specs.Spelling.{declarations}
use Rattle.spell.proofs.Spelling.{Remains}
use Rattle.smt_parts.proofs.put_declarations.Given as goal

abbrev pub invariant-loop-k : goal.invariant-loop-k
invariant-loop-k l = Remains (declarations 0 l.count) l.initial.w l.w (declarations l.k (l.count - l.k))
