-- `put_closing` puts one after the other. Assumes nothing.
use Prim.Native.Nat.{◌-◌}
use Rattle.spell.specs.Atoms.{closing}
use Rattle.spell.proofs.Spelling.{Remains}
use Rattle.spell.proofs.Writer.put_closing.Given as goal

abbrev pub invariant-loop : goal.invariant-loop
invariant-loop l = Remains (closing l.many) l.initial.self l.self (closing (l.many - l.counter))
