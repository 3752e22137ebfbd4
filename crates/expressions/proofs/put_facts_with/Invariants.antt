-- `put_facts_with` puts one fact after the other. Assumes nothing.
use lib.ListN.{drop}
use Rattle.script.specs.Assertions.{comparison}
use Rattle.spell.specs.Atoms.{atom_term}
use Rattle.spell.proofs.Spelling.{Remains}
use Rattle.expressions.specs.Facts.{fact_heads_with}
use Rattle.expressions.proofs.put_facts_with.Given as goal

abbrev pub invariant-loop-second : goal.invariant-loop-second
invariant-loop-second l =
    let heads = fact_heads_with (comparison l.op) (atom_term l.x) (atom_term l.y) l.first in
    Remains (heads l.second-items) l.initial.w l.w (heads (drop l.second-index l.second-items))
