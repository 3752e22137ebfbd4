-- `put_facts` puts the facts of one first source after the other. Assumes nothing.
use lib.ListN.{drop}
use Rattle.script.specs.Assertions.{comparison}
use Rattle.spell.specs.Atoms.{atom_term}
use Rattle.spell.proofs.Spelling.{Remains}
use Rattle.linked.specs.Shape.{source_list}
use Rattle.expressions.specs.Facts.{fact_heads}
use Rattle.expressions.proofs.put_facts.Given as goal

abbrev pub invariant-loop-first : goal.invariant-loop-first
invariant-loop-first l =
    let heads = fact_heads (comparison l.op) (atom_term l.x) (atom_term l.y) (source_list l.fn.sources) in
    Remains (heads l.first-items) l.initial.w l.w (heads (drop l.first-index l.first-items))
