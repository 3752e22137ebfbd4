-- `put_blocks` takes the thread's blocks one after the other. Assumes nothing.
use Rattle.reads_text.proofs.Blocks.{Blocks}
use Rattle.spell.specs.Atoms.{atom_term}
use Rattle.reads_text.proofs.put_blocks.Given as goal

abbrev pub invariant-loop-many : goal.invariant-loop-many
invariant-loop-many l = Blocks l.frame (atom_term l.x) l.k l.g l.t l.initial.w l.w l.i l.many
