-- `shape_of` reads the header. Assumes nothing.
use borrow.Author.Rules.{rules}
use Rattle.smt_parts.proofs.Shape.{first_whole, first_values}
use Rattle.smt_parts.proofs.shape_of.Goals as goal

pub returns : goal.returns
returns c = record {
  threads = c.threads.ensures;
  switches = c.switches.ensures;
  unrun = search rules;
  globals = c.globals.ensures;
  items = c.items.ensures.is;
  base = search rules;
  whole = first_whole _ _ (search rules) c.first_items.ensures;
  first = first_values _ _ c.first_items.ensures;
}
