-- `put_declaration` puts the words around a variable. Assumes nothing.
use Rattle.smt_parts.proofs.Declarations.{declaration_spelt}
use Rattle.smt_parts.proofs.put_declaration.Goals as goal

pub returns : goal.returns
returns c = rw c.from.ensures at (declaration_spelt c.from.result c.put.ensures c.put_variable.ensures c.put-2.ensures)
