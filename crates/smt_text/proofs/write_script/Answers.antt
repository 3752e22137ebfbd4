-- `write_script` puts the parts of a script one after the other. Assumes nothing.
use Rattle.smt_text.proofs.Assertions.{script_spelt}
use Rattle.smt_text.proofs.write_script.Goals as goal

pub returns : goal.returns
returns c = script_spelt c.requires c.put.ensures c.put_declarations.ensures c.put_assertions.ensures c.put-2.ensures
