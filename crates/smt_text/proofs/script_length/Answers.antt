-- `script_length` is the place after the text, in no bytes at all. Assumes nothing.
use Rattle.smt_text.proofs.Answer.{size_spelt}
use Rattle.smt_text.proofs.script_length.Goals as goal

pub returns : goal.returns
returns c = size_spelt _ c.requires.taken c.write_script.ensures.spelt
