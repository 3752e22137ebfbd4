-- `row_at` reads six numbers. Assumes nothing.
use Rattle.line_threads.proofs.row_at.Goals as goal

pub returns : goal.returns
returns c = cc
