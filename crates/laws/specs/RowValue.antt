-- The value that the 4 of a line asks for, after the lines before it, latest first.
-- Assumes nothing.
use Rattle.std.specs.Prelude.{ℕ, cond, List}
use Rattle.model.specs.CaseFile.{Line, Case}
use Rattle.model.specs.Line.{value_of, unrun_value}
use Rattle.model.specs.Assignment.{Assignment, was_run}
use Rattle.model.specs.Copies.{reads_after}

abbrev pub value_after : Case → Assignment → List Line → Line → ℕ
value_after case α earlier l = cond (was_run case (α.block l.number)) (value_of l (reads_after case α earlier l)) (unrun_value l.kind)
