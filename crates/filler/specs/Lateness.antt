-- Whether a line was run late, by its kind and by the block numbers of the line before it and of its own.
-- Assumes nothing.
use Rattle.std.specs.Prelude.{ℕ, Bool, ◌&&◌, List}
use Rattle.model.specs.CaseFile.{case_of}
use Rattle.model.specs.declared.Kind.{Kind}
use Rattle.model.specs.Line.{late}
use Rattle.model.specs.Assignment.{was_run}

unfoldable pub is_late : List ℕ → Kind → ℕ → ℕ → Bool
is_late bytes kind before block = was_run (case_of bytes) block && late kind before block
