use native.Mathlib.Omega.{arith}
use Rattle.model.specs.CaseFile.{field}
use Rattle.case_file.proofs.field_at.Goals as goal

pub returns : goal.returns
unfolding field
returns c = omega (arith, c.from_le_bytes.ensures)
