-- Lines that violate nothing: those that were not run, and those whose guard is false.
-- Assumes nothing. Met again where the checker and the machine ask what violates.
use mathlib.Core.Path.{◌≡◌, refl}
use mathlib.Core.Bool.{Bool, false}
use Rattle.model.specs.CaseFile.{Line}
use Rattle.model.specs.declared.Kind.{Kind}
use Rattle.model.specs.declared.Kind.TheVariants.{Compute, Store, Load, Input, Assert, Assume, Lock, Unlock}
use Rattle.model.specs.Line.{Reads, guard_true, guarded_out_value, unrun_value, breaks}
use Rattle.laws.proofs.Views.{and_false}

-- An assert that was not run has value 1.
pub unrun_breaks_nothing : (kind : Kind) (l : Line) (reads : Reads) → breaks false kind l reads (unrun_value kind) ≡ false
unfolding breaks unrun_value
unrun_breaks_nothing Compute l reads = refl
unrun_breaks_nothing Store l reads = refl
unrun_breaks_nothing Load l reads = refl
unrun_breaks_nothing Input l reads = refl
unrun_breaks_nothing Assert l reads = refl
unrun_breaks_nothing Assume l reads = refl
unrun_breaks_nothing Lock l reads = refl
unrun_breaks_nothing Unlock l reads = refl

-- So has one that its guard leaves out.
pub out_breaks_nothing : (run : Bool) (kind : Kind) (l : Line) (reads : Reads) → guard_true l reads ≡ false
    → breaks run kind l reads (guarded_out_value kind reads) ≡ false
unfolding breaks guarded_out_value
out_breaks_nothing run Compute l reads off = refl
out_breaks_nothing run Store l reads off = refl
out_breaks_nothing run Load l reads off = refl
out_breaks_nothing run Input l reads off = refl
out_breaks_nothing run Assert l reads off = refl
out_breaks_nothing run Assume l reads off = refl
out_breaks_nothing run Lock l reads off = refl
out_breaks_nothing run Unlock l reads off = rw off (and_false run)
