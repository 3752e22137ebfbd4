-- A line's violation by its kind.
-- Assumes nothing.
use Rattle.std.proofs.Common.{◌≡◌, ℕ, ◌+◌, Bool, true, not, eqb, ap, ◌∙◌}
use Rattle.model.specs.CaseFile.{Line}
use Rattle.model.specs.declared.Kind.{Kind}
use Rattle.model.specs.declared.Kind.TheVariants.{Unlock}
use Rattle.model.specs.Line.{Reads, item_name, name_of_target, guard_true, holder, breaks}

-- The target of an unlock is a mutex.
pub mutex_named : (κ : Kind) (G target : ℕ) → κ ≡ Unlock → item_name (G + target) ≡ name_of_target G κ target
unfolding name_of_target
mutex_named κ G target e = rw e

-- An unlock with a true guard violates where its mutex does not read its thread as holder.
pub breaks_unlock : (κ : Kind) (l : Line) (reads : Reads) (value x y : ℕ) → κ ≡ Unlock → guard_true l reads ≡ true → x ≡ reads.target → y ≡ holder l
    → not (eqb x y) ≡ breaks true κ l reads value
unfolding breaks
breaks_unlock κ l reads value x y e on ex ey = rw (e, on, ex, ey)

pub breaks_kind : (l : Line) (reads : Reads) (κ : Kind) → l.kind ≡ κ → (broken : Bool) (value : ℕ) → broken ≡ breaks true l.kind l reads value
    → broken ≡ breaks true κ l reads value
breaks_kind l reads κ kind broken value is = is ∙ ap (λ (x : Kind). breaks true x l reads value) kind
