-- What a line of each kind is asked, by its guard, or where it was not run.
-- Assumes nothing.
use mathlib.Core.Path.{◌≡◌, refl, sym, ap, ◌∙◌}
use Prim.Native.Nat.{ℕ}
use mathlib.Core.Bool.{Bool, true, false, cond, not}
use lib.Dec.{eqb}
use Rattle.model.specs.CaseFile.{Line}
use Rattle.model.specs.declared.Kind.{Kind}
use Rattle.model.specs.declared.Kind.TheVariants.{Lock}
use Rattle.model.specs.Line.{Reads, name_of_target, guard_true, guarded_in_value, guarded_out_value, value_by, unrun_value, breaks}
use Rattle.model.specs.Holds.{demand_met}
use Rattle.laws.proofs.Views.{EqView, same, diff, eq_view}
use Rattle.laws.proofs.Breaking.{unrun_breaks_nothing, out_breaks_nothing}
use Rattle.std.specs.Prelude.{Ok, Err}
use Rattle.value_check.specs.declared.Asked.{Asked}
use Rattle.value_check.specs.Asking.{Asks, failing_asked}

module _ (G : ℕ) (l : Line) (reads : Reads) (value : ℕ) (r : Asked) (κ : Kind) (kind : l.kind ≡ κ) where
  asks_by : (on : Bool) → guard_true l reads ≡ on → r.value ≡ cond on (guarded_in_value κ l reads) (guarded_out_value κ reads) → r.met ≡ demand_met κ l reads value
      → (value ≡ r.value → r.breaks ≡ breaks true κ l reads value) → r.name ≡ name_of_target G κ l.target → Asks true G l reads value r
  unfolding value_by
  asks_by on guard value' met' breaks' name' = record {
    asking = rw guard (value' ∙ ap (λ (x : Kind). cond on (guarded_in_value x l reads) (guarded_out_value x reads)) (sym kind));
    meeting = met' ∙ ap (λ (x : Kind). demand_met x l reads value) (sym kind);
    breaking = λ e. breaks' e ∙ ap (λ (x : Kind). breaks true x l reads value) (sym kind);
    naming = name' ∙ ap (λ (x : Kind). name_of_target G x l.target) (sym kind);
  }

  pub asks_in : guard_true l reads ≡ true → r.value ≡ guarded_in_value κ l reads → r.met ≡ demand_met κ l reads value
      → r.breaks ≡ breaks true κ l reads value → r.name ≡ name_of_target G κ l.target → Asks true G l reads value r
  asks_in on value' met' breaks' name' = asks_by true on value' met' (λ _. breaks') name'

  -- With the value that it is asked for, it does not violate.
  pub asks_out : guard_true l reads ≡ false → r.value ≡ guarded_out_value κ reads → r.met ≡ demand_met κ l reads value
      → r.breaks ≡ false → r.name ≡ name_of_target G κ l.target → Asks true G l reads value r
  asks_out off value' met' breaks' name' =
      asks_by false off value' met' (λ e. rw (e, value') (breaks' ∙ sym (out_breaks_nothing true κ l reads off))) name'

-- A lock reads its mutex: it is free, or the guard is false.
module _ (l : Line) (reads : Reads) (value : ℕ) where
  pub lock_in : guard_true l reads ≡ true → (x : ℕ) → x ≡ reads.target → eqb x 0 ≡ demand_met Lock l reads value
  unfolding demand_met
  lock_in on x is = rw (on, ← is) (go (eqb x 0))
    where
      go : (q : Bool) → q ≡ not (not q)
      go true = refl
      go false = refl

  pub lock_out : guard_true l reads ≡ false → true ≡ demand_met Lock l reads value
  unfolding demand_met
  lock_out off = rw off

-- A line that was not run: its 5 is met, and with the value that its 4 asks for it does not violate.
pub asks_unrun : (G : ℕ) (l : Line) (reads : Reads) (value x name : ℕ) → x ≡ unrun_value l.kind → name ≡ name_of_target G l.kind l.target
    → Asks false G l reads value (record { value = x; met = true; breaks = false; name = name })
asks_unrun G l reads value x name ex en = record {
  asking = ex;
  meeting = refl;
  breaking = λ e. rw (e, ex) (sym (unrun_breaks_nothing l.kind l reads));
  naming = en;
}

-- Where neither fails, the line has the value that its 4 asks for.
pub value_asked : (at : ℕ) (r : Asked) (value : ℕ) → failing_asked at r value ≡ Ok tt → value ≡ r.value
unfolding failing_asked
value_asked at r value none = go (eq_view value r.value)
  where
    go : EqView value r.value → value ≡ r.value
    go (same e q) = e
    go (diff n q) = absurd (let z : Err (record { constraint = at }) ≡ Ok tt = rw q at none in cc)
