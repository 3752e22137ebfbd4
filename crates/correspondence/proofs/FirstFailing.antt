-- What the checker answers about a table: the first row that fails, or that all hold; and a table is read back from its numbers.
-- Assumes nothing. Met again in Demand3.
use Rattle.std.specs.Prelude.{Ok}
use mathlib.Core.Path.{◌≡◌, refl, sym, ap, ◌∙◌}
use mathlib.Core.Logic.{◌≢◌}
use Prim.Native.Nat.{ℕ, suc, ◌+◌}
use mathlib.Core.Bool.{Bool, true, false, cond}
use mathlib.Core.List.{List, [], ◌∷◌, ◌++◌}
use native.Mathlib.Omega.{arith}
use native.Mathlib.Nat.{zero-add}
use lib.ListN.{length}
use lib.Dec.{eqb}
use borrow.Author.Tests.{eqb-true, eq-eqb, ne_eqb}
use Rattle.model.specs.CaseFile.{Case, case_of}
use Rattle.model.specs.Accept.{verdict}
use Rattle.model.specs.Assignment.{Assignment, variables, assignment_of}
use Rattle.model.specs.Table.{Row, table, numbers_of}
use Rattle.model.specs.Holds.{holds, first_failing}
use Rattle.model.specs.Answers.{answer_of_check, failed_in, checked}
use Rattle.model.specs.declared.Checked.TheVariants.{Meets, Fails}
use Rattle.laws.proofs.OnCase.{on_accepted, past_unless, past_refusals}
use Rattle.laws.proofs.Views.{EqView, same, diff, eq_view}
use Rattle.laws.specs.AllHold.{AllHold}
use Rattle.correspondence.specs.ReadBack.{rows_of, FirstFails}

module _ (case : Case) (α : Assignment) where
  fails_later : (k : ℕ) (w : Row) (ws : List Row) (j : ℕ) → holds case α w ≡ true → FirstFails case α (suc k) ws j → FirstFails case α k (w ∷ ws) j
  fails_later k w ws j r f = record {
    before = w ∷ f.before;
    failing = f.failing;
    after = f.after;
    split = ap (λ (us : List Row). w ∷ us) f.split;
    place = omega (arith, f.place);
    hold = (r, f.hold);
    fails = f.fails;
  }

  pub first_fails : (k : ℕ) (rows : List Row) (j : ℕ) → first_failing case α k rows ≡ j → j ≢ 0 → FirstFails case α k rows j
  unfolding first_failing
  first_fails k [] j e h = absurd (h (sym e))
  first_fails k (w ∷ ws) j e h = go (holds case α w) refl e (λ e'. first_fails (suc k) ws j e' h)
    where
      go : (q : Bool) → holds case α w ≡ q → cond q (first_failing case α (suc k) ws) k ≡ j
          → (first_failing case α (suc k) ws ≡ j → FirstFails case α (suc k) ws j) → FirstFails case α k (w ∷ ws) j
      go true r e' ih = fails_later k w ws j r (ih e')
      go false r e' ih = record {
        before = [];
        failing = w;
        after = ws;
        split = refl;
        place = zero-add k ∙ e';
        hold = tt;
        fails = r;
      }

  failing_after : (k : ℕ) (before after : List Row) (w : Row) → AllHold case α before → holds case α w ≡ false
      → first_failing case α k (before ++ (w ∷ after)) ≡ length before + k
  unfolding first_failing
  failing_after k [] after w hold fails = rw fails (sym (zero-add k))
  failing_after k (v ∷ before) after w hold fails = rw hold.0 (failing_after (suc k) before after w hold.1 fails ∙ omega arith)

  pub failing_of_first : (k : ℕ) (rows : List Row) (j : ℕ) → FirstFails case α k rows j → first_failing case α k rows ≡ j
  failing_of_first k rows j f =
      ap (first_failing case α k) f.split ∙ failing_after k f.before f.after f.failing f.hold f.fails ∙ f.place

failed_of_fails : (bytes xs : List ℕ) (k : ℕ) → checked bytes xs ≡ Ok (Fails k)
    → (length xs ≡ variables (case_of bytes)) × (failed_in bytes xs ≡ k) × (failed_in bytes xs ≢ 0)
unfolding checked
failed_of_fails bytes xs k e =
    let case = past_refusals (λ r. r ≡ Ok (Fails k)) (verdict bytes) _ _ (λ r e'. let z : ◌≡◌ {A = ℕ} 0 1 = cc in omega arith) e in
    let size = past_unless (λ r. r ≡ Ok (Fails k)) (eqb (length xs) (variables (case_of bytes))) _ _ (λ e'. let z : ◌≡◌ {A = ℕ} 0 1 = cc in omega arith) case.later in
    let failed = go (eq_view (failed_in bytes xs) 0) size.later in
    (eqb-true _ _ size.here, failed.0, failed.1)
  where
    go : EqView (failed_in bytes xs) 0 → answer_of_check (failed_in bytes xs) ≡ Ok (Fails k) → (failed_in bytes xs ≡ k) × (failed_in bytes xs ≢ 0)
    go (same z q) e' = absurd (let y : Ok Meets ≡ Ok (Fails k) = rw q at e' in let z : ◌≡◌ {A = ℕ} 0 1 = cc in omega arith)
    go (diff some q) e' = (let y : Ok (Fails (failed_in bytes xs)) ≡ Ok (Fails k) = rw q at e' in cc, some)

-- The number that the checker answers is that of a row that fails, and all rows before it hold.
pub checker_names_the_first : (bytes xs : List ℕ) (k : ℕ) → checked bytes xs ≡ Ok (Fails k)
    → (length xs ≡ variables (case_of bytes)) × FirstFails (case_of bytes) (assignment_of (case_of bytes) xs) 1 (table (case_of bytes)) k
checker_names_the_first bytes xs k e =
    let failed = failed_of_fails bytes xs k e in (
      failed.0,
      first_fails (case_of bytes) (assignment_of (case_of bytes) xs) 1 (table (case_of bytes)) k failed.1 (λ z. failed.2 (failed.1 ∙ z)),
    )

-- And the other way round.
pub fails_of_first : (bytes xs : List ℕ) (k : ℕ) → verdict bytes ≡ Ok tt → length xs ≡ variables (case_of bytes)
    → FirstFails (case_of bytes) (assignment_of (case_of bytes) xs) 1 (table (case_of bytes)) k → checked bytes xs ≡ Ok (Fails k)
unfolding checked
fails_of_first bytes xs k accepted sized first =
    let found : failed_in bytes xs ≡ k = failing_of_first (case_of bytes) (assignment_of (case_of bytes) xs) 1 (table (case_of bytes)) k first in
    rw (on_accepted _ _ _ accepted, eq-eqb _ _ sized, found, ne_eqb k 0 (λ z. omega (arith, first.place)))

pub rows_of_numbers : (rows : List Row) → rows_of (numbers_of rows) ≡ rows
unfolding rows_of numbers_of
rows_of_numbers [] = refl
rows_of_numbers (w ∷ ws) = ap (λ (us : List Row). w ∷ us) (rows_of_numbers ws)
