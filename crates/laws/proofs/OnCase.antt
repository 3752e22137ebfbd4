-- A call on a case, by what checks 1 to 9 said of it: what follows for an accepted case, and the refusal; and what an answer that is
-- no refusal says of the checks before it.
-- Assumes nothing. Met again in the proofs of the calls, and in correspondence's FirstFailing and Replies.
use Rattle.std.specs.Prelude.{Result, Ok, Err}
use mathlib.Core.Path.{◌≡◌, refl, sym, ◌∙◌}
use mathlib.Core.Bool.{Bool, true, false}
use Rattle.model.specs.Lists.{unless}
use Rattle.model.specs.Answers.{on_case}
use Rattle.model.specs.declared.Refusal.{Refusal}
use Rattle.model.specs.Refusals.{Verdict}

module _ {A : Type 0} (v : Verdict) (refuse : Refusal → A) (next : A) where
  pub on_accepted : v ≡ Ok tt → on_case v refuse next ≡ next
  unfolding on_case
  on_accepted e = rw e

  pub on_refused : (e : Refusal) → v ≡ Err e → on_case v refuse next ≡ refuse e
  unfolding on_case
  on_refused e is = rw is

-- A check was passed, and what is so of the answer is so of what follows the check: it is not so of the refusal.
pub record Passed (Check Later : Type 0) : Type 0 where
  pub here : Check
  pub later : Later

module _ {A : Type 0} (P : A → Type 0) where
  pub past_unless : (test : Bool) (refusal next : A) → (P refusal → ⊥) → P (unless test refusal next) → Passed (test ≡ true) (P next)
  past_unless true refusal next never p = record { here = refl; later = p }
  past_unless false refusal next never p = absurd (never p)

  pub past_refusals : (v : Verdict) (refuse : Refusal → A) (next : A) → ((e : Refusal) → P (refuse e) → ⊥) → P (on_case v refuse next) → Passed (v ≡ Ok tt) (P next)
  unfolding on_case
  past_refusals (Ok tt) refuse next never p = record { here = refl; later = p }
  past_refusals (Err e) refuse next never p = absurd (never e p)

-- A check by itself that does not refuse.
pub check_passed : (test : Bool) (r : Refusal) (answer : Result (Unit {0}) Refusal) (u : Unit {0}) → answer ≡ unless test (Err r) (Ok tt) → answer ≡ Ok u → test ≡ true
check_passed test r answer u is ok = go test (sym is ∙ ok)
  where
    go : (q : Bool) → unless q (Err r) (Ok tt) ≡ Ok u → q ≡ true
    go true h = refl
    go false h = cc
