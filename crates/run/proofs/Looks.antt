-- The look through the lines that are left: what is left to look at decides.
-- Assumes nothing.
use Rattle.std.specs.Prelude.{Option, None, Some}
use Rattle.std.proofs.lemmas.Option.{none-some}
use mathlib.Core.Path.{◌≡◌, refl, sym, ap, ◌∙◌}
use mathlib.Core.Logic.{◌≢◌}
use Prim.Native.Nat.{ℕ, suc, ◌+◌, ◌-◌, ◌≤◌, ◌<◌}
use mathlib.Core.Bool.{Bool, true, false, cond}
use mathlib.Core.List.{List}
use native.Mathlib.Omega.{arith}
use lib.ListN.{get_or}
use Rattle.model.specs.Lists.{unless_0}
use Rattle.model.specs.CaseFile.{Line, records, thread_count, next_record, record_field, kind_of}
use Rattle.model.specs.declared.Kind.{Kind}
use Rattle.model.specs.Line.{unrun_stray}
use Rattle.model.specs.Machine.{stray_left, first_stray_left}
use Rattle.laws.specs.Accepted.{Accepted, lines_from}
use Rattle.laws.proofs.Following.{lines_end, lines_more, next_low}
use Rattle.turn.specs.declared.Stand.{Stand}
use Rattle.turn.specs.declared.Stand.TheVariants.{Running, Strayed, Stopped}
use Rattle.turn.specs.TurnState.{given_by}
use Rattle.run.specs.declared.Thread.{Thread}
use Rattle.run.specs.declared.Shared.{Shared}
use Rattle.run.specs.Found.{Finds}
use Rattle.run.proofs.Found.{finds_none, finds_some, none_by, some_by}
use Rattle.run.specs.RunState.{thread_at, list_from, rest_at, rests_of}
use Rattle.run.specs.Promises.{stand_after, looked_at}

-- Within a chain, at record `at`: nothing has strayed since record k.
pub record Looking (bytes givens : List ℕ) (k at : ℕ) : Type 0 where
  pub low : at ≤ records bytes
  pub does : (t others : ℕ) → stray_left (given_by givens) (lines_from bytes t at) others ≡ stray_left (given_by givens) (lines_from bytes t k) others

module _ {bytes givens : List ℕ} {k : ℕ} (ok : Accepted bytes) where
  pub looking_start : k ≤ records bytes → Looking bytes givens k k
  looking_start within = record { low = within; does = λ t others. refl }

  module _ {at : ℕ} (v : Looking bytes givens k at) where
    pub looking_end : at ≡ 0 → (t : ℕ) → Finds (stray_left (given_by givens) (lines_from bytes t k)) None
    unfolding stray_left
    looking_end e t = record {
      answers = λ others. sym (v.does t others) ∙ ap (λ (ls : List Line). stray_left (given_by givens) ls others) (lines_end bytes t at e);
      is_record = none-some 0;
    }

    module _ (some : at ≢ 0) {kind : Kind} (is_kind : kind ≡ kind_of (record_field bytes at 1)) {stray : Bool} (is_stray : stray ≡ unrun_stray kind (get_or givens at 0)) where
      splits : (t others : ℕ) → cond stray at (stray_left (given_by givens) (lines_from bytes t (next_record bytes at)) others)
          ≡ stray_left (given_by givens) (lines_from bytes t k) others
      unfolding stray_left
      splits t others =
          ap (λ (x : Bool). cond x at (stray_left (given_by givens) (lines_from bytes t (next_record bytes at)) others))
          (is_stray ∙ ap (λ (x : Kind). unrun_stray x (get_or givens at 0)) is_kind)
          ∙ sym (ap (λ (ls : List Line). stray_left (given_by givens) ls others) (lines_more bytes ok t at some v.low)) ∙ v.does t others

      pub looking_found : stray ≡ true → (t : ℕ) → Finds (stray_left (given_by givens) (lines_from bytes t k)) (Some at)
      looking_found e t = record { answers = λ others. sym (rw e at (splits t others)); is_record = λ is. some cc }

      pub looking_more : stray ≡ false → {next : ℕ} → next ≡ next_record bytes at → Looking bytes givens k next
      looking_more e is_next = rw is_next (record {
        low = next_low bytes ok 0 at some v.low;
        does = λ t others. rw e at (splits t others);
      })

-- Nothing has strayed in the threads before thread t.
pub record LookingOn (bytes givens : List ℕ) (threads : List Thread) (t : ℕ) : Type 0 where
  pub does : first_stray_left (given_by givens) (list_from (rest_at bytes threads) t (thread_count bytes - t)) ≡ first_stray_left (given_by givens) (rests_of bytes threads)

module _ {bytes givens : List ℕ} {threads : List Thread} where
  pub on_start : LookingOn bytes givens threads 0
  on_start =
      let all : thread_count bytes - 0 ≡ thread_count bytes = omega arith in
      record { does = ap (λ (x : ℕ). first_stray_left (given_by givens) (list_from (rest_at bytes threads) 0 x)) all }

  module _ {t : ℕ} (v : LookingOn bytes givens threads t) where
    pub on_end : thread_count bytes ≤ t → None ≡ unless_0 (first_stray_left (given_by givens) (rests_of bytes threads))
    unfolding first_stray_left list_from
    on_end over =
        let none : thread_count bytes - t ≡ 0 = omega arith in
        ap unless_0 (rw none at v.does)

    module _ (more : t < thread_count bytes) {thread : Thread} (is_thread : thread ≡ thread_at threads t) {r : Option ℕ}
        (finds : (u : ℕ) → Finds (stray_left (given_by givens) (lines_from bytes u thread.next)) r)
      where
        comes : stray_left (given_by givens) (lines_from bytes t thread.next) (first_stray_left (given_by givens) (list_from (rest_at bytes threads) (t + 1) (thread_count bytes - (t + 1))))
            ≡ first_stray_left (given_by givens) (rests_of bytes threads)
        unfolding first_stray_left list_from
        comes =
            let many : thread_count bytes - t ≡ suc (thread_count bytes - (t + 1)) = omega arith in
            let next : suc t ≡ t + 1 = omega arith in
            rw is_thread (rw (many, next) at v.does)

        pub on_more : r ≡ None → LookingOn bytes givens threads (t + 1)
        on_more is = record { does = finds_none (finds t) comes is }

        pub on_found : {k : ℕ} → r ≡ Some k → Some k ≡ unless_0 (first_stray_left (given_by givens) (rests_of bytes threads))
        on_found is = finds_some (finds t) comes is

-- How the run then stands.
module _ (stray : ℕ) (shared : Shared) where
  pub looked_by : (stand after : Stand) → shared.stand ≡ stand → after ≡ stand_after stray stand
      → record { items = shared.items; stand = after; note = shared.note } ≡ looked_at stray shared
  looked_by stand after is e = λ i. record { items = shared.items; stand = (e ∙ ap (stand_after stray) (sym is)) i; note = shared.note }

  pub none_left : None ≡ unless_0 stray → Running ≡ stand_after stray Running
  none_left is = rw (none_by stray is)

  pub some_left : {k : ℕ} → Some k ≡ unless_0 stray → Strayed k ≡ stand_after stray Running
  some_left is = let s = some_by stray is in rw (s.0) (ap Strayed s.1)

-- A run that has ended does not go on.
pub never_strayed : {P : Type 0} {stand : Stand} {k : ℕ} → stand ≡ Strayed k → stand ≡ Running → P
never_strayed {P} {stand} {k} ended runs = absurd (let e : Running ≡ Strayed k = sym runs ∙ ended in let z : ◌≡◌ {A = ℕ} 0 1 = cc in omega arith)

pub never_stopped : {P : Type 0} {stand : Stand} {k : ℕ} → stand ≡ Stopped k → stand ≡ Running → P
never_stopped {P} {stand} {k} ended runs = absurd (let e : Running ≡ Stopped k = sym runs ∙ ended in let z : ◌≡◌ {A = ℕ} 0 1 = cc in omega arith)
