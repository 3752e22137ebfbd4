-- The walk over the 4s and 5s of all threads.
-- Assumes nothing.
use mathlib.Core.Path.{◌≡◌, sym, ap, ◌∙◌, subst}
use Prim.Native.Nat.{ℕ, ◌+◌, ◌-◌, ◌≤◌, ◌<◌}
use mathlib.Core.List.{List, [], ◌++◌}
use native.Mathlib.Omega.{arith}
use native.Mathlib.Nat.{zero-add}
use native.Mathlib.Numerals.{add-one}
use lib.ListN.{get_or, set}
use Rattle.std.specs.Prelude.{Ok, Err}
use Rattle.model.specs.Limits.{most_threads}
use Rattle.model.specs.CaseFile.{Case, thread_count, chains, case_of, lines_of}
use Rattle.model.specs.Assignment.{Assignment, assignment_of}
use Rattle.model.specs.Table.{all_order_rows, all_value_rows}
use Rattle.laws.specs.Accepted.{Accepted}
use Rattle.laws.specs.Order.{Ordered}
use Rattle.laws.proofs.Chains.{thread_count_lem, threads_are}
use Rattle.laws.proofs.OrderRows.{order_of_all_rows}
use Rattle.laws.proofs.WithoutEights.{all_hold_without}
use Rattle.laws.proofs.Following.{chains_more, chains_end}
use Rattle.copies.specs.CopyChains.{CopyChains}
use Rattle.copies.proofs.CopyChains.{thread_start}
use Rattle.copies.proofs.CopyChains as copy_chains
use Rattle.search.proofs.Search.{Searching, searching_start, searching_end, searching_fits, searching_found, searching_more}
use Rattle.search.specs.declared.Failed.{Failed}
use Rattle.value_check.specs.declared.Walk.{Walk}
use Rattle.value_check.specs.Rows.{thread_values, all_values, ThreadOrdered, AllOrdered}
use Rattle.value_check.specs.Breaking.{breaking_in, first_breaking}
use Rattle.value_check.specs.Walked.{ThreadToAsk, ThreadAsked, AllToAsk, AllAsked}

-- Where all order constraints hold, each thread's block numbers are in order.
thread_ordered_lem : (bytes xs : List ℕ) → AllOrdered bytes xs → (t : ℕ) → t < thread_count bytes → ThreadOrdered bytes xs t
thread_ordered_lem bytes xs hold t h =
    subst (Ordered (case_of bytes) (assignment_of (case_of bytes) xs).block t 0) (threads_are bytes t h)
    (subst (λ (s : ℕ). Ordered (case_of bytes) (assignment_of (case_of bytes) xs).block s 0 (lines_of (case_of bytes) t)) (zero-add t)
    (order_of_all_rows (case_of bytes) (assignment_of (case_of bytes) xs) 0 (case_of bytes).threads
    (all_hold_without (case_of bytes) (assignment_of (case_of bytes) xs) (all_order_rows (case_of bytes) 0 (case_of bytes).threads) hold) t (omega (arith, thread_count_lem bytes))))

-- Before thread t, where the 4s and 5s of the threads before it hold.
pub record AllWalk (bytes xs : List ℕ) (start to : ℕ) (latest : List (List ℕ)) (previous : List ℕ) (walk : Walk) (t : ℕ) : Type 0 where
  pub upto : t ≤ to
  pub seeks : Searching bytes xs start (all_values bytes) walk.next (all_value_rows (case_of bytes) (chains bytes t (to - t)))
  pub copies : CopyChains (case_of bytes) latest previous t
  pub breaking : breaking_in (case_of bytes) (assignment_of (case_of bytes) xs) walk.broken (chains bytes t (to - t)) ≡ first_breaking bytes xs

module _ {bytes xs : List ℕ} {start : ℕ} {latest₀ : List (List ℕ)} {previous₀ : List ℕ} (ok : Accepted bytes) (pre : AllToAsk bytes xs start latest₀ previous₀)
    (to : ℕ) (e_t : to ≡ thread_count bytes) where
  abbrev case : Case
  case = case_of bytes

  abbrev α : Assignment
  α = assignment_of case xs

  pub all_start : AllWalk bytes xs start to latest₀ previous₀ (record { next = start; broken = 0 }) 0
  all_start =
      let z : to - 0 ≡ thread_count bytes = omega arith in
      record { upto = omega arith; seeks = searching_start bytes xs start _ _ pre.numbers.counted (rw z); copies = pre.chains; breaking = rw z }

  module _ {latest : List (List ℕ)} {previous : List ℕ} {walk : Walk} {t : ℕ} (v : AllWalk bytes xs start to latest previous walk t) where
    pub all_end : to ≤ t → AllAsked bytes xs start latest previous (Ok walk)
    unfolding all_value_rows breaking_in
    all_end h =
        let e : t ≡ thread_count bytes = omega (arith, v.upto) in
        record {
          found = searching_end v.seeks (ap (all_value_rows case) (chains_end bytes t to h));
          walked = record {
            chains = rw e at v.copies;
            breaking = sym (ap (breaking_in case α walk.broken) (chains_end bytes t to h)) ∙ v.breaking;
          };
        }

    module _ (h : t < to) where
      split : all_value_rows case (chains bytes t (to - t)) ≡ thread_values bytes t ++ all_value_rows case (chains bytes (t + 1) (to - (t + 1)))
      unfolding all_value_rows
      split = ap (all_value_rows case) (chains_more bytes t to h)

      pub all_low : t < most_threads
      all_low = omega (arith, ok.few_threads)

      pub all_next : ThreadToAsk bytes xs t walk.next (get_or latest t []) previous
      all_next =
          let few : t < thread_count bytes = omega arith in
          record {
            thread = few;
            numbers = searching_fits v.seeks pre.numbers (thread_values bytes t) _ split;
            chains = thread_start v.copies all_low;
            ordered = thread_ordered_lem bytes xs pre.ordered t few;
          }

      module _ {held previous' : List ℕ} where
        pub all_found : {f : Failed} → ThreadAsked bytes xs t walk held previous' (Err f) → AllAsked bytes xs start (set latest t held) previous' (Err f)
        all_found asked = record { found = searching_found v.seeks _ _ split asked.found; walked = tt }

        pub all_more : {r : Walk} → ThreadAsked bytes xs t walk held previous' (Ok r) → AllWalk bytes xs start to (set latest t held) previous' r (t + 1)
        unfolding breaking_in
        all_more asked = record {
          upto = omega arith;
          seeks = searching_more v.seeks _ _ split asked.found;
          copies = rw add-one (copy_chains.chains_next v.copies all_low asked.walked.chains);
          breaking = ap (λ (x : ℕ). breaking_in case α x (chains bytes (t + 1) (to - (t + 1)))) asked.walked.breaking
              ∙ sym (ap (breaking_in case α walk.broken) (chains_more bytes t to h)) ∙ v.breaking;
        }
