-- Where a run starts: the code's arrays hold the machine's first state.
-- Assumes nothing.
use mathlib.Core.Path.{◌≡◌, refl, sym, ap, ap₂, ◌∙◌, subst}
use Prim.Native.Nat.{ℕ, zero, suc, ◌+◌, ◌-◌, ◌%◌, ◌≤◌, ◌<◌}
use mathlib.Core.List.{List, ◌∷◌, ◌++◌}
use native.Mathlib.Omega.{arith}
use native.Mathlib.Nat.{mod-lt}
use lib.ListN.{length, take, replicate}
use lib.Seq.{take-append-add}
use Rattle.model.specs.Limits.{most_threads, most_items, local_count}
use Rattle.model.specs.Lists.{numbers_from}
use Rattle.model.specs.CaseFile.{Line, records, thread_count, global_count, mutex_count, initial_value, chains, case_of}
use Rattle.model.specs.Machine.{State, start, Outcome, run, run_blocks}
use Rattle.laws.specs.Accepted.{Accepted, thread_lines, lines_from}
use Rattle.laws.proofs.Ranges.{length_numbers_from}
use Rattle.case_file.specs.FirstItems.{first_items}
use Rattle.turn.specs.TurnState.{items_of, given_by}
use Rattle.run.specs.declared.Thread.{Thread}
use Rattle.run.specs.declared.Shared.{Shared}
use Rattle.run.specs.declared.Ended.{Ended}
use Rattle.run.specs.RunState.{thread_at, list_from, rest_at, state_of, first_thread, first_threads, first_shared}
use Rattle.run.specs.Promises.{RunReady, outcome_from, Replies, AtTheEnd, whole_trace}
use Rattle.run.proofs.Runs.{list_from_same}

pub take_zeros : (m n : ℕ) → m ≤ n → take {A = ℕ} m (replicate n 0) ≡ replicate m 0
take_zeros zero n h = refl
take_zeros (suc m) zero h = absurd (omega arith)
take_zeros (suc m) (suc n) h = ap (λ (xs : List ℕ). 0 ∷ xs) (take_zeros m n (omega arith))

module _ (bytes : List ℕ) where
  module _ (ok : Accepted bytes) where
    items_start : items_of bytes (first_items bytes (global_count bytes)) ≡ (case_of bytes).initial
    unfolding first_items
    items_start =
        let globals = numbers_from (initial_value bytes) 0 (global_count bytes) in
        let zeros : List ℕ = replicate (most_items - global_count bytes) 0 in
        ap (λ (x : ℕ). take (x + mutex_count bytes) (globals ++ zeros)) (sym (length_numbers_from (initial_value bytes) 0 (global_count bytes)))
        ∙ take-append-add globals zeros (mutex_count bytes)
        ∙ ap (λ (xs : List ℕ). globals ++ xs) (take_zeros (mutex_count bytes) (most_items - global_count bytes) (omega (arith, ok.few_globals, ok.few_mutexes)))

    thread_start : (t : ℕ) → t < thread_count bytes → thread_at (first_threads bytes) t ≡ first_thread bytes t
    thread_start t h = go t (omega (arith, h, ok.few_threads))
      where
        go : (u : ℕ) → u < most_threads → thread_at (first_threads bytes) u ≡ first_thread bytes u
        go zero b = refl
        go (suc zero) b = refl
        go (suc (suc zero)) b = refl
        go (suc (suc (suc zero))) b = refl
        go (suc (suc (suc (suc u)))) b = absurd (omega arith)

    pub thread_below : (i : ℕ) → i % thread_count bytes < most_threads
    thread_below i = let some : 0 < thread_count bytes = omega (arith, ok.some_threads) in omega (arith, mod-lt i some, ok.few_threads)

    chains_list : (t many : ℕ) → chains bytes t many ≡ list_from (thread_lines bytes) t many
    unfolding chains list_from
    chains_list t zero = refl
    chains_list t (suc many) = ap (λ (ls : List (List Line)). thread_lines bytes t ∷ ls) (chains_list (suc t) many)

    same_lists : {A : Type 0} (x : A) (t many : ℕ) → replicate many x ≡ list_from (λ u. x) t many
    unfolding list_from
    same_lists x t zero = refl
    same_lists x t (suc many) = ap (λ xs. x ∷ xs) (same_lists x (suc t) many)

    state_start : state_of bytes (first_threads bytes) (first_items bytes (global_count bytes)) ≡ start (case_of bytes)
    state_start = λ i. record {
      rests = (list_from_same (thread_lines bytes) (rest_at bytes (first_threads bytes)) 0 (thread_count bytes)
          (λ t low high. ap (λ (x : Thread). lines_from bytes t x.next) (thread_start t (omega (arith, high))))
          ∙ sym (chains_list 0 (thread_count bytes))) i;
      locals = (list_from_same (λ u. replicate local_count 0) (λ u. (thread_at (first_threads bytes) u).locals) 0 (thread_count bytes)
          (λ t low high. ap (λ (x : Thread). x.locals) (thread_start t (omega (arith, high))))
          ∙ sym (same_lists (replicate local_count 0) 0 (thread_count bytes))) i;
      items = items_start i;
    }

    pub ready_start : (givens : List ℕ) → records bytes < length givens → RunReady bytes givens (first_threads bytes)
    ready_start givens all_given = record {
      all_given = all_given;
      within = λ t h. omega (arith, ap (λ (x : Thread). x.next) (thread_start t h), ok.firsts t h);
      has_all = refl;
    }

    module _ (givens lengths : List ℕ) (threads : List Thread) (shared : Shared) (are_threads : threads ≡ first_threads bytes) (is_shared : shared ≡ first_shared bytes) where
      comes_from_start : outcome_from bytes givens 0 lengths threads shared ≡ run (case_of bytes) lengths (given_by givens)
      unfolding run
      comes_from_start =
          ap₂ (outcome_from bytes givens 0 lengths) are_threads is_shared ∙ ap (λ (x : State). run_blocks (case_of bytes) (given_by givens) 0 lengths x 0) state_start

      pub run_replies : (e : Ended) → Replies bytes (outcome_from bytes givens 0 lengths threads shared) e → Replies bytes (run (case_of bytes) lengths (given_by givens)) e
      run_replies e replies = subst (λ (x : Outcome). Replies bytes x e) comes_from_start replies

      pub run_traced : (trace trace' : List ℕ)
          → AtTheEnd (outcome_from bytes givens 0 lengths threads shared) (λ left. trace' ≡ whole_trace bytes givens lengths (state_of bytes threads shared.items) trace left)
          → AtTheEnd (run (case_of bytes) lengths (given_by givens)) (λ left. trace' ≡ whole_trace bytes givens lengths (start (case_of bytes)) trace left)
      run_traced trace trace' traced =
          let from_start : state_of bytes threads shared.items ≡ start (case_of bytes) =
          ap₂ (λ (x : List Thread) (y : Shared). state_of bytes x y.items) are_threads is_shared ∙ state_start in
          subst (λ (x : State). AtTheEnd (run (case_of bytes) lengths (given_by givens)) (λ left. trace' ≡ whole_trace bytes givens lengths x trace left)) from_start
          (subst (λ (x : Outcome). AtTheEnd x (λ left. trace' ≡ whole_trace bytes givens lengths (state_of bytes threads shared.items) trace left)) comes_from_start traced)
