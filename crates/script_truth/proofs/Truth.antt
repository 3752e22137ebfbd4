-- The assertions of an accepted case's script are true of an assignment exactly where the rows of its table hold: row by row where the
-- rows before hold, the first that is false is the first row that fails, and all are true exactly if the checker says yes. So it is
-- without the 8s.
-- Assumes nothing. Met again in Filed.
use Rattle.std.specs.Prelude.{Ok}
use mathlib.Core.Path.{◌≡◌, refl, sym, ◌∙◌}
use mathlib.Core.Logic.{◌↔◌}
use Prim.Native.Nat.{ℕ, suc, ◌≤◌}
use mathlib.Core.Bool.{Bool, true, false, cond}
use mathlib.Core.List.{List, [], ◌∷◌, ◌++◌, append_assoc}
use native.Mathlib.Omega.{arith}
use native.Mathlib.Nat.{zero-add}
use lib.ListN.{length}
use Rattle.model.specs.CaseFile.{Line, Case, case_of, lines_of, line_at}
use Rattle.model.specs.Accept.{verdict}
use Rattle.model.specs.Assignment.{Assignment, variables, assignment_of}
use Rattle.model.specs.Table.{Row, all_order_rows, all_value_rows, block_rows, run_rows, goal_row, table, without_eights}
use Rattle.model.specs.Holds.{holds, first_failing}
use Rattle.model.specs.Answers.{checked}
use Rattle.model.specs.declared.Checked.TheVariants.{Meets}
use Rattle.smt.specs.Term.{Formula, meets}
use Rattle.smt.specs.Script.{Script, environment, all_meet, first_false, script_true}
use Rattle.script.specs.Assertions.{assertions_of, sources_of, script_of}
use Rattle.laws.specs.Accepted.{Accepted}
use Rattle.laws.specs.AllHold.{AllHold}
use Rattle.laws.specs.Order.{AllLines, AllThreads, Ordered}
use Rattle.laws.proofs.Accepted.{accepted_of}
use Rattle.laws.proofs.AllHold.{none_fails, all_hold_none_fails}
use Rattle.laws.proofs.AllLines.{all_threads_lem}
use Rattle.laws.proofs.LineFound.{line_found}
use Rattle.laws.proofs.Lines.{numbers_once}
use Rattle.laws.proofs.OrderRows.{order_of_all_rows}
use Rattle.laws.proofs.Views.{and-true, true_and}
use Rattle.laws.proofs.WithoutEights.{without_append, all_hold_without, all_values_without, blocks_without}
use Rattle.correspondence.proofs.Replies.{passes_of_meets, meets_of_passes}
use Rattle.correspondence.proofs.WellFormed.{all_lines_by}
use Rattle.script_truth.specs.Agreement.{EachAgrees}
use Rattle.script_truth.specs.Filed.{script_without_eights}
use Rattle.script_truth.proofs.Fields.{Fields, record_fields}
use Rattle.script_truth.proofs.Rows.{Placed, AllAgree, all_agree_without, all_order_agrees, all_values_agree, blocks_agree, goal_agrees}

-- ---- Rows and assertions, side by side.
module _ (case : Case) (α : Assignment) (env : ℕ → ℕ) where
  first_false_is_first_failing : (k : ℕ) (ws : List Row) (fs : List Formula) → EachAgrees case α env ws fs
      → first_false env k fs ≡ first_failing case α k ws
  unfolding first_false first_failing
  first_false_is_first_failing k [] [] h = refl
  first_false_is_first_failing k [] (f ∷ fs) h = absurd h
  first_false_is_first_failing k (w ∷ ws) [] h = absurd h
  first_false_is_first_failing k (w ∷ ws) (f ∷ fs) h = rw h.0 (go (holds case α w) refl (λ e. first_false_is_first_failing (suc k) ws fs (h.1 e)))
    where
      go : (q : Bool) → holds case α w ≡ q → (holds case α w ≡ true → first_false env (suc k) fs ≡ first_failing case α (suc k) ws)
          → cond q (first_false env (suc k) fs) k ≡ cond q (first_failing case α (suc k) ws) k
      go true e rest = rest e
      go false e rest = refl

  all_hold_of_all_meet : (ws : List Row) (fs : List Formula) → EachAgrees case α env ws fs → all_meet fs env ≡ true → AllHold case α ws
  unfolding all_meet
  all_hold_of_all_meet [] fs h met = tt
  all_hold_of_all_meet (w ∷ ws) [] h met = absurd h
  all_hold_of_all_meet (w ∷ ws) (f ∷ fs) h met =
      let both = and-true (meets f env) (all_meet fs env) met in
      let here : holds case α w ≡ true = sym h.0 ∙ both.first in
      (here, all_hold_of_all_meet ws fs (h.1 here) both.rest)

  all_meet_of_all_hold : (ws : List Row) (fs : List Formula) → EachAgrees case α env ws fs → AllHold case α ws → all_meet fs env ≡ true
  unfolding all_meet
  all_meet_of_all_hold [] [] h hold = refl
  all_meet_of_all_hold [] (f ∷ fs) h hold = absurd h
  all_meet_of_all_hold (w ∷ ws) [] h hold = absurd h
  all_meet_of_all_hold (w ∷ ws) (f ∷ fs) h hold =
      true_and (meets f env) (all_meet fs env) (h.0 ∙ hold.0) (all_meet_of_all_hold ws fs (h.1 hold.0) hold.1)

module _ (case : Case) (xs sources : List ℕ) where
  abbrev Each : List Row → Type 0
  Each ws = EachAgrees case (assignment_of case xs) (environment xs) ws (assertions_of case sources ws)

  -- Rows that agree whatever holds, and then rows that agree where those hold.
  each_then : (ws us : List Row) → AllAgree case xs sources ws → (AllHold case (assignment_of case xs) ws → Each us) → Each (ws ++ us)
  unfolding assertions_of
  each_then [] us all later = later tt
  each_then (w ∷ ws) us all later = (all.0, λ e. each_then ws us all.1 (λ rest. later (e, rest)))

-- ---- An accepted case.
-- The lines of thread t have its number, and fields that check 9 lets pass.
record OfThread (t : ℕ) (l : Line) : Type 0 where
  thread : l.thread ≡ t
  fields : Fields l

all_placed : (case : Case) (α : Assignment) (t low : ℕ) (ls : List Line) → AllLines (λ l. line_at case l.number ≡ l) ls → AllLines (OfThread t) ls
    → Ordered case α.block t low ls → AllLines (Placed case α) ls
all_placed case α t low [] found known ordered = tt
all_placed case α t low (l ∷ ls) found known ordered = (
  record {
    found = found.0;
    fields = known.0.fields;
    own = λ run. let upto : α.block l.number ≤ case.n = omega (arith, ordered.0.upto, run) in
        record { upto = upto; mine = ordered.0.mine upto ∙ sym known.0.thread };
  },
  all_placed case α t (α.block l.number) ls found.1 known.1 ordered.1,
)

module _ (bytes : List ℕ) (accepted : verdict bytes ≡ Ok tt) (xs : List ℕ) where
  abbrev case : Case
  case = case_of bytes

  abbrev α : Assignment
  α = assignment_of case xs

  ok : Accepted bytes
  ok = accepted_of bytes accepted

  abbrev orders : List Row
  orders = all_order_rows case 0 case.threads

  abbrev values : List Row
  values = all_value_rows case case.threads

  abbrev blocks : List Row
  blocks = block_rows case 0 case.n

  placed_of_rows : AllHold case α (without_eights orders) → AllThreads (Placed case α) case.threads
  placed_of_rows hold = all_threads_lem (Placed case α) case.threads (λ t few.
      all_placed case α t 0 (lines_of case t) (line_found case (numbers_once bytes ok) t)
      (all_lines_by bytes ok (OfThread t) t (λ k thread low high. record { thread = refl; fields = record_fields bytes ok t k low high }))
      (rw (zero-add t) at (order_of_all_rows case α 0 case.threads hold t few)))

  orders_agree : AllAgree case xs (sources_of case) orders
  orders_agree = all_order_agrees case xs (sources_of case) (omega (arith, ok.some_threads)) 0 case.threads

  -- The rows behind those of the order, which place the lines.
  each_behind : (first : List Row) → AllAgree case xs (sources_of case) first → (AllHold case α first → AllThreads (Placed case α) case.threads)
      → Each case xs (sources_of case) ((first ++ (values ++ blocks)) ++ (goal_row ∷ []))
  unfolding assertions_of
  each_behind first agree placed =
      let sources = sources_of case in
      rw (append_assoc first (values ++ blocks) (goal_row ∷ []), append_assoc values blocks (goal_row ∷ []))
      (each_then case xs sources first (values ++ (blocks ++ (goal_row ∷ []))) agree
      (λ hold. each_then case xs sources values (blocks ++ (goal_row ∷ [])) (all_values_agree case xs sources case.threads (placed hold))
      (λ hold'. each_then case xs sources blocks (goal_row ∷ []) (blocks_agree case xs sources 0 case.n)
      (λ hold''. (goal_agrees case xs sources (omega (arith, ok.few_globals, ok.few_mutexes)) (placed hold), λ e. tt)))))

  pub each_assertion_agrees : EachAgrees case α (environment xs) (table case) (script_of case).assertions
  unfolding script_of table run_rows
  each_assertion_agrees = each_behind orders orders_agree (λ hold. placed_of_rows (all_hold_without case α orders hold))

  each_without_agrees : Each case xs (sources_of case) (without_eights (table case))
  unfolding table run_rows without_eights
  each_without_agrees =
      rw (
        without_append (orders ++ (values ++ blocks)) (goal_row ∷ []),
        without_append orders (values ++ blocks),
        without_append values blocks,
        all_values_without case case.threads,
        blocks_without case 0 case.n,
      )
      (each_behind (without_eights orders) (all_agree_without case xs (sources_of case) orders orders_agree) placed_of_rows)

  pub first_false_is_first_row : first_false (environment xs) 1 (script_of case).assertions ≡ first_failing case α 1 (table case)
  first_false_is_first_row = first_false_is_first_failing case α (environment xs) 1 (table case) (script_of case).assertions each_assertion_agrees

  true_is_rows : (ws : List Row) (script : Script) → EachAgrees case α (environment xs) ws script.assertions
      → (script_true script xs ≡ true) ↔ AllHold case α ws
  unfolding script_true
  true_is_rows ws script agree =
      (all_hold_of_all_meet case α (environment xs) ws script.assertions agree, all_meet_of_all_hold case α (environment xs) ws script.assertions agree)

  pub true_is_every_row : (script_true (script_of case) xs ≡ true) ↔ AllHold case α (table case)
  true_is_every_row = true_is_rows (table case) (script_of case) each_assertion_agrees

  pub true_without_is_rows : (script_true (script_without_eights case) xs ≡ true) ↔ AllHold case α (without_eights (table case))
  true_without_is_rows = true_is_rows (without_eights (table case)) (script_without_eights case) each_without_agrees

  pub true_is_yes : length xs ≡ variables case → (script_true (script_of case) xs ≡ true) ↔ (checked bytes xs ≡ Ok Meets)
  true_is_yes sized = (
    (λ told. meets_of_passes bytes xs (record {
      accepted = accepted;
      has_size = sized;
      none_failed = all_hold_none_fails case α 1 (table case) (true_is_every_row.0 told);
    })),
    (λ met. true_is_every_row.1 (none_fails case α 1 (table case) (passes_of_meets bytes xs met).none_failed (omega arith))),
  )
