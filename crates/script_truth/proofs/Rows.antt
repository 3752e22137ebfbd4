-- The assertions of the rows, kind by kind: that of a 4 or a 5 is true exactly if the row holds where its line, if it was run, is in
-- one of its thread's blocks, that of the 7 where every line is, and the others whatever the assignment is.
-- Assumes nothing. Met again in Truth.
use mathlib.Core.Path.{◌≡◌, refl, sym, ap, ◌∙◌}
use mathlib.Core.Logic.{◌≢◌}
use Prim.Native.Nat.{ℕ, zero, suc, ◌+◌, ◌%◌, ◌≤◌, ◌<◌}
use mathlib.Core.Bool.{Bool, true, false, cond, not, ◌&&◌, ◌||◌, or_assoc}
use mathlib.Core.List.{List, [], ◌∷◌, ◌++◌, reverse}
use native.Mathlib.Omega.{arith}
use lib.Dec.{eqb}
use borrow.Author.Tests.{eq-eqb, ne_eqb}
use Rattle.model.specs.Limits.{local_count}
use Rattle.model.specs.CaseFile.{Line, Case, lines_of, item_count, line_at}
use Rattle.model.specs.declared.Kind.{Kind}
use Rattle.model.specs.declared.Kind.TheVariants.{Compute, Store, Load, Input, Assert, Assume, Lock, Unlock}
use Rattle.model.specs.Line.{no_name, item_name, guard_name, target_name, Reads, guard_true, holder, breaks}
use Rattle.model.specs.Assignment.{Assignment, assignment_of, was_run}
use Rattle.model.specs.Copies.{copy_of, reads_after, walk_back}
use Rattle.model.specs.Table.{Row, row, follow_row, stay_rows, line_order_rows, order_rows, value_row, demand_rows, value_rows, all_order_rows, all_value_rows, item_rows, block_rows, goal_row, without_eights}
use Rattle.model.specs.Holds.{reads_with, breaks_after, some_breaks, some_thread_breaks, holds}
use Rattle.smt.specs.Term.{constant, Formula, value, meets, tested, joined, result_of}
use Rattle.smt.specs.Script.{environment}
use Rattle.script.specs.Assertions.{value_assertion, mutex_reads, unlocks_as_stranger, or_breaks, assertion_of}
use Rattle.script.specs.Assertions
use Rattle.laws.specs.Order.{AllLines, AllThreads}
use Rattle.laws.proofs.Views.{EqView, same, diff, eq_view}
use Rattle.laws.proofs.RowReads.{guard_same, copy_reads}
use Rattle.laws.proofs.StayRows.{stay_rows_by}
use Rattle.script_truth.proofs.Links.{same_value}
use Rattle.script_truth.proofs.Reading.{OwnBlock, before_value}
use Rattle.script_truth.proofs.Fields.{Fields}
use Rattle.script_truth.proofs.Lines.{line_value, mutex_value, demand_value}

-- A line that its number finds, with fields that check 9 lets pass, in one of its thread's blocks if it was run.
pub record Placed (case : Case) (α : Assignment) (l : Line) : Type 0 where
  pub found : line_at case l.number ≡ l
  pub fields : Fields l
  pub own : α.block l.number ≢ suc case.n → OwnBlock case l.thread (α.block l.number)

-- Whether a line was run is asked before anything else.
or_where_run : (case : Case) (x : ℕ) (p q : Bool) → (x ≢ suc case.n → p ≡ q) → (eqb x (suc case.n) || p) ≡ (not (was_run case x) || q)
unfolding was_run
or_where_run case x p q run = go (eq_view x (suc case.n))
  where
    go : EqView x (suc case.n) → (eqb x (suc case.n) || p) ≡ (not (was_run case x) || q)
    go (same e asked) = rw asked refl
    go (diff e asked) = rw asked (run e)

value_where_run : (case : Case) (x v m unrun : ℕ) (p : Bool) → (x ≢ suc case.n → p ≡ eqb v m)
    → cond (eqb x (suc case.n)) (eqb v unrun) p ≡ eqb v (cond (was_run case x) m unrun)
unfolding was_run
value_where_run case x v m unrun p run = go (eq_view x (suc case.n))
  where
    go : EqView x (suc case.n) → cond (eqb x (suc case.n)) (eqb v unrun) p ≡ eqb v (cond (was_run case x) m unrun)
    go (same e asked) = rw asked refl
    go (diff e asked) = rw asked (run e)

-- "Guard true while the mutex does not read t + 1", said of the guard and of "t + 1 is what is read".
eqb_swapped : (x y : ℕ) → eqb x y ≡ eqb y x
eqb_swapped x y = go (eq_view x y)
  where
    go : EqView x y → eqb x y ≡ eqb y x
    go (same e q) = q ∙ sym (eq-eqb y x (sym e))
    go (diff e q) = q ∙ sym (ne_eqb y x (λ z. e (sym z)))

not_the_holder : (p : Bool) (x y : ℕ) → not (not p || eqb x y) ≡ (p && not (eqb y x))
not_the_holder true x y = ap not (eqb_swapped x y)
not_the_holder false x y = refl

module _ (case : Case) (xs sources : List ℕ) where
  abbrev env : ℕ → ℕ
  env = environment xs

  abbrev α : Assignment
  α = assignment_of case xs

  abbrev pub Agrees : Row → Type 0
  Agrees w = meets (assertion_of case sources w) env ≡ holds case α w

  abbrev pub AllAgree : List Row → Type 0
  AllAgree [] = Unit
  AllAgree (w ∷ ws) = Agrees w × AllAgree ws

  all_agree_append : (ws us : List Row) → AllAgree ws → AllAgree us → AllAgree (ws ++ us)
  all_agree_append [] us h g = g
  all_agree_append (w ∷ ws) us h g = (h.0, all_agree_append ws us h.1 g)

  pub all_agree_without : (ws : List Row) → AllAgree ws → AllAgree (without_eights ws)
  unfolding without_eights
  all_agree_without [] h = tt
  all_agree_without (w ∷ ws) h = go (eqb w.kind 8) (all_agree_without ws h.1)
    where
      go : (q : Bool) → AllAgree (without_eights ws) → AllAgree (cond q (without_eights ws) (w ∷ without_eights ws))
      go true rest = rest
      go false rest = (h.0, rest)

  -- ---- Constraints 1, 2, 3 and 8.
  module _ (some : 0 < case.T) where
    thread_agrees : (t : ℕ) (l : Line) → Agrees (row 3 l.number case.T t 0 0)
    unfolding assertion_of holds meets value tested joined result_of assignment_of
    thread_agrees t l = or_where_run case (α.block l.number) _ _ (λ run. rw (ne_eqb case.T 0 (λ e. omega arith)))

    stay_agrees : (earlier : List Line) (l : Line) → AllAgree (stay_rows earlier l)
    unfolding assertion_of holds meets value tested joined assignment_of
    stay_agrees earlier l = stay_rows_by AllAgree earlier l tt (λ before. (or_where_run case (α.block l.number) _ _ (λ run. refl), tt))

    follow_agrees : (l : Line) (ls : List Line) → Agrees (follow_row case l ls)
    unfolding follow_row assertion_of holds meets value tested assignment_of
    follow_agrees l [] = refl
    follow_agrees l (next ∷ ls) = refl

    line_order_agrees : (t : ℕ) (earlier : List Line) (l : Line) (ls : List Line) → AllAgree (line_order_rows case t earlier l ls)
    unfolding line_order_rows
    line_order_agrees t earlier l ls = (thread_agrees t l, all_agree_append (stay_rows earlier l) _ (stay_agrees earlier l) (follow_agrees l ls, tt))

    order_agrees : (t : ℕ) (earlier ls : List Line) → AllAgree (order_rows case t earlier ls)
    unfolding order_rows
    order_agrees t earlier [] = tt
    order_agrees t earlier (l ∷ ls) =
        all_agree_append (line_order_rows case t earlier l ls) _ (line_order_agrees t earlier l ls) (order_agrees t (l ∷ earlier) ls)

    pub all_order_agrees : (t : ℕ) (threads : List (List Line)) → AllAgree (all_order_rows case t threads)
    unfolding all_order_rows
    all_order_agrees t [] = tt
    all_order_agrees t (ls ∷ threads) = all_agree_append (order_rows case t [] ls) _ (order_agrees t [] ls) (all_order_agrees (suc t) threads)

  -- ---- Constraints 4 and 5.
  value_agrees : (earlier : List Line) (l : Line) → Placed case α l → Agrees (value_row case earlier l)
  unfolding assertion_of value_assertion holds meets value tested assignment_of
  value_agrees earlier l placed =
      rw placed.found (value_where_run case (α.block l.number) _ _ _ _
      (λ run. line_value case xs sources l placed.fields (placed.own run) _ _ _ _))

  demand_agrees : (kind : Kind) (earlier : List Line) (l : Line) → Placed case α l → AllAgree (demand_rows kind case earlier l)
  unfolding demand_rows assertion_of holds meets value tested joined assignment_of
  demand_agrees Compute earlier l placed = tt
  demand_agrees Store earlier l placed = tt
  demand_agrees Load earlier l placed = tt
  demand_agrees Input earlier l placed = tt
  demand_agrees Assert earlier l placed = tt
  demand_agrees Assume earlier l placed = (
    rw placed.found (or_where_run case (α.block l.number) _ _
        (λ run. demand_value case xs sources l placed.fields (placed.own run) 0 0 l.kind)),
    tt,
  )
  demand_agrees Lock earlier l placed = (
    rw placed.found (or_where_run case (α.block l.number) _ _
        (λ run. demand_value case xs sources l placed.fields (placed.own run) _ _ l.kind)),
    tt,
  )
  demand_agrees Unlock earlier l placed = tt

  values_agree : (earlier ls : List Line) → AllLines (Placed case α) ls → AllAgree (value_rows case earlier ls)
  unfolding value_rows
  values_agree earlier [] all = tt
  values_agree earlier (l ∷ ls) all = (
    value_agrees earlier l all.0,
    all_agree_append (demand_rows l.kind case earlier l) _ (demand_agrees l.kind earlier l all.0) (values_agree (l ∷ earlier) ls all.1),
  )

  pub all_values_agree : (threads : List (List Line)) → AllThreads (Placed case α) threads → AllAgree (all_value_rows case threads)
  unfolding all_value_rows
  all_values_agree [] all = tt
  all_values_agree (ls ∷ threads) all = all_agree_append (value_rows case [] ls) _ (values_agree [] ls all.0) (all_values_agree threads all.1)

  -- ---- Constraint 6.
  walk_value : (i g : ℕ) (ls : List Line) → meets (Assertions.walk_back case sources i g ls) env ≡ eqb (α.block_value i g) (walk_back case α i g ls)
  unfolding Assertions.walk_back walk_back meets value tested assignment_of
  walk_value i g [] = same_value env sources (Assertions.block_value case i g) _ ∙ ap (eqb (α.block_value i g)) (before_value case xs i g)
  walk_value i g (l ∷ ls) = go (eq_view (target_name case.G l) (item_name g)) (walk_value i g ls)
    where
      by_block : (here : Bool) (f : Formula) (n : ℕ) → meets f env ≡ eqb (α.block_value i g) n
          → cond here (meets (Assertions.same sources (Assertions.block_value case i g) (Assertions.value_of l.number)) env) (meets f env)
          ≡ eqb (α.block_value i g) (cond here (α.value l.number) n)
      by_block true f n rest = same_value env sources (Assertions.block_value case i g) (Assertions.value_of l.number)
      by_block false f n rest = rest

      go : EqView (target_name case.G l) (item_name g)
          → meets (Assertions.walk_back case sources i g ls) env ≡ eqb (α.block_value i g) (walk_back case α i g ls)
          → meets (Assertions.walk_back case sources i g (l ∷ ls)) env ≡ eqb (α.block_value i g) (walk_back case α i g (l ∷ ls))
      go (same e q) rest = rw q (by_block (eqb (α.block l.number) i) (Assertions.walk_back case sources i g ls) (walk_back case α i g ls) rest)
      go (diff e q) rest = rw q rest

  items_agree : (lines : List Line) (i g many : ℕ) → AllAgree (item_rows case lines i g many)
  unfolding item_rows assertion_of holds
  items_agree lines i g zero = tt
  items_agree lines i g (suc many) = (walk_value i g _, items_agree lines i (suc g) many)

  pub blocks_agree : (i many : ℕ) → AllAgree (block_rows case i many)
  unfolding block_rows
  blocks_agree i zero = tt
  blocks_agree i (suc many) =
      all_agree_append (item_rows case (reverse (lines_of case (i % case.T))) i 0 (item_count case)) _
      (items_agree _ i 0 (item_count case)) (blocks_agree (suc i) many)

  -- ---- Constraint 7.
  module _ (few : local_count + item_count case ≤ no_name) where
    stranger_value : (earlier : List Line) (l : Line) → Placed case α l
        → meets (unlocks_as_stranger case sources l (copy_of case.G (guard_name l) earlier) (copy_of case.G (target_name case.G l) earlier)) env
        ≡ breaks (was_run case (α.block l.number)) Unlock l (reads_after case α earlier l) (α.value l.number)
    unfolding unlocks_as_stranger breaks was_run meets value tested joined assignment_of
    stranger_value earlier l placed = go (eq_view (α.block l.number) (suc case.n))
      where
        guard : ℕ
        guard = copy_of case.G (guard_name l) earlier

        target : ℕ
        target = copy_of case.G (target_name case.G l) earlier

        reads : Reads
        reads = reads_with case α l guard 0 0 target

        after : Reads
        after = reads_after case α earlier l

        unheld : Bool
        unheld = not (not (guard_true l reads) || eqb (holder l) reads.target)

        go : EqView (α.block l.number) (suc case.n)
            → not (eqb (α.block l.number) (suc case.n) || meets (mutex_reads case sources (constant (holder l)) l guard target) env)
            ≡ (not (eqb (α.block l.number) (suc case.n)) && (guard_true l after && not (eqb after.target (holder l))))
        go (same e asked) = rw asked refl
        go (diff e asked) =
            rw (
              asked,
              mutex_value case xs sources l placed.fields (placed.own e) guard target (holder l),
              guard_same l reads after (copy_reads case few α (α.block l.number) earlier (guard_name l)),
              copy_reads case few α (α.block l.number) earlier (target_name case.G l),
            )
            (not_the_holder (guard_true l after) (holder l) after.target)

    or_break : (kind : Kind) (earlier : List Line) (l : Line) (others : Formula) → Placed case α l
        → meets (or_breaks kind case sources earlier l others) env
        ≡ (breaks (was_run case (α.block l.number)) kind l (reads_after case α earlier l) (α.value l.number) || meets others env)
    unfolding or_breaks breaks meets value tested joined assignment_of
    or_break Compute earlier l others placed = refl
    or_break Store earlier l others placed = refl
    or_break Load earlier l others placed = refl
    or_break Input earlier l others placed = refl
    or_break Assert earlier l others placed = refl
    or_break Assume earlier l others placed = refl
    or_break Lock earlier l others placed = refl
    or_break Unlock earlier l others placed = ap (λ (p : Bool). p || meets others env) (stranger_value earlier l placed)

    some_break : (earlier ls : List Line) (others : Formula) → AllLines (Placed case α) ls
        → meets (Assertions.some_breaks case sources earlier ls others) env ≡ (some_breaks case α earlier ls || meets others env)
    unfolding Assertions.some_breaks some_breaks
    some_break earlier [] others all = refl
    some_break earlier (l ∷ ls) others all =
        or_break l.kind earlier l (Assertions.some_breaks case sources (l ∷ earlier) ls others) all.0
        ∙ ap (λ (p : Bool). breaks_after case α earlier l || p) (some_break (l ∷ earlier) ls others all.1)
        ∙ sym (or_assoc (breaks_after case α earlier l) (some_breaks case α (l ∷ earlier) ls) (meets others env))

    some_thread_break : (threads : List (List Line)) → AllThreads (Placed case α) threads
        → meets (Assertions.some_thread_breaks case sources threads) env ≡ some_thread_breaks case α threads
    unfolding Assertions.some_thread_breaks some_thread_breaks meets
    some_thread_break [] all = refl
    some_thread_break (ls ∷ threads) all =
        some_break [] ls (Assertions.some_thread_breaks case sources threads) all.0
        ∙ ap (λ (p : Bool). some_breaks case α [] ls || p) (some_thread_break threads all.1)

    pub goal_agrees : AllThreads (Placed case α) case.threads → Agrees goal_row
    unfolding assertion_of holds
    goal_agrees all = some_thread_break case.threads all
