-- Five: a schedule keeps the rule just where the invisible lines of its assignment stay in the blocks of the lines before them.
-- Assumes nothing. Met again in Demand3.
use mathlib.Core.Path.{◌≡◌, refl, sym, ap, ◌∙◌, subst}
use Prim.Native.Nat.{ℕ, zero, suc, ◌+◌, ◌%◌, ◌≤◌}
use mathlib.Core.Bool.{Bool, true, false, cond, not, ◌&&◌, true≢false}
use mathlib.Core.List.{List, [], ◌∷◌, ◌++◌, map}
use native.Mathlib.Omega.{arith}
use native.Mathlib.Nat.{zero-add, add-zero}
use lib.Dec.{ltb, eqb}
use lib.ListN.{get_or, length}
use Rattle.model.specs.CaseFile.{Line, Case, lines_of}
use Rattle.model.specs.Line.{visible, late}
use Rattle.model.specs.Assignment.{Assignment, assignment_of}
use Rattle.model.specs.Machine.{Memory, State, stepped, start, rest_in, memory_in}
use Rattle.model.specs.Schedule.{schedule_size, block_lengths, given_in, decode}
use Rattle.model.specs.Runs.{Step, block_steps, next_state, course, last_state, course_of, thread_steps, NoneLate, KeepsRule}
use Rattle.laws.specs.Order.{AllLines, AllThreads, Positive, Ordered, Stays}
use Rattle.laws.proofs.Views.{LtView, below, above, lt_view}
use Rattle.laws.proofs.Unrun.{run_within_blocks, unrun_past_blocks}
use Rattle.laws.proofs.AllLines.{each_thread}
use Rattle.correspondence.specs.Meaning.{WellFormed, Meets, AllStay}
use Rattle.model.specs.Fill.{fill, late_after, late_in}
use Rattle.correspondence.proofs.Order.{HasBlock, NextIn}
use Rattle.correspondence.proofs.Blocks.{BlocksNext}
use Rattle.correspondence.proofs.Runs.{RunsAs, run_of_assignment}
use Rattle.correspondence.proofs.Claims.{FinishesRun, decodes_to_own, meets_of_run}
use Rattle.correspondence.proofs.RunEnds.{run_and_left}

abbrev pub lines_in : List Step → List Line
lines_in steps = map (λ s. s.line) steps

first_lines : (P : Line → Type 0) (ls left : List Line) → AllLines P (ls ++ left) → AllLines P ls
first_lines P [] left all = tt
first_lines P (l ∷ ls) left all = (all.0, first_lines P ls left all.1)

-- The record of a thread's first late step; `others` where it has none.
abbrev pub late_of : List Step → ℕ → ℕ
late_of [] others = others
late_of (before ∷ []) others = others
late_of (before ∷ (s ∷ steps)) others =
    cond (late s.line.kind before.block s.block) s.line.number (late_of (s ∷ steps) others)

module _ (case : Case) (α : Assignment) where
  -- The line of a step has the step's block as its number.
  record HasNumber (s : Step) : Type 0 where
    number : α.block s.line.number ≡ s.block
    within : s.block ≤ case.n

  abbrev AllNumbered : List Step → Type 0
  AllNumbered [] = Unit
  AllNumbered (s ∷ steps) = HasNumber s × AllNumbered steps

  numbered_append : (xs ys : List Step) → AllNumbered xs → AllNumbered ys → AllNumbered (xs ++ ys)
  numbered_append [] ys a b = b
  numbered_append (s ∷ xs) ys a b = (a.0, numbered_append xs ys a.1 b)

  numbered_thread : (t : ℕ) (steps : List Step) → AllNumbered steps → AllNumbered (thread_steps case t steps)
  numbered_thread t [] a = tt
  numbered_thread t (s ∷ steps) a = go (eqb t (s.block % case.T)) (numbered_thread t steps a.1)
    where
      go : (q : Bool) → AllNumbered (thread_steps case t steps) → AllNumbered (cond q (s ∷ thread_steps case t steps) (thread_steps case t steps))
      go true rest = (a.0, rest)
      go false rest = rest

  module _ (given : ℕ → ℕ) where
    block_numbered : (i steps : ℕ) (ls : List Line) (m : Memory) → i ≤ case.n → NextIn α.block i steps ls → AllNumbered (block_steps case given i steps ls m)
    block_numbered i zero ls m few next = tt
    block_numbered i (suc steps) [] m few next = tt
    block_numbered i (suc steps) (l ∷ ls) m few next =
        (record { number = next.0; within = few }, block_numbered i steps ls (stepped case given l m) few next.1)

    course_numbered : (i : ℕ) (lens : List ℕ) (s : State) → i + length lens ≡ suc case.n → BlocksNext case α i lens s.rests
        → AllNumbered (course case given i lens s)
    course_numbered i [] s last next = tt
    course_numbered i (len ∷ lens) s last next =
        numbered_append (block_steps case given i len (rest_in case i s) (memory_in case i s)) (course case given (suc i) lens (next_state case given i len s))
        (block_numbered i len (rest_in case i s) (memory_in case i s) (omega arith) next.0)
        (course_numbered (suc i) lens (next_state case given i len s) (omega arith) next.1)

    left_numbered : (i : ℕ) (lens : List ℕ) (s : State) → i + length lens ≡ suc case.n → BlocksNext case α i lens s.rests
        → AllThreads (HasBlock α.block (suc case.n)) (last_state case given i lens s).rests
    left_numbered i [] s last next = subst (λ (x : ℕ). AllThreads (HasBlock α.block x) s.rests) (sym (add-zero i) ∙ last) next
    left_numbered i (len ∷ lens) s last next = left_numbered (suc i) lens (next_state case given i len s) (omega arith) next.1

  -- ---- Along one thread: its steps, and the lines that are left of it.
  unrun_stay : (earlier left : List Line) → AllLines (HasBlock α.block (suc case.n)) left → Stays case α.block earlier left
  unrun_stay earlier [] unrun = tt
  unrun_stay [] (l ∷ left) unrun = (tt, unrun_stay (l ∷ []) left unrun.1)
  unrun_stay (before ∷ earlier) (l ∷ left) unrun = (
    (λ unseen was_run_lem. absurd (true≢false (sym was_run_lem ∙ unrun_past_blocks case (α.block l.number) unrun.0))),
    unrun_stay (l ∷ (before ∷ earlier)) left unrun.1,
  )

  not_late : (x y : ℕ) (seen : Bool) → (not seen && ltb x y) ≡ false → seen ≡ false → y ≤ x
  not_late x y seen e unseen = go (lt_view x y)
    where
      go : LtView x y → y ≤ x
      go (below h q) = absurd (true≢false (rw (unseen, q) at e))
      go (above h q) = h

  late_not : (x y : ℕ) (seen : Bool) → (seen ≡ false → y ≡ x) → (not seen && ltb x y) ≡ false
  late_not x y true h = refl
  late_not x y false h = go (lt_view x y)
    where
      go : LtView x y → ltb x y ≡ false
      go (below less q) = absurd (omega (arith, h refl))
      go (above more q) = q

  stays_after : (t : ℕ) (before : Step) (earlier : List Line) (steps : List Step) (left : List Line) → HasNumber before → AllNumbered steps
      → AllLines (HasBlock α.block (suc case.n)) left → Ordered case α.block t (α.block before.line.number) (lines_in steps ++ left)
      → NoneLate (before ∷ steps) → Stays case α.block (before.line ∷ earlier) (lines_in steps ++ left)
  stays_after t before earlier [] left own numbered unrun ordered none = unrun_stay (before.line ∷ earlier) left unrun
  stays_after t before earlier (s ∷ steps) left own numbered unrun ordered none = (
    (λ unseen was_run_lem. omega (
      arith,
      own.number,
      numbered.0.number,
      ordered.0.from,
      not_late before.block s.block (visible s.line.kind) none.0 unseen,
    )),
    stays_after t s (before.line ∷ earlier) steps left numbered.0 numbered.1 unrun ordered.1 none.1,
  )

  none_late_after : (before : Step) (earlier : List Line) (steps : List Step) (left : List Line) → HasNumber before → AllNumbered steps
      → Stays case α.block (before.line ∷ earlier) (lines_in steps ++ left) → NoneLate (before ∷ steps)
  none_late_after before earlier [] left own numbered stays = tt
  none_late_after before earlier (s ∷ steps) left own numbered stays = (
    late_not before.block s.block (visible s.line.kind) (λ unseen. sym numbered.0.number
        ∙ stays.0 unseen (run_within_blocks case _ (omega (arith, numbered.0.number, numbered.0.within))) ∙ own.number),
    none_late_after s (before.line ∷ earlier) steps left numbered.0 numbered.1 stays.1,
  )

  thread_stays : (t : ℕ) (steps : List Step) (left : List Line) → AllNumbered steps → AllLines (HasBlock α.block (suc case.n)) left
      → Ordered case α.block t 0 (lines_in steps ++ left) → NoneLate steps → Stays case α.block [] (lines_in steps ++ left)
  thread_stays t [] left numbered unrun ordered none = unrun_stay [] left unrun
  thread_stays t (s ∷ steps) left numbered unrun ordered none =
      (tt, stays_after t s [] steps left numbered.0 numbered.1 unrun ordered.1 none)

  thread_keeps : (steps : List Step) (left : List Line) → AllNumbered steps → Stays case α.block [] (lines_in steps ++ left) → NoneLate steps
  thread_keeps [] left numbered stays = tt
  thread_keeps (s ∷ steps) left numbered stays = none_late_after s [] steps left numbered.0 numbered.1 stays.1

  -- ---- Six: a thread's late lines by their block numbers are its late steps; what is left of it has none.
  late_after_left : (before : Line) (left : List Line) (others : ℕ) → AllLines (HasBlock α.block (suc case.n)) left
      → late_after case α.block before left others ≡ others
  unfolding late_after
  late_after_left before [] others unrun = refl
  late_after_left before (l ∷ left) others unrun = rw (unrun_past_blocks case (α.block l.number) unrun.0) (late_after_left l left others unrun.1)

  late_after_steps : (before : Step) (steps : List Step) (left : List Line) (others : ℕ) → HasNumber before → AllNumbered steps
      → AllLines (HasBlock α.block (suc case.n)) left
      → late_after case α.block before.line (lines_in steps ++ left) others ≡ late_of (before ∷ steps) others
  unfolding late_after
  late_after_steps before [] left others own numbered unrun = late_after_left before.line left others unrun
  late_after_steps before (s ∷ steps) left others own numbered unrun =
      rw (own.number, numbered.0.number, run_within_blocks case s.block numbered.0.within)
      (ap (cond (late s.line.kind before.block s.block) s.line.number) (late_after_steps s steps left others numbered.0 numbered.1 unrun))

  late_in_steps : (steps : List Step) (left : List Line) (others : ℕ) → AllNumbered steps → AllLines (HasBlock α.block (suc case.n)) left
      → late_in case α.block (lines_in steps ++ left) others ≡ late_of steps others
  unfolding late_in
  late_in_steps [] [] others numbered unrun = refl
  late_in_steps [] (l ∷ left) others numbered unrun = late_after_left l left others unrun.1
  late_in_steps (s ∷ steps) left others numbered unrun = late_after_steps s steps left others numbered.0 numbered.1 unrun

-- ---- The run of an assignment.
module _ (case : Case) (wf : WellFormed case) (α : Assignment) (lens : List ℕ) (given : ℕ → ℕ) (all_blocks : length lens ≡ suc case.n)
    (runs : RunsAs case wf α lens given) (t : ℕ) where
  abbrev steps : List Step
  steps = thread_steps case t (course case given 0 lens (start case))

  abbrev left : List Line
  left = get_or (last_state case given 0 lens (start case)).rests t []

  last : 0 + length lens ≡ suc case.n
  last = zero-add (length lens) ∙ all_blocks

  whole : lines_in steps ++ left ≡ lines_of case t
  whole = run_and_left case given wf 0 lens (start case) wf.thread_count_lem t

  numbered : AllNumbered case α steps
  numbered = numbered_thread case α t (course case given 0 lens (start case)) (course_numbered case α given 0 lens (start case) last runs.0)

  unrun : AllLines (HasBlock α.block (suc case.n)) left
  unrun =
      each_thread (HasBlock α.block (suc case.n)) (last_state case given 0 lens (start case)).rests
      (left_numbered case α given 0 lens (start case) last runs.0) t

  pub stays_of_none_late : Ordered case α.block t 0 (lines_of case t) → NoneLate steps → Stays case α.block [] (lines_of case t)
  stays_of_none_late ordered none =
      subst (Stays case α.block []) whole (thread_stays case α t steps left numbered unrun (subst (Ordered case α.block t 0) (sym whole) ordered) none)

  pub none_late_of_stays : Stays case α.block [] (lines_of case t) → NoneLate steps
  none_late_of_stays stays = thread_keeps case α steps left numbered (subst (Stays case α.block []) (sym whole) stays)

  pub late_in_thread : (others : ℕ) → late_in case α.block (lines_of case t) others ≡ late_of steps others
  late_in_thread others = ap (λ (ls : List Line). late_in case α.block ls others) (sym whole) ∙ late_in_steps case α steps left others numbered unrun

  pub steps_positive : AllLines Positive (lines_in steps)
  steps_positive = first_lines Positive (lines_in steps) left (subst (AllLines Positive) (sym whole) (wf.positive t))

-- ---- Assignments and schedules.
module _ (case : Case) (wf : WellFormed case) where
  pub keeps_of_stays : (α : Assignment) → Meets case α → AllStay case α → KeepsRule case (decode case α)
  keeps_of_stays α meets stays t few =
      let lens = block_lengths case (decode case α) in
      let given = given_in case (decode case α) in
      let decodes = decodes_to_own case wf α in
      none_late_of_stays case wf α lens given decodes.all_blocks (run_of_assignment case wf α lens given meets decodes) t (stays t few)

  pub stays_of_keeps : (schedule : List ℕ) → length schedule ≡ schedule_size case → FinishesRun case schedule → KeepsRule case schedule
      → AllStay case (assignment_of case (fill case schedule))
  stays_of_keeps schedule sized finished keeps t few =
      let α = assignment_of case (fill case schedule) in
      let lens = block_lengths case schedule in
      let given = given_in case schedule in
      let met = meets_of_run case wf schedule sized finished in
      stays_of_none_late case wf α lens given met.1.all_blocks (run_of_assignment case wf α lens given met.0 met.1) t (met.0.order t few) (keeps t few)

  -- Six: the late lines of a schedule's run by the block numbers that are filled in.
  pub late_of_filled : (schedule : List ℕ) → length schedule ≡ schedule_size case → FinishesRun case schedule → (t : ℕ)
      → ((others : ℕ) → late_in case (assignment_of case (fill case schedule)).block (lines_of case t) others ≡ late_of (thread_steps case t (course_of case schedule)) others)
      × AllLines Positive (lines_in (thread_steps case t (course_of case schedule)))
  late_of_filled schedule sized finished t =
      let α = assignment_of case (fill case schedule) in
      let lens = block_lengths case schedule in
      let given = given_in case schedule in
      let met = meets_of_run case wf schedule sized finished in
      let runs = run_of_assignment case wf α lens given met.0 met.1 in
      (late_in_thread case wf α lens given met.1.all_blocks runs t, steps_positive case wf α lens given met.1.all_blocks runs t)
