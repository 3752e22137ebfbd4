-- How the run of a schedule ends, in document 01's words: refused with 14, cut off, clean or violated; and which lines a legal run
-- runs.
-- Assumes nothing. Met again in Demand3.
use mathlib.Core.Path.{◌≡◌, refl, sym, ap, ◌∙◌}
use Prim.Native.Nat.{ℕ, zero, suc, ◌+◌, ◌%◌}
use mathlib.Core.Bool.{Bool, true, false, cond}
use mathlib.Core.List.{List, [], ◌∷◌, ◌++◌, map, append_assoc}
use native.Mathlib.Omega.{arith}
use native.Mathlib.Nat.{zero-add}
use lib.Dec.{eqb}
use lib.ListN.{get_or, length, take, take-append-drop}
use lib.Seq.{take-add}
use borrow.Author.Tests.{ne_eqb, eq-eqb}
use Rattle.model.specs.CaseFile.{Line, Case, lines_of}
use Rattle.model.specs.Machine.{Memory, State, Outcome, refused14, cut_off, violated, clean, stepped, start, rest_in, memory_in, ending, run}
use Rattle.model.specs.Schedule.{block_lengths, given_in, steps_of, run_of}
use Rattle.model.specs.Runs.{Step, block_steps, next_state, course, last_state, ends, strays, broken, First, course_of, run_steps, thread_steps, lines_run, Legal, Takes, FirstEnding, NoneStrays, NoneBroken, unrun_input, Meets14, on_the_way, after_the_last_step}
use Rattle.laws.proofs.Views.{EqView, same, diff, eq_view}
use Rattle.laws.specs.Order.{AllLines, Positive}
use Rattle.correspondence.specs.Meaning.{WellFormed}
use Rattle.laws.proofs.AllLines.{all_threads_lem, all_dropped}
use Rattle.correspondence.proofs.Blocks.{rests_kept, own_rest_after, other_rest_after}
use Rattle.correspondence.proofs.Endings.{left_of_no_stray, few_steps_lem, finished_of_legal}
use Rattle.correspondence.proofs.Courses.{Numbered, numbered_append, along, Notes, quiet, loud, notes, Fate, met, cut, through, fate, stray_goes_on, run_goes, none_has_no_first, first_is_one, up_to_none}
use Rattle.correspondence.proofs.Claims.{FinishesRun}

lines_run_append : (case : Case) (t : ℕ) (xs ys : List Step) → lines_run case t (xs ++ ys) ≡ lines_run case t xs ++ lines_run case t ys
lines_run_append case t [] ys = refl
lines_run_append case t (s ∷ xs) ys = go (eqb t (s.block % case.T)) (lines_run_append case t xs ys)
  where
    lines : List Step → List Line
    lines steps = map (λ s'. s'.line) steps

    go : (q : Bool) → lines (thread_steps case t (xs ++ ys)) ≡ lines (thread_steps case t xs) ++ lines (thread_steps case t ys)
        → lines (cond q (s ∷ thread_steps case t (xs ++ ys)) (thread_steps case t (xs ++ ys)))
        ≡ lines (cond q (s ∷ thread_steps case t xs) (thread_steps case t xs)) ++ lines (thread_steps case t ys)
    go true ih = ap (λ (ls : List Line). s.line ∷ ls) ih
    go false ih = ih

module _ (case : Case) (given : ℕ → ℕ) where
  -- ---- The steps of a block, and of the blocks from i on.
  block_numbered : (i steps : ℕ) (ls : List Line) (m : Memory) → AllLines Positive ls → Numbered (block_steps case given i steps ls m)
  block_numbered i zero ls m positive = tt
  block_numbered i (suc steps) [] m positive = tt
  block_numbered i (suc steps) (l ∷ ls) m positive = (positive.0, block_numbered i steps ls (stepped case given l m) positive.1)

  own_lines_run : (i t steps : ℕ) (ls : List Line) (m : Memory) → t ≡ i % case.T → lines_run case t (block_steps case given i steps ls m) ≡ take steps ls
  own_lines_run i t zero ls m e = refl
  own_lines_run i t (suc steps) [] m e = refl
  own_lines_run i t (suc steps) (l ∷ ls) m e =
      rw (eq-eqb t (i % case.T) e) (ap (λ (rest : List Line). l ∷ rest) (own_lines_run i t steps ls (stepped case given l m) e))

  other_lines_run : (i t steps : ℕ) (ls : List Line) (m : Memory) → eqb t (i % case.T) ≡ false → lines_run case t (block_steps case given i steps ls m) ≡ []
  other_lines_run i t zero ls m e = refl
  other_lines_run i t (suc steps) [] m e = refl
  other_lines_run i t (suc steps) (l ∷ ls) m e = rw e (other_lines_run i t steps ls (stepped case given l m) e)

-- The steps of block i, and those after it.
abbrev here : Case → (ℕ → ℕ) → ℕ → ℕ → State → List Step
here case given i len s = block_steps case given i len (rest_in case i s) (memory_in case i s)

abbrev later : Case → (ℕ → ℕ) → ℕ → ℕ → List ℕ → State → List Step
later case given i len lens s = course case given (suc i) lens (next_state case given i len s)

-- Record numbers count from 1, among the lines that are left too.
abbrev AllPositive : State → Type 0
AllPositive s = (t : ℕ) → AllLines Positive (get_or s.rests t [])

module _ (case : Case) (given : ℕ → ℕ) (wf : WellFormed case) where
  positive_after_block : (i len : ℕ) (s : State) → length s.rests ≡ case.T → AllPositive s → AllPositive (next_state case given i len s)
  positive_after_block i len s count positive t = go (eq_view t (i % case.T))
    where
      go : EqView t (i % case.T) → AllLines Positive (get_or (next_state case given i len s).rests t [])
      go (same p q) = rw (p, own_rest_after case wf i len s.rests count) (all_dropped Positive len (rest_in case i s) (positive (i % case.T)))
      go (diff p q) = rw (other_rest_after case wf i len s.rests count t p) (positive t)

  last_positive : (i : ℕ) (lens : List ℕ) (s : State) → length s.rests ≡ case.T → AllPositive s
      → AllPositive (last_state case given i lens s)
  last_positive i [] s count positive = positive
  last_positive i (len ∷ lens) s count positive =
      last_positive (suc i) lens (next_state case given i len s) (rests_kept case wf i len s.rests count)
      (positive_after_block i len s count positive)

  course_numbered : (i : ℕ) (lens : List ℕ) (s : State) → length s.rests ≡ case.T → AllPositive s → Numbered (course case given i lens s)
  course_numbered i [] s count positive = tt
  course_numbered i (len ∷ lens) s count positive =
      numbered_append (here case given i len s) (later case given i len lens s)
      (block_numbered case given i len (rest_in case i s) (memory_in case i s) (positive (i % case.T)))
      (course_numbered (suc i) lens (next_state case given i len s) (rests_kept case wf i len s.rests count)
      (positive_after_block i len s count positive))

  -- What a thread runs is its first lines, as many as its block lengths add up to.
  lines_of_course : (i : ℕ) (lens : List ℕ) (s : State) → length s.rests ≡ case.T → (t : ℕ)
      → lines_run case t (course case given i lens s) ≡ take (steps_of case t i lens) (get_or s.rests t [])
  unfolding steps_of
  lines_of_course i [] s count t = refl
  lines_of_course i (len ∷ lens) s count t =
      lines_run_append case t (here case given i len s) (later case given i len lens s)
      ∙ ap (λ (ls : List Line). lines_run case t (here case given i len s) ++ ls)
      (lines_of_course (suc i) lens (next_state case given i len s) (rests_kept case wf i len s.rests count) t)
      ∙ go (eq_view t (i % case.T))
    where
      go : EqView t (i % case.T)
          → lines_run case t (here case given i len s) ++ take (steps_of case t (suc i) lens) (get_or (next_state case given i len s).rests t [])
          ≡ take (cond (eqb t (i % case.T)) len 0 + steps_of case t (suc i) lens) (get_or s.rests t [])
      go (same p q) =
          rw (q, own_lines_run case given i t len (rest_in case i s) (memory_in case i s) p, p, own_rest_after case wf i len s.rests count)
          (sym (take-add len (steps_of case (i % case.T) (suc i) lens) (rest_in case i s)))
      go (diff p q) =
          rw (q, other_lines_run case given i t len (rest_in case i s) (memory_in case i s) q, other_rest_after case wf i len s.rests count t p)
          (ap (λ (steps : ℕ). take steps (get_or s.rests t [])) (sym (zero-add (steps_of case t (suc i) lens))))

  -- What it runs and what is left of it are its lines.
  pub run_and_left : (i : ℕ) (lens : List ℕ) (s : State) → length s.rests ≡ case.T → (t : ℕ)
      → lines_run case t (course case given i lens s) ++ get_or (last_state case given i lens s).rests t [] ≡ get_or s.rests t []
  run_and_left i [] s count t = refl
  run_and_left i (len ∷ lens) s count t =
      let left = get_or (last_state case given i (len ∷ lens) s).rests t [] in
      ap (λ (ls : List Line). ls ++ left) (lines_run_append case t (here case given i len s) (later case given i len lens s))
      ∙ append_assoc (lines_run case t (here case given i len s)) (lines_run case t (later case given i len lens s)) left
      ∙ ap (λ (ls : List Line). lines_run case t (here case given i len s) ++ ls)
      (run_and_left (suc i) lens (next_state case given i len s) (rests_kept case wf i len s.rests count) t)
      ∙ go (eq_view t (i % case.T))
    where
      go : EqView t (i % case.T) → lines_run case t (here case given i len s) ++ get_or (next_state case given i len s).rests t [] ≡ get_or s.rests t []
      go (same p q) =
          rw (own_lines_run case given i t len (rest_in case i s) (memory_in case i s) p, p, own_rest_after case wf i len s.rests count)
          (take-append-drop len (rest_in case i s))
      go (diff p q) =
          rw (other_lines_run case given i t len (rest_in case i s) (memory_in case i s) q, other_rest_after case wf i len s.rests count t p)

module _ (case : Case) (schedule : List ℕ) where
  -- Refusal 14 does not meet the schedule; where it does, it is at one record.
  abbrev pub NotMet14 : Type 0
  NotMet14 = NoneStrays case schedule × (Legal case schedule → unrun_input case schedule ≡ 0)

  pub not_met_has_no_record : NotMet14 → (k : ℕ) → Meets14 case schedule k → ⊥
  not_met_has_no_record other k (on_the_way found) =
      none_has_no_first (strays case (given_in case schedule)) (run_steps case schedule) found.0 other.0 found.1
  not_met_has_no_record other k (after_the_last_step none legal some is) = omega (arith, other.1 legal)

  pub met_at_one_record : (k k' : ℕ) → Meets14 case schedule k → Meets14 case schedule k' → k ≡ k'
  met_at_one_record k k' (on_the_way found) (on_the_way found') =
      sym found.2
      ∙ ap (λ (s : Step). s.line.number)
      (first_is_one (strays case (given_in case schedule)) (run_steps case schedule) found.0 found'.0 found.1 found'.1)
      ∙ found'.2
  met_at_one_record k k' (on_the_way found) (after_the_last_step none legal some is) =
      absurd (none_has_no_first (strays case (given_in case schedule)) (run_steps case schedule) found.0 none found.1)
  met_at_one_record k k' (after_the_last_step none legal some is) (on_the_way found) =
      absurd (none_has_no_first (strays case (given_in case schedule)) (run_steps case schedule) found.0 none found.1)
  met_at_one_record k k' (after_the_last_step none legal some is) (after_the_last_step none' legal' some' is') = sym is ∙ is'

module _ (case : Case) (wf : WellFormed case) (schedule : List ℕ) where
  abbrev given : ℕ → ℕ
  given = given_in case schedule

  abbrev last : State
  last = last_state case given 0 (block_lengths case schedule) (start case)

  abbrev end : ℕ → Outcome
  end note = ending given note last

  -- How the run ends, and what the machine answers then.
  pub data RunEnding : Type 0 where
    met_14 : (k : ℕ) → Meets14 case schedule k → run_of case schedule ≡ refused14 k → RunEnding
    ended_cut_off : (s : Step) → NotMet14 case schedule → FirstEnding case schedule s
        → run_of case schedule ≡ cut_off s.line.number s.memory.items → RunEnding
    ended_clean : NotMet14 case schedule → Legal case schedule → NoneBroken case schedule → run_of case schedule ≡ clean last → RunEnding
    ended_violated : (s : Step) → NotMet14 case schedule → Legal case schedule → First (broken case given) (run_steps case schedule) s
        → run_of case schedule ≡ violated s.line.number last → RunEnding

  pub run_ending : RunEnding
  unfolding run_of run
  run_ending =
      go (fate (strays case given) (ends case given) (broken case given) (stray_goes_on case given) (course_of case schedule))
      (notes (strays case given) (ends case given) (broken case given) (course_of case schedule)
      (course_numbered case given wf 0 (block_lengths case schedule) (start case) wf.thread_count_lem wf.positive))
      (eq_view (unrun_input case schedule) 0) (run_goes case given 0 (block_lengths case schedule) (start case) 0)
    where
      go : Fate (strays case given) (ends case given) (broken case given) (course_of case schedule)
          → Notes (strays case given) (ends case given) (broken case given) (course_of case schedule) → EqView (unrun_input case schedule) 0
          → run_of case schedule ≡ along (strays case given) (ends case given) (broken case given) (course_of case schedule) 0 end → RunEnding
      go (met s first is) _ _ e = met_14 s.line.number (on_the_way (s, first, refl)) (e ∙ is 0 end)
      go (cut s none first is) _ _ e =
          ended_cut_off s (none, λ legal. absurd (none_has_no_first (ends case given) (course_of case schedule) s legal first)) first (e ∙ is 0 end)
      go (through none legal is) _ (diff some q) e =
          met_14 (unrun_input case schedule) (after_the_last_step none legal (omega arith) refl) (e ∙ is 0 end ∙ rw q)
      go (through none legal is) (quiet unbroken note) (same left q) e =
          ended_clean (none, λ _. left) legal (rw (up_to_none (ends case given) (course_of case schedule) legal) unbroken)
          (e ∙ is 0 end ∙ ap end note ∙ rw q)
      go (through none legal is) (loud s first some note) (same left q) e =
          ended_violated s (none, λ _. left) legal (rw (up_to_none (ends case given) (course_of case schedule) legal) first)
          (e ∙ is 0 end ∙ ap end note ∙ rw (q, ne_eqb s.line.number 0 (λ p. omega arith)))

  -- The legal run of a schedule that is taken finishes.
  pub finished_run : Takes case schedule → Legal case schedule → FinishesRun case schedule
  finished_run takes legal =
      let lens = block_lengths case schedule in
      let positive = last_positive case given wf 0 lens (start case) wf.thread_count_lem wf.positive in
      finished_of_legal case given wf 0 lens (start case) wf.thread_count_lem (few_steps_lem case lens takes.not_13)
      (rw (up_to_none (ends case given) (course_of case schedule) legal) at takes.not_14) legal
      (left_of_no_stray given last.rests (all_threads_lem Positive last.rests (λ t h. positive t)) (takes.nor_after legal))

  -- A legal run runs of each thread the first lines, as many as its block lengths add up to.
  pub first_lines_of_legal : Legal case schedule → (t : ℕ)
      → lines_run case t (run_steps case schedule) ≡ take (steps_of case t 0 (block_lengths case schedule)) (lines_of case t)
  first_lines_of_legal legal t =
      ap (lines_run case t) (up_to_none (ends case given) (course_of case schedule) legal)
      ∙ lines_of_course case given wf 0 (block_lengths case schedule) (start case) wf.thread_count_lem t
