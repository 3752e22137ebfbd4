-- A run finishes exactly where it is legal, no thread has more steps than lines, and refusal 14 meets no input, run or left; it
-- violates in its trace exactly where one of its steps does.
-- Assumes nothing. Met again in Claims, RunEnds and Demand3.
use mathlib.Core.Path.{◌≡◌, refl, ap, ◌∙◌}
use Prim.Native.Nat.{ℕ, zero, suc, ◌+◌, ◌%◌, ◌≤◌, ◌<◌}
use mathlib.Core.Bool.{Bool, true, false, cond, ◌&&◌}
use mathlib.Core.List.{List, [], ◌∷◌, ◌++◌, map, map-append}
use native.Mathlib.Omega.{arith}
use native.Mathlib.Nat.{zero-add}
use lib.Dec.{leb, eqb}
use lib.ListN.{get_or, length, drop}
use borrow.Author.Tests.{leb-true, le-leb, eq-eqb}
use Rattle.model.specs.CaseFile.{Line, Case, lines_of}
use Rattle.model.specs.Line.{unrun_stray}
use Rattle.model.specs.Machine.{Memory, State, stepped, rest_in, memory_in, stray_left, first_stray_left}
use Rattle.model.specs.Schedule.{steps_of, lengths_fit}
use Rattle.model.specs.Runs.{Step, block_steps, next_state, course, last_state, ends, strays, broken, None, First}
use Rattle.laws.proofs.Views.{EqView, same, diff, eq_view}
use Rattle.laws.proofs.Ranges.{all_from_gives, all_from_of}
use Rattle.laws.specs.Order.{AllLines, AllThreads, Positive}
use Rattle.correspondence.specs.Meaning.{WellFormed}
use Rattle.correspondence.specs.Trace.{event_of, block_events, events}
use Rattle.correspondence.specs.Agreement.{broken_in, FinishesBlock, MayBeLeft, Finishes}
use Rattle.correspondence.proofs.Blocks.{turn, rests_kept, own_rest_after, other_rest_after}
use Rattle.correspondence.proofs.Breaks.{broken_in_append, all_left_breaks_nothing}
use Rattle.correspondence.proofs.Courses.{none_append, none_before, none_after, first_here, first_later}

-- What is left may be left just where the machine finds no stray input there.
module _ (given : ℕ → ℕ) where
  others_of_left : (ls : List Line) (others : ℕ) → AllLines (MayBeLeft given) ls → stray_left given ls others ≡ others
  unfolding stray_left
  others_of_left [] others left = refl
  others_of_left (l ∷ ls) others left = rw left.0 (others_of_left ls others left.1)

  pub no_stray_of_left : (rests : List (List Line)) → AllThreads (MayBeLeft given) rests → first_stray_left given rests ≡ 0
  unfolding first_stray_left
  no_stray_of_left [] left = refl
  no_stray_of_left (ls ∷ rests) left = others_of_left ls (first_stray_left given rests) left.0 ∙ no_stray_of_left rests left.1

  line_of_no_stray : (ls : List Line) (others : ℕ) → AllLines Positive ls → stray_left given ls others ≡ 0
      → AllLines (MayBeLeft given) ls × (others ≡ 0)
  unfolding stray_left
  line_of_no_stray [] others positive e = (tt, e)
  line_of_no_stray (l ∷ ls) others positive e = go (unrun_stray l.kind (given l.number)) refl (line_of_no_stray ls others positive.1)
    where
      go : (q : Bool) → unrun_stray l.kind (given l.number) ≡ q
          → (stray_left given ls others ≡ 0 → AllLines (MayBeLeft given) ls × (others ≡ 0))
          → AllLines (MayBeLeft given) (l ∷ ls) × (others ≡ 0)
      go true stray ih = absurd (omega (arith, positive.0, rw stray at e))
      go false quiet ih = let rest = ih (rw quiet at e) in ((quiet, rest.0), rest.1)

  pub left_of_no_stray : (rests : List (List Line)) → AllThreads Positive rests → first_stray_left given rests ≡ 0
      → AllThreads (MayBeLeft given) rests
  unfolding first_stray_left
  left_of_no_stray [] positive e = tt
  left_of_no_stray (ls ∷ rests) positive e =
      let first = line_of_no_stray ls (first_stray_left given rests) positive.0 e in
      (first.0, left_of_no_stray rests positive.1 first.1)

-- Two: "refusal 13 is only for more": no thread has more steps than lines.
abbrev pub FewSteps : Case → ℕ → List ℕ → List (List Line) → Type 0
FewSteps case i lens rests = (t : ℕ) → t < case.T → steps_of case t i lens ≤ length (get_or rests t [])

pub few_steps_lem : (case : Case) (lens : List ℕ) → lengths_fit case lens ≡ true → FewSteps case 0 lens case.threads
unfolding lengths_fit
few_steps_lem case lens e t ht =
    leb-true (steps_of case t 0 lens) (length (lines_of case t))
    (all_from_gives (λ t'. leb (steps_of case t' 0 lens) (length (lines_of case t'))) 0 case.T e t (omega arith) (omega arith))

pub lengths_fit_lem : (case : Case) (lens : List ℕ) → FewSteps case 0 lens case.threads → lengths_fit case lens ≡ true
unfolding lengths_fit
lengths_fit_lem case lens few =
    all_from_of (λ t. leb (steps_of case t 0 lens) (length (lines_of case t))) 0 case.T (λ t h h'. le-leb _ _ (few t (omega (arith, h'))))

module _ (case : Case) (given : ℕ → ℕ) where
  -- A finished block runs as many lines as its length says.
  lines_of_finished : (steps : ℕ) (ls : List Line) (m : Memory) → FinishesBlock case given steps ls m → steps + length (drop steps ls) ≡ length ls
  lines_of_finished zero ls m h = zero-add (length ls)
  lines_of_finished (suc steps) [] m h = absurd h
  lines_of_finished (suc steps) (l ∷ ls) m h = omega (arith, lines_of_finished steps ls (stepped case given l m) h.2)

  block_of_legal : (i steps : ℕ) (ls : List Line) (m : Memory) → steps ≤ length ls → None (strays case given) (block_steps case given i steps ls m)
      → None (ends case given) (block_steps case given i steps ls m) → FinishesBlock case given steps ls m
  block_of_legal i zero ls m h none legal = tt
  block_of_legal i (suc steps) [] m h none legal = absurd (omega arith)
  block_of_legal i (suc steps) (l ∷ ls) m h none legal =
      (legal.0, none.0, block_of_legal i steps ls (stepped case given l m) (omega arith) none.1 legal.1)

  legal_of_block : (i steps : ℕ) (ls : List Line) (m : Memory) → FinishesBlock case given steps ls m
      → None (strays case given) (block_steps case given i steps ls m) × None (ends case given) (block_steps case given i steps ls m)
  legal_of_block i zero ls m h = (tt, tt)
  legal_of_block i (suc steps) [] m h = (tt, tt)
  legal_of_block i (suc steps) (l ∷ ls) m h =
      let rest = legal_of_block i steps ls (stepped case given l m) h.2 in ((h.1, rest.0), (h.0, rest.1))

  -- No step of a run that finishes strays or ends it.
  pub legal_of_finished : (i : ℕ) (lens : List ℕ) (s : State) → Finishes case given i lens s
      → None (strays case given) (course case given i lens s) × None (ends case given) (course case given i lens s)
  legal_of_finished i [] s h = (tt, tt)
  legal_of_finished i (len ∷ lens) s h =
      let here = block_steps case given i len (rest_in case i s) (memory_in case i s) in
      let later = course case given (suc i) lens (next_state case given i len s) in
      let block = legal_of_block i len (rest_in case i s) (memory_in case i s) h.0 in
      let rest = legal_of_finished (suc i) lens (next_state case given i len s) h.1 in (
        none_append (strays case given) here later block.0 rest.0,
        none_append (ends case given) here later block.1 rest.1,
      )

  -- What it leaves may be left.
  pub left_of_finished : (i : ℕ) (lens : List ℕ) (s : State) → Finishes case given i lens s
      → AllThreads (MayBeLeft given) (last_state case given i lens s).rests
  left_of_finished i [] s h = h
  left_of_finished i (len ∷ lens) s h = left_of_finished (suc i) lens (next_state case given i len s) h.1

  module _ (wf : WellFormed case) where
    -- A finished block takes its length off what its thread has left, and the others keep theirs.
    steps_of_block : (i len t : ℕ) (s : State) → length s.rests ≡ case.T → FinishesBlock case given len (rest_in case i s) (memory_in case i s)
        → cond (eqb t (i % case.T)) len 0 + length (get_or (next_state case given i len s).rests t []) ≡ length (get_or s.rests t [])
    steps_of_block i len t s hn h = go (eq_view t (i % case.T))
      where
        go : EqView t (i % case.T)
            → cond (eqb t (i % case.T)) len 0 + length (get_or (next_state case given i len s).rests t []) ≡ length (get_or s.rests t [])
        go (same e q) =
            rw q (omega (
              arith,
              lines_of_finished len (rest_in case i s) (memory_in case i s) h,
              ap (λ (x : ℕ). length (get_or (next_state case given i len s).rests x [])) e,
              ap length (own_rest_after case wf i len s.rests hn),
              ap (λ (x : ℕ). length (get_or s.rests x [])) e,
            ))
        go (diff e q) = rw q (omega (arith, ap length (other_rest_after case wf i len s.rests hn t e)))

    pub few_steps_of_finished : (i : ℕ) (lens : List ℕ) (s : State) → length s.rests ≡ case.T → Finishes case given i lens s
        → FewSteps case i lens s.rests
    unfolding steps_of
    few_steps_of_finished i [] s hn h t ht = omega arith
    few_steps_of_finished i (len ∷ lens) s hn h t ht =
        let later = few_steps_of_finished (suc i) lens (next_state case given i len s) (rests_kept case wf i len s.rests hn) h.1 t ht in
        omega (arith, later, steps_of_block i len t s hn h.0)

    few_steps_after : (i len : ℕ) (lens : List ℕ) (s : State) → length s.rests ≡ case.T
        → FinishesBlock case given len (rest_in case i s) (memory_in case i s) → FewSteps case i (len ∷ lens) s.rests
        → FewSteps case (suc i) lens (next_state case given i len s).rests
    unfolding steps_of
    few_steps_after i len lens s hn h few t ht = omega (arith, few t ht, steps_of_block i len t s hn h)

    fits_block : (i len : ℕ) (lens : List ℕ) (s : State) → FewSteps case i (len ∷ lens) s.rests → len ≤ length (rest_in case i s)
    unfolding steps_of
    fits_block i len lens s few = omega (arith, rw (eq-eqb (i % case.T) (i % case.T) refl) at (few (i % case.T) (turn case wf i)))

    pub finished_of_legal : (i : ℕ) (lens : List ℕ) (s : State) → length s.rests ≡ case.T → FewSteps case i lens s.rests
        → None (strays case given) (course case given i lens s) → None (ends case given) (course case given i lens s)
        → AllThreads (MayBeLeft given) (last_state case given i lens s).rests → Finishes case given i lens s
    finished_of_legal i [] s hn few none legal left = left
    finished_of_legal i (len ∷ lens) s hn few none legal left =
        let here = block_steps case given i len (rest_in case i s) (memory_in case i s) in
        let later = course case given (suc i) lens (next_state case given i len s) in
        let block = block_of_legal i len (rest_in case i s) (memory_in case i s) (fits_block i len lens s few)
        (none_before (strays case given) here later none) (none_before (ends case given) here later legal) in (
          block,
          finished_of_legal (suc i) lens (next_state case given i len s) (rests_kept case wf i len s.rests hn)
              (few_steps_after i len lens s hn block few)
              (none_after (strays case given) here later none) (none_after (ends case given) here later legal) left,
        )

  -- ---- The steps that violate, and the broken events.
  -- What is left breaks nothing: the broken events are those of the steps.
  module _ (asked : Line → Bool) where
    -- A step of a line that is asked about violates.
    abbrev pub broken_asked : Step → Bool
    broken_asked s = asked s.line && broken case given s

    pub broken_of_steps : (i : ℕ) (lens : List ℕ) (s : State) → broken_in asked (events case given i lens s) ≡ broken_in asked (map (event_of case given) (course case given i lens s))
    broken_of_steps i [] s = all_left_breaks_nothing asked i s.rests
    broken_of_steps i (len ∷ lens) s =
        let here = block_steps case given i len (rest_in case i s) (memory_in case i s) in
        let later = course case given (suc i) lens (next_state case given i len s) in
        omega (
          arith,
          broken_in_append asked (block_events case given i len (rest_in case i s) (memory_in case i s)) (events case given (suc i) lens (next_state case given i len s)),
          broken_of_steps (suc i) lens (next_state case given i len s),
          ap (broken_in asked) (map-append (event_of case given) here later),
          broken_in_append asked (map (event_of case given) here) (map (event_of case given) later),
        )

    pub first_of_some : (steps : List Step) → 0 < broken_in asked (map (event_of case given) steps) → (s : Step) × First broken_asked steps s
    first_of_some [] h = absurd (omega arith)
    first_of_some (s ∷ steps) h = go (broken_asked s) refl (first_of_some steps)
      where
        go : (q : Bool) → broken_asked s ≡ q
            → (0 < broken_in asked (map (event_of case given) steps) → (s' : Step) × First broken_asked steps s')
            → (s' : Step) × First broken_asked (s ∷ steps) s'
        go true e rest = (s, first_here broken_asked s steps e)
        go false e rest = let found = rest (omega (arith, rw e at h)) in (found.0, first_later broken_asked s found.0 steps e found.1)

    some_after : (before after : List Step) (s : Step) → broken_asked s ≡ true → 0 < broken_in asked (map (event_of case given) (before ++ (s ∷ after)))
    some_after [] after s e = rw e (omega arith)
    some_after (b ∷ before) after s e = omega (arith, some_after before after s e)

    pub some_of_first : (steps : List Step) (s : Step) → First broken_asked steps s → 0 < broken_in asked (map (event_of case given) steps)
    some_of_first steps s first = rw first.split (some_after first.before first.after s first.here)
