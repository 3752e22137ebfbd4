-- The machine goes along the steps of a run: its answer is made by the first step that ends the run or strays, or, where there is
-- none, by the lines that are left and the first step that violates.
-- Assumes nothing. Met again in Endings and RunEnds.
use mathlib.Core.Path.{◌≡◌, refl, sym, ap, ◌∙◌}
use Prim.Native.Nat.{ℕ, zero, suc, ◌<◌}
use mathlib.Core.Bool.{Bool, true, false, cond, true≢false}
use mathlib.Core.List.{List, [], ◌∷◌, ◌++◌}
use native.Mathlib.Omega.{arith}
use borrow.Author.Tests.{ne_eqb}
use Rattle.model.specs.CaseFile.{Line, Case}
use Rattle.model.specs.declared.Kind.{Kind}
use Rattle.model.specs.declared.Kind.TheVariants.{Compute, Store, Load, Input, Assert, Assume, Lock, Unlock}
use Rattle.model.specs.Line.{Reads, stops, stray_input}
use Rattle.model.specs.Machine.{Memory, BlockEnd, strayed, stopped, State, Outcome, refused14, cut_off, reads_in, stepped, noted, noted_at, rest_in, memory_in, after_block, ending, run_block, run_blocks}
use Rattle.model.specs.Machine as machine
use Rattle.model.specs.Runs.{Step, block_steps, memory_after, next_state, course, last_state, ends, strays, broken, up_to_first, None, First}

-- ---- The first step that has a test.

module _ (test : Step → Bool) where
  pub first_later : (s s' : Step) (steps : List Step) → test s ≡ false → First test steps s' → First test (s ∷ steps) s'
  first_later s s' steps e f = record {
    before = s ∷ f.before;
    after = f.after;
    split = ap (λ (rest : List Step). s ∷ rest) f.split;
    none_before = (e, f.none_before);
    here = f.here;
  }

  pub first_here : (s : Step) (steps : List Step) → test s ≡ true → First test (s ∷ steps) s
  first_here s steps e = record { before = []; after = steps; split = refl; none_before = tt; here = e }

  pub none_append : (xs ys : List Step) → None test xs → None test ys → None test (xs ++ ys)
  none_append [] ys a b = b
  none_append (s ∷ xs) ys a b = (a.0, none_append xs ys a.1 b)

  pub none_before : (xs ys : List Step) → None test (xs ++ ys) → None test xs
  none_before [] ys a = tt
  none_before (s ∷ xs) ys a = (a.0, none_before xs ys a.1)

  pub none_after : (xs ys : List Step) → None test (xs ++ ys) → None test ys
  none_after [] ys a = a
  none_after (s ∷ xs) ys a = none_after xs ys a.1

  none_then_some : (before after : List Step) (s : Step) → None test (before ++ (s ∷ after)) → test s ≡ true → ⊥
  none_then_some [] after s none here = true≢false (sym here ∙ none.0)
  none_then_some (b ∷ before) after s none here = none_then_some before after s none.1 here

  pub none_has_no_first : (steps : List Step) (s : Step) → None test steps → First test steps s → ⊥
  none_has_no_first steps s none f = none_then_some f.before f.after s (rw f.split at none) f.here

  same_first : (b b' a a' : List Step) (s s' : Step) → b ++ (s ∷ a) ≡ b' ++ (s' ∷ a') → None test b → None test b' → test s ≡ true → test s' ≡ true → s ≡ s'
  same_first [] [] a a' s s' e n n' h h' = let z : s ≡ s' = cc in z
  same_first [] (x ∷ b') a a' s s' e n n' h h' = let z : s ≡ x = cc in absurd (true≢false (sym h ∙ ap test z ∙ n'.0))
  same_first (x ∷ b) [] a a' s s' e n n' h h' = let z : x ≡ s' = cc in absurd (true≢false (sym h' ∙ ap test (sym z) ∙ n.0))
  same_first (x ∷ b) (y ∷ b') a a' s s' e n n' h h' =
      let z : b ++ (s ∷ a) ≡ b' ++ (s' ∷ a') = cc in same_first b b' a a' s s' z n.1 n'.1 h h'

  -- There is one first step.
  pub first_is_one : (steps : List Step) (s s' : Step) → First test steps s → First test steps s' → s ≡ s'
  first_is_one steps s s' f f' =
      same_first f.before f'.before f.after f'.after s s' (sym f.split ∙ f'.split) f.none_before f'.none_before f.here f'.here

  pub up_to_none : (steps : List Step) → None test steps → up_to_first test steps ≡ steps
  up_to_none [] none = refl
  up_to_none (s ∷ steps) none = rw none.0 (ap (λ (rest : List Step). s ∷ rest) (up_to_none steps none.1))

-- ---- Along the steps, with tests that stand for straying, ending the run and violating.

-- Record numbers count from 1.
abbrev pub Numbered : List Step → Type 0
Numbered [] = Unit
Numbered (s ∷ steps) = (0 < s.line.number) × Numbered steps

pub numbered_append : (xs ys : List Step) → Numbered xs → Numbered ys → Numbered (xs ++ ys)
numbered_append [] ys a b = b
numbered_append (s ∷ xs) ys a b = (a.0, numbered_append xs ys a.1 b)

module _ (stray end break : Step → Bool) where
  -- What the machine makes of the steps; what it does after them is told the note.
  abbrev pub along : List Step → ℕ → (ℕ → Outcome) → Outcome
  along [] note next = next note
  along (s ∷ steps) note next =
      cond (stray s) (refused14 s.line.number)
      (cond (end s) (cut_off s.line.number s.memory.items)
      (along steps (noted note s.line (break s)) next))

  along_append : (xs ys : List Step) (note : ℕ) (next : ℕ → Outcome) → along (xs ++ ys) note next ≡ along xs note (λ note'. along ys note' next)
  along_append [] ys note next = refl
  along_append (s ∷ xs) ys note next =
      ap (λ (o : Outcome). cond (stray s) (refused14 s.line.number) (cond (end s) (cut_off s.line.number s.memory.items) o))
      (along_append xs ys (noted note s.line (break s)) next)

  along_same : (xs : List Step) (note : ℕ) (next next' : ℕ → Outcome) → ((note' : ℕ) → next note' ≡ next' note') → along xs note next ≡ along xs note next'
  along_same [] note next next' same = same note
  along_same (s ∷ xs) note next next' same =
      ap (λ (o : Outcome). cond (stray s) (refused14 s.line.number) (cond (end s) (cut_off s.line.number s.memory.items) o))
      (along_same xs (noted note s.line (break s)) next next' same)

  -- The note after steps that all run.
  abbrev pub note_over : ℕ → List Step → ℕ
  note_over note [] = note
  note_over note (s ∷ steps) = note_over (noted note s.line (break s)) steps

  note_stays : (note : ℕ) (steps : List Step) → 0 < note → note_over note steps ≡ note
  note_stays note [] h = refl
  note_stays note (s ∷ steps) h = rw (ne_eqb note 0 (λ p. omega arith)) (note_stays note steps h)

  -- The note is the first step that violates.
  pub data Notes (steps : List Step) : Type 0 where
    quiet : None break steps → note_over 0 steps ≡ 0 → Notes steps
    loud : (s : Step) → First break steps s → 0 < s.line.number → note_over 0 steps ≡ s.line.number → Notes steps

  pub notes : (steps : List Step) → Numbered steps → Notes steps
  notes [] numbered = quiet tt refl
  notes (s ∷ steps) numbered = go (break s) refl (notes steps numbered.1)
    where
      go : (q : Bool) → break s ≡ q → Notes steps → Notes (s ∷ steps)
      go true e rest = loud s (first_here break s steps e) numbered.0 (rw e (note_stays s.line.number steps numbered.0))
      go false e (quiet none zero-note) = quiet (e, none) (rw e zero-note)
      go false e (loud s' first some note) = loud s' (first_later break s s' steps e first) some (rw e note)

  -- How the steps end, and what the machine makes of them.
  pub data Fate (steps : List Step) : Type 0 where
    met : (s : Step) → First stray (up_to_first end steps) s → ((note : ℕ) (next : ℕ → Outcome) → along steps note next ≡ refused14 s.line.number)
        → Fate steps
    cut : (s : Step) → None stray (up_to_first end steps) → First end steps s
        → ((note : ℕ) (next : ℕ → Outcome) → along steps note next ≡ cut_off s.line.number s.memory.items) → Fate steps
    through : None stray (up_to_first end steps) → None end steps
        → ((note : ℕ) (next : ℕ → Outcome) → along steps note next ≡ next (note_over note steps)) → Fate steps

  module _ (apart : (s : Step) → stray s ≡ true → end s ≡ false) where
    not_stray : (s : Step) → end s ≡ true → stray s ≡ false
    not_stray s e = go (stray s) refl
      where
        go : (q : Bool) → stray s ≡ q → stray s ≡ false
        go false f = f
        go true f = absurd (true≢false (sym e ∙ apart s f))

    pub fate : (steps : List Step) → Fate steps
    fate [] = through tt tt (λ note next. refl)
    fate (s ∷ steps) = go (end s) refl (stray s) refl (fate steps)
      where
        go : (p : Bool) → end s ≡ p → (q : Bool) → stray s ≡ q → Fate steps → Fate (s ∷ steps)
        go true e q f rest = cut s (rw e tt) (first_here end s steps e) (λ note next. rw (not_stray s e, e))
        go false e true f rest = met s (rw e (first_here stray s (up_to_first end steps) f)) (λ note next. rw f)
        go false e false f (met s' first is) =
            met s' (rw e (first_later stray s s' (up_to_first end steps) f first)) (λ note next. rw (f, e) (is (noted note s.line (break s)) next))
        go false e false f (cut s' none first is) =
            cut s' (rw e (f, none)) (first_later end s s' steps e first) (λ note next. rw (f, e) (is (noted note s.line (break s)) next))
        go false e false f (through none no_end is) =
            through (rw e (f, none)) (e, no_end) (λ note next. rw (f, e) (is (noted note s.line (break s)) next))

-- ---- The machine's own steps.

-- An input never ends the run, and nothing else strays.
apart_by_kind : (kind : Kind) (l : Line) (reads : Reads) → stray_input kind l reads ≡ true → stops kind l reads ≡ false
unfolding stray_input stops
apart_by_kind Compute l reads e = refl
apart_by_kind Store l reads e = refl
apart_by_kind Load l reads e = refl
apart_by_kind Input l reads e = refl
apart_by_kind Assert l reads e = refl
apart_by_kind Assume l reads e = absurd (true≢false (sym e))
apart_by_kind Lock l reads e = absurd (true≢false (sym e))
apart_by_kind Unlock l reads e = refl

module _ (case : Case) (given : ℕ → ℕ) where
  pub stray_goes_on : (s : Step) → strays case given s ≡ true → ends case given s ≡ false
  stray_goes_on s = apart_by_kind s.line.kind s.line (reads_in case given s.line s.memory)

  abbrev goes : List Step → ℕ → (ℕ → Outcome) → Outcome
  goes = along (strays case given) (ends case given) (broken case given)

  after_step : (p q : Bool) (k : ℕ) (items : List ℕ) (rest : BlockEnd) (next : Memory → ℕ → Outcome)
      → machine.after_steps (cond p (strayed k) (cond q (stopped k items) rest)) next
      ≡ cond p (refused14 k) (cond q (cut_off k items) (machine.after_steps rest next))
  after_step true q k items rest next = refl
  after_step false true k items rest next = refl
  after_step false false k items rest next = refl

  block_goes : (i steps : ℕ) (ls : List Line) (m : Memory) (note : ℕ) (next : Memory → ℕ → Outcome)
      → machine.after_steps (run_block case given steps ls m note) next
      ≡ goes (block_steps case given i steps ls m) note (next (memory_after case given steps ls m))
  unfolding run_block
  block_goes i zero ls m note next = refl
  block_goes i (suc steps) [] m note next = refl
  block_goes i (suc steps) (l ∷ ls) m note next =
      after_step (stray_input l.kind l (reads_in case given l m)) (stops l.kind l (reads_in case given l m)) l.number m.items
      (run_block case given steps ls (stepped case given l m) (noted_at case given note l m)) next
      ∙ ap (λ (o : Outcome). cond (stray_input l.kind l (reads_in case given l m)) (refused14 l.number)
      (cond (stops l.kind l (reads_in case given l m)) (cut_off l.number m.items) o))
      (block_goes i steps ls (stepped case given l m) (noted_at case given note l m) next)

  -- The machine's answer is made along the steps.
  pub run_goes : (i : ℕ) (lens : List ℕ) (s : State) (note : ℕ)
      → run_blocks case given i lens s note
      ≡ goes (course case given i lens s) note (λ note'. ending given note' (last_state case given i lens s))
  unfolding run_blocks
  run_goes i [] s note = refl
  run_goes i (len ∷ lens) s note =
      let here = block_steps case given i len (rest_in case i s) (memory_in case i s) in
      let later = course case given (suc i) lens (next_state case given i len s) in
      let end : ℕ → Outcome = λ note'. ending given note' (last_state case given i (len ∷ lens) s) in
      block_goes i len (rest_in case i s) (memory_in case i s) note (λ m note'. run_blocks case given (suc i) lens (after_block case i len s m) note')
      ∙ along_same (strays case given) (ends case given) (broken case given) here note
      (λ note'. run_blocks case given (suc i) lens (next_state case given i len s) note') (λ note'. goes later note' end)
      (run_goes (suc i) lens (next_state case given i len s))
      ∙ sym (along_append (strays case given) (ends case given) (broken case given) here later note end)
