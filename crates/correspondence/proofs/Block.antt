-- One block, both ways: its lines' constraints 4 and 5 and decoded inputs say just that the machine runs through it with the
-- assignment's values; and what they say of lines that were not run.
-- Assumes nothing. Met again in Values, for all blocks, and in Breaks and Traces.
use mathlib.Core.Path.{◌≡◌, refl, sym, ap, ◌∙◌, subst, fun_ext}
use Prim.Native.Nat.{ℕ, zero, suc, ◌≤◌}
use mathlib.Core.Bool.{Bool, true, false, cond, not, ◌&&◌, false≢true}
use mathlib.Core.List.{List, [], ◌∷◌}
use native.Mathlib.Omega.{arith}
use lib.Dec.{eqb}
use lib.ListN.{drop}
use borrow.Author.Tests.{eq-eqb}
use Rattle.laws.proofs.Views.{EqView, same, diff, eq_view}
use Rattle.model.specs.Word.{bit, nonzero}
use Rattle.model.specs.CaseFile.{Line, Case}
use Rattle.model.specs.declared.Kind.{Kind}
use Rattle.model.specs.declared.Kind.TheVariants.{Compute, Store, Load, Input, Assert, Assume, Lock, Unlock}
use Rattle.model.specs.Line.{Reads, reads_of, target_name, guard_true, expression, guarded_in_value, guarded_out_value, value_by, unrun_value, stops, stray_input, is_input, unrun_stray}
use Rattle.model.specs.Machine.{Memory, look, reads_in, stepped}
use Rattle.model.specs.Assignment.{Assignment}
use Rattle.model.specs.Copies.{read_after, reads_after}
use Rattle.laws.specs.Order.{AllLines, Positive}
use Rattle.laws.proofs.Unrun.{run_within_blocks, unrun_past_blocks}
use Rattle.correspondence.specs.Meaning.{WellFormed, Demanded, LineMet, LinesMet, InputGiven, GivenTo, InputsGiven}
use Rattle.model.specs.Runs.{memory_after}
use Rattle.correspondence.proofs.Step.{MemoryFits, step_fits, Corresponds, step_keeps_correspondence}
use Rattle.correspondence.proofs.Order.{HasBlock, NextIn, run_more}

-- A line runs and has this value: it neither stops the run nor is refused.
pub record LineRuns (kind : Kind) (l : Line) (value : ℕ) (reads : Reads) : Type 0 where
  pub has_value : value ≡ value_by kind l reads
  pub goes_on : stops kind l reads ≡ false
  pub not_stray : stray_input kind l reads ≡ false

-- A line was not run and has this value: refusal 14 does not meet it after the last step.
pub record LineUnrun (kind : Kind) (value given : ℕ) : Type 0 where
  pub has_value : value ≡ unrun_value kind
  pub not_stray : unrun_stray kind given ≡ false

-- What the constraints and the decoding say of a line that was run, from what it reads.
pub record LineDecoded (kind : Kind) (l : Line) (value given : ℕ) (reads : Reads) : Type 0 where
  pub has_value : value ≡ value_by kind l reads
  pub demand : Demanded kind l reads value
  pub inputs : InputGiven kind (guard_true l reads) value given

-- The arithmetic of a guard q: an assume of value x over an expression y, and a lock that reads y.
assume_goes_on : (q : Bool) (x y : ℕ) → x ≡ cond q (bit (nonzero y)) 1 → x ≡ 1 → (q && eqb y 0) ≡ false
assume_goes_on true x y e h = go (eqb y 0) e
  where
    go : (p : Bool) → x ≡ bit (not p) → p ≡ false
    go true e' = absurd (omega arith)
    go false e' = refl
assume_goes_on false x y e h = refl

assume_is_one : (q : Bool) (x y : ℕ) → x ≡ cond q (bit (nonzero y)) 1 → (q && eqb y 0) ≡ false → x ≡ 1
assume_is_one true x y e h = e ∙ ap (λ (p : Bool). bit (not p)) h
assume_is_one false x y e h = e

pub zero_where_true : (q : Bool) (y : ℕ) → (q && nonzero y) ≡ false → q ≡ true → y ≡ 0
zero_where_true true y h e = go (eq_view y 0)
  where
    go : EqView y 0 → y ≡ 0
    go (same p _) = p
    go (diff _ p) = absurd (false≢true (sym h ∙ ap not p))
zero_where_true false y h e = absurd (false≢true e)

pub not_nonzero_where_true : (q : Bool) (y : ℕ) → (q ≡ true → y ≡ 0) → (q && nonzero y) ≡ false
not_nonzero_where_true true y h = ap not (eq-eqb y 0 (h refl))
not_nonzero_where_true false y h = refl

-- An input of value x that is given y and whose target had `old`.
input_value : (q : Bool) (x y old : ℕ) → x ≡ cond q x old → y ≡ cond q x 0 → x ≡ cond q y old
input_value true x y old e h = sym h
input_value false x y old e h = e

input_own_value : (q : Bool) (x y old : ℕ) → x ≡ cond q y old → x ≡ cond q x old
input_own_value true x y old e = refl
input_own_value false x y old e = e

input_not_stray : (q : Bool) (x y : ℕ) → y ≡ cond q x 0 → (not q && nonzero y) ≡ false
input_not_stray true x y h = refl
input_not_stray false x y h = ap not (eq-eqb y 0 h)

input_given_lem : (q : Bool) (x y old : ℕ) → x ≡ cond q y old → (not q && nonzero y) ≡ false → y ≡ cond q x 0
input_given_lem true x y old e h = sym e
input_given_lem false x y old e h = zero_where_true true y h refl

-- One line, read by `reader`: a constraint gives it its own value x, the machine the schedule's value y.
module _ (G : ℕ) (reader : ℕ → ℕ) (l : Line) (x y : ℕ) where
  own : Reads
  own = reads_of G reader l x

  pub decoded_line_runs : (kind : Kind) → LineDecoded kind l x y (reads_of G reader l x) → LineRuns kind l x (reads_of G reader l y)
  unfolding value_by guard_true guarded_in_value guarded_out_value stops stray_input expression own
  decoded_line_runs Compute d = record { has_value = d.has_value; goes_on = refl; not_stray = refl }
  decoded_line_runs Store d = record { has_value = d.has_value; goes_on = refl; not_stray = refl }
  decoded_line_runs Load d = record { has_value = d.has_value; goes_on = refl; not_stray = refl }
  decoded_line_runs Input d = record {
    has_value = input_value (guard_true l own) x y (reader (target_name G l)) d.has_value (d.inputs refl);
    goes_on = refl;
    not_stray = input_not_stray (guard_true l own) x y (d.inputs refl);
  }
  decoded_line_runs Assert d = record { has_value = d.has_value; goes_on = refl; not_stray = refl }
  decoded_line_runs Assume d = record {
    has_value = d.has_value;
    goes_on = assume_goes_on (guard_true l own) x (expression l own) d.has_value d.demand;
    not_stray = refl;
  }
  decoded_line_runs Lock d = record {
    has_value = d.has_value;
    goes_on = not_nonzero_where_true (guard_true l own) (reader (target_name G l)) d.demand;
    not_stray = refl;
  }
  decoded_line_runs Unlock d = record { has_value = d.has_value; goes_on = refl; not_stray = refl }

  pub line_that_runs_is_decoded : (kind : Kind) → LineRuns kind l x (reads_of G reader l y) → LineDecoded kind l x y (reads_of G reader l x)
  unfolding value_by guard_true guarded_in_value guarded_out_value stops stray_input expression own
  line_that_runs_is_decoded Compute r = record { has_value = r.has_value; demand = tt; inputs = λ e. absurd (false≢true e) }
  line_that_runs_is_decoded Store r = record { has_value = r.has_value; demand = tt; inputs = λ e. absurd (false≢true e) }
  line_that_runs_is_decoded Load r = record { has_value = r.has_value; demand = tt; inputs = λ e. absurd (false≢true e) }
  line_that_runs_is_decoded Input r = record {
    has_value = input_own_value (guard_true l own) x y (reader (target_name G l)) r.has_value;
    demand = tt;
    inputs = λ e. input_given_lem (guard_true l own) x y (reader (target_name G l)) r.has_value r.not_stray;
  }
  line_that_runs_is_decoded Assert r = record { has_value = r.has_value; demand = tt; inputs = λ e. absurd (false≢true e) }
  line_that_runs_is_decoded Assume r = record {
    has_value = r.has_value;
    demand = assume_is_one (guard_true l own) x (expression l own) r.has_value r.goes_on;
    inputs = λ e. absurd (false≢true e);
  }
  line_that_runs_is_decoded Lock r = record {
    has_value = r.has_value;
    demand = zero_where_true (guard_true l own) (reader (target_name G l)) r.goes_on;
    inputs = λ e. absurd (false≢true e);
  }
  line_that_runs_is_decoded Unlock r = record { has_value = r.has_value; demand = tt; inputs = λ e. absurd (false≢true e) }

-- What a line reads is the same on both sides.
pub same_readers : (case : Case) (α : Assignment) (i : ℕ) (l : Line) (earlier : List Line) (m : Memory) → α.block l.number ≡ i
    → Corresponds case α i earlier m → look m ≡ read_after case α (α.block l.number) earlier
same_readers case α i l earlier m in_block corresponds = fun_ext corresponds ∙ ap (λ (j : ℕ). read_after case α j earlier) (sym in_block)

pub steps_fit : (case : Case) (given : ℕ → ℕ) (steps : ℕ) (ls : List Line) (m : Memory) → MemoryFits case m
    → MemoryFits case (memory_after case given steps ls m)
steps_fit case given zero ls m fits = fits
steps_fit case given (suc steps) [] m fits = fits
steps_fit case given (suc steps) (l ∷ ls) m fits = steps_fit case given steps ls (stepped case given l m) (step_fits case given l m fits)

module _ (case : Case) (given : ℕ → ℕ) (α : Assignment) where
  -- So many steps run, with the assignment's values.
  abbrev pub BlockRuns : ℕ → List Line → Memory → Type 0
  BlockRuns zero ls m = Unit
  BlockRuns (suc steps) [] m = ⊥
  BlockRuns (suc steps) (l ∷ ls) m =
      LineRuns l.kind l (α.value l.number) (reads_in case given l m) × BlockRuns steps ls (stepped case given l m)

  -- Constraints 4 and 5 of the lines of a thread, and their decoded inputs.
  abbrev pub LinesDecoded : List Line → List Line → Type 0
  LinesDecoded earlier ls = LinesMet case α earlier ls × InputsGiven case α given earlier ls

  -- The line's constraints where the reader is the machine's.
  DecodedBy : Line → (ℕ → ℕ) → Type 0
  DecodedBy l reader =
      LineDecoded l.kind l (α.value l.number) (given l.number) (reads_of case.G reader l (α.value l.number))

  met_line_runs : (i : ℕ) (l : Line) (earlier : List Line) (m : Memory) → i ≤ case.n → α.block l.number ≡ i
      → Corresponds case α i earlier m → LineMet case α earlier l → GivenTo case α given earlier l
      → LineRuns l.kind l (α.value l.number) (reads_in case given l m)
  unfolding DecodedBy
  met_line_runs i l earlier m few in_block corresponds met inputs =
      let run = run_within_blocks case (α.block l.number) (omega (arith, few, in_block)) in
      decoded_line_runs case.G (look m) l (α.value l.number) (given l.number) l.kind
      (subst (DecodedBy l) (sym (same_readers case α i l earlier m in_block corresponds))
      (record { has_value = rw run at met.value; demand = met.demand run; inputs = rw run at inputs }))

  line_that_runs_is_met : (i : ℕ) (l : Line) (earlier : List Line) (m : Memory) → i ≤ case.n → α.block l.number ≡ i
      → Corresponds case α i earlier m → LineRuns l.kind l (α.value l.number) (reads_in case given l m)
      → LineMet case α earlier l × GivenTo case α given earlier l
  unfolding DecodedBy
  line_that_runs_is_met i l earlier m few in_block corresponds runs =
      let run = run_within_blocks case (α.block l.number) (omega (arith, few, in_block)) in
      let decoded : LineDecoded l.kind l (α.value l.number) (given l.number) (reads_after case α earlier l) =
      subst (DecodedBy l) (same_readers case α i l earlier m in_block corresponds)
      (line_that_runs_is_decoded case.G (look m) l (α.value l.number) (given l.number) l.kind runs) in
      (record { value = rw run decoded.has_value; demand = λ _. decoded.demand }, rw run decoded.inputs)

  -- The lines that are left after all blocks, with the assignment's values.
  abbrev pub Unrun : Line → Type 0
  Unrun l = LineUnrun l.kind (α.value l.number) (given l.number)

  pub decoded_lines_are_unrun : (earlier ls : List Line) → AllLines (HasBlock α.block (suc case.n)) ls → LinesDecoded earlier ls
      → AllLines Unrun ls
  unfolding unrun_stray
  decoded_lines_are_unrun earlier [] after decoded = tt
  decoded_lines_are_unrun earlier (l ∷ ls) after decoded =
      let unrun = unrun_past_blocks case (α.block l.number) after.0 in (
        record {
          has_value = rw unrun at decoded.0.0.value;
          not_stray = not_nonzero_where_true (is_input l.kind) (given l.number) (rw unrun at decoded.1.0);
        },
        decoded_lines_are_unrun (l ∷ earlier) ls after.1 (decoded.0.1, decoded.1.1),
      )

  pub unrun_lines_are_decoded : (earlier ls : List Line) → AllLines (HasBlock α.block (suc case.n)) ls → AllLines Unrun ls
      → LinesDecoded earlier ls
  unfolding unrun_stray
  unrun_lines_are_decoded earlier [] after left = (tt, tt)
  unrun_lines_are_decoded earlier (l ∷ ls) after left =
      let unrun = unrun_past_blocks case (α.block l.number) after.0 in
      let rest = unrun_lines_are_decoded (l ∷ earlier) ls after.1 left.1 in (
        (record { value = rw unrun left.0.has_value; demand = λ run. absurd (false≢true (sym unrun ∙ run)) }, rest.0),
        (rw unrun (zero_where_true (is_input l.kind) (given l.number) left.0.not_stray), rest.1),
      )

  module _ (wf : WellFormed case) where
    pub block_keeps_correspondence : (i steps : ℕ) (ls earlier : List Line) (m : Memory) → MemoryFits case m → AllLines Positive ls
        → NextIn α.block i steps ls → BlockRuns steps ls m → Corresponds case α i earlier m
        → Corresponds case α i (run_more steps ls earlier) (memory_after case given steps ls m)
    block_keeps_correspondence i zero ls earlier m fits positive next runs corresponds = corresponds
    block_keeps_correspondence i (suc steps) [] earlier m fits positive next runs corresponds = corresponds
    block_keeps_correspondence i (suc steps) (l ∷ ls) earlier m fits positive next runs corresponds =
        block_keeps_correspondence i steps ls (l ∷ earlier) (stepped case given l m) (step_fits case given l m fits) positive.1
        next.1 runs.1
        (step_keeps_correspondence case α wf given i l earlier m fits positive.0 next.0 runs.0.has_value corresponds)

    pub decoded_block_runs : (i steps : ℕ) (ls earlier : List Line) (m : Memory) → i ≤ case.n → MemoryFits case m → AllLines Positive ls
        → NextIn α.block i steps ls → Corresponds case α i earlier m → LinesDecoded earlier ls
        → BlockRuns steps ls m × LinesDecoded (run_more steps ls earlier) (drop steps ls)
    decoded_block_runs i zero ls earlier m few fits positive next corresponds decoded = (tt, decoded)
    decoded_block_runs i (suc steps) [] earlier m few fits positive next corresponds decoded = absurd next
    decoded_block_runs i (suc steps) (l ∷ ls) earlier m few fits positive next corresponds decoded =
        let runs = met_line_runs i l earlier m few next.0 corresponds decoded.0.0 decoded.1.0 in
        let ih = decoded_block_runs i steps ls (l ∷ earlier) (stepped case given l m) few (step_fits case given l m fits)
        positive.1 next.1
        (step_keeps_correspondence case α wf given i l earlier m fits positive.0 next.0 runs.has_value corresponds)
        (decoded.0.1, decoded.1.1) in
        ((runs, ih.0), ih.1)

    pub block_that_runs_is_decoded : (i steps : ℕ) (ls earlier : List Line) (m : Memory) → i ≤ case.n → MemoryFits case m
        → AllLines Positive ls → NextIn α.block i steps ls → Corresponds case α i earlier m → BlockRuns steps ls m
        → LinesDecoded (run_more steps ls earlier) (drop steps ls) → LinesDecoded earlier ls
    block_that_runs_is_decoded i zero ls earlier m few fits positive next corresponds runs decoded = decoded
    block_that_runs_is_decoded i (suc steps) [] earlier m few fits positive next corresponds runs decoded = (tt, tt)
    block_that_runs_is_decoded i (suc steps) (l ∷ ls) earlier m few fits positive next corresponds runs decoded =
        let line = line_that_runs_is_met i l earlier m few next.0 corresponds runs.0 in
        let ih = block_that_runs_is_decoded i steps ls (l ∷ earlier) (stepped case given l m) few (step_fits case given l m fits)
        positive.1 next.1
        (step_keeps_correspondence case α wf given i l earlier m fits positive.0 next.0 runs.0.has_value corresponds)
        runs.1 decoded in
        ((line.0, ih.0), (line.1, ih.1))
