-- A line whose effect the code has carried out is a step of the machine.
-- Assumes nothing.
use mathlib.Core.Path.{◌≡◌, refl, sym, ap, ap₂, ◌∙◌}
use Prim.Native.Nat.{ℕ, suc, ◌≤◌}
use mathlib.Core.Bool.{Bool, true, false, cond}
use mathlib.Core.List.{List, ◌∷◌}
use native.Mathlib.Omega.{arith}
use lib.ListN.{take}
use Rattle.model.specs.Limits.{most_items}
use Rattle.model.specs.CaseFile.{Line, global_count, line_of, case_of}
use Rattle.model.specs.Line.{Reads, no_name, target_name, guard_true, value_of, stops, breaks, stray_input}
use Rattle.model.specs.Machine.{put_local, put_item, noted, reads_in, stepped, run_block}
use Rattle.model.specs.Fill.{put_record}
use Rattle.case_file.specs.declared.Record.{Record}
use Rattle.case_file.specs.Records.{record_of, as_line}
use Rattle.line.specs.CaseCounts.{HasCounts}
use Rattle.line.specs.LineReads.{reads_from}
use Rattle.line.specs.declared.Counts.{Counts}
use Rattle.line.proofs.Memories.{put_beyond}
use Rattle.turn.specs.declared.Effect.{Effect}
use Rattle.turn.specs.declared.Effect.TheVariants.{Strays, Stops, Writes}
use Rattle.turn.specs.declared.Stand.{Stand}
use Rattle.turn.specs.declared.Stand.TheVariants.{Running, Strayed, Stopped}
use Rattle.turn.specs.declared.Turn.{Turn}
use Rattle.turn.specs.TurnState.{items_of, memory_of, given_by}
use Rattle.turn.specs.Promises.{end_by, end_of, continued, effect_of, Effective, LineTraced, gone_on}

-- What an effect says of the line.
module _ (G : ℕ) (l : Line) (reads : Reads) where
  abbrev written : Effect
  written = Writes (cond (guard_true l reads) (target_name G l) no_name) (cond (guard_true l reads) (value_of l reads) 0) (breaks true l.kind l reads (value_of l reads))

  straying : Strays ≡ effect_of G l reads → stray_input l.kind l reads ≡ true
  straying is = by (stray_input l.kind l reads) (stops l.kind l reads) is
    where
      by : (strays ends : Bool) → Strays ≡ cond strays Strays (cond ends Stops written) → strays ≡ true
      by true ends e = refl
      by false true e = cc
      by false false e = cc

  stopping : Stops ≡ effect_of G l reads → (stray_input l.kind l reads ≡ false) × (stops l.kind l reads ≡ true)
  stopping is = by (stray_input l.kind l reads) (stops l.kind l reads) is
    where
      by : (strays ends : Bool) → Stops ≡ cond strays Strays (cond ends Stops written) → (strays ≡ false) × (ends ≡ true)
      by true ends e = cc
      by false true e = (refl, refl)
      by false false e = cc

  record Written (name value : ℕ) (broken : Bool) : Type 0 where
    passing : stray_input l.kind l reads ≡ false
    going : stops l.kind l reads ≡ false
    breaking : broken ≡ breaks true l.kind l reads (value_of l reads)
    naming : name ≡ cond (guard_true l reads) (target_name G l) no_name
    giving : guard_true l reads ≡ true → value ≡ value_of l reads

  writing : {name value : ℕ} {broken : Bool} → Writes name value broken ≡ effect_of G l reads → Written name value broken
  writing {name} {value} {broken} is =
      let w = by (stray_input l.kind l reads) (stops l.kind l reads) is in
      let same : Writes name value broken ≡ written = w.1 in
      let gives : value ≡ cond (guard_true l reads) (value_of l reads) 0 = cc in
      record { passing = w.0.0; going = w.0.1; breaking = cc; naming = cc; giving = λ guarded. rw guarded at gives }
    where
      by : (strays ends : Bool) → Writes name value broken ≡ cond strays Strays (cond ends Stops written)
          → ((strays ≡ false) × (ends ≡ false)) × (Writes name value broken ≡ written)
      by true ends e = cc
      by false true e = cc
      by false false e = ((refl, refl), e)

put_nothing : (name value : ℕ) (xs : List ℕ) → xs ≡ put_item false name value xs
unfolding put_item
put_nothing name value xs = refl

-- A name and its value where `on` is true, and no name otherwise.
module _ (name target value value' : ℕ) where
  put_local_lem : (on : Bool) (xs : List ℕ) → name ≡ cond on target no_name → (on ≡ true → value ≡ value') → put_local true name value xs ≡ put_local on target value' xs
  unfolding put_local
  put_local_lem true xs is gives = rw (is, gives refl)
  put_local_lem false xs is gives = rw is

  put_item_lem : (on : Bool) (count : ℕ) (xs : List ℕ) → count ≤ most_items → name ≡ cond on target no_name → (on ≡ true → value ≡ value')
      → put_item true name value (take count xs) ≡ put_item on target value' (take count xs)
  put_item_lem true count xs few is gives = rw (is, gives refl)
  put_item_lem false count xs few is gives = rw is (sym (put_beyond xs count value no_name (omega arith) few) ∙ put_nothing target value' (take count xs))

-- The next line of a turn of thread t is run, and then the turn is so.
abbrev pub Stepped : List ℕ → List ℕ → ℕ → Turn → Turn → Type 0
Stepped bytes givens t turn after = (steps : ℕ) (ls : List Line)
    → run_block (case_of bytes) (given_by givens) (suc steps) (line_of bytes t turn.next ∷ ls) (memory_of bytes turn) turn.note
    ≡ continued (end_of bytes after) (run_block (case_of bytes) (given_by givens) steps ls)

-- The same, with the line's numbers in the trace of block i.
pub record StepTraced (bytes givens : List ℕ) (t i : ℕ) (turn after : Turn) (trace trace' : List ℕ) : Type 0 where
  pub memory : stepped (case_of bytes) (given_by givens) (line_of bytes t turn.next) (memory_of bytes turn) ≡ memory_of bytes after
  pub record_put : trace' ≡ put_record turn.next i (value_of (line_of bytes t turn.next) (reads_in (case_of bytes) (given_by givens) (line_of bytes t turn.next) (memory_of bytes turn))) trace

-- A turn's next line is line l of a case with these counts.
module _ {bytes : List ℕ} (givens : List ℕ) (t : ℕ) (turn : Turn) {counts : Counts} (are : HasCounts bytes counts) {l : Record} (is_l : l ≡ record_of bytes t turn.next) where
  abbrev line : Line
  line = line_of bytes t turn.next

  abbrev reads : Reads
  reads = reads_in (case_of bytes) (given_by givens) line (memory_of bytes turn)

  -- e is what it does
  abbrev Doing : Effect → Type 0
  Doing e = Effective counts.globals (as_line l turn.next) (reads_from counts.globals counts.items (given_by givens turn.next) turn.locals turn.items (as_line l turn.next)) e

  does_it : {e : Effect} → Doing e → Effective (global_count bytes) line reads e
  does_it does = rw (is_l, are.globals, are.items) at does

  pub step_strays : Doing Strays
      → Stepped bytes givens t turn (record { next = turn.next; locals = turn.locals; items = turn.items; stand = Strayed turn.next; note = turn.note })
  unfolding run_block
  step_strays does steps ls =
      let s : stray_input line.kind line reads ≡ true = straying (global_count bytes) line reads (does_it does) in
      rw s

  pub step_stops : Doing Stops
      → Stepped bytes givens t turn (record { next = turn.next; locals = turn.locals; items = turn.items; stand = Stopped turn.next; note = turn.note })
  unfolding run_block
  step_stops does steps ls =
      let s = stopping (global_count bytes) line reads (does_it does) in
      let passes = s.0 in
      let ends = s.1 in
      rw (passes, ends)

  module _ {name value : ℕ} {broken : Bool} (does : Doing (Writes name value broken)) where
    writes : Written (global_count bytes) line reads name value broken
    writes = writing (global_count bytes) line reads (does_it does)

    module _ (locals' items' : List ℕ) (are_locals : locals' ≡ put_local true name value turn.locals)
        (are_items : take counts.items items' ≡ put_item true name value (take counts.items turn.items)) (next : ℕ)
      where
        abbrev after : Turn
        after = gone_on (record { next = turn.next; locals = locals'; items = items'; stand = turn.stand; note = turn.note }) next turn.next broken

        pub step_memory : stepped (case_of bytes) (given_by givens) line (memory_of bytes turn) ≡ memory_of bytes after
        step_memory =
            let are_locals' = are_locals ∙ put_local_lem name (target_name (global_count bytes) line) value (value_of line reads) (guard_true line reads) turn.locals writes.naming writes.giving in
            let are_items' : items_of bytes items' ≡ put_item (guard_true line reads) (target_name (global_count bytes) line) (value_of line reads) (items_of bytes turn.items) =
            rw are.items at (are_items ∙ put_item_lem name (target_name (global_count bytes) line) value (value_of line reads) (guard_true line reads) counts.items turn.items counts.few_items writes.naming writes.giving) in
            λ i. record { locals = sym are_locals' i; items = sym are_items' i }

        pub step_goes : turn.stand ≡ Running → Stepped bytes givens t turn after
        unfolding run_block
        step_goes runs steps ls =
            let passes = writes.passing in
            let goes = writes.going in
            rw (passes, goes)
            (ap₂ (run_block (case_of bytes) (given_by givens) steps ls) step_memory (ap (noted turn.note line) (sym writes.breaking))
            ∙ sym (ap (λ (x : Stand). continued (end_by bytes x after) (run_block (case_of bytes) (given_by givens) steps ls)) runs))

        -- the record of the line in the trace
        pub step_traced : (i : ℕ) (trace trace' : List ℕ)
            → LineTraced turn.next i (as_line l turn.next) (reads_from counts.globals counts.items (given_by givens turn.next) turn.locals turn.items (as_line l turn.next)) value trace trace'
            → StepTraced bytes givens t i turn after trace trace'
        step_traced i trace trace' puts =
            let puts_it : LineTraced turn.next i line reads value trace trace' = rw (is_l, are.globals, are.items) at puts in
            record { memory = step_memory; record_put = puts_it writes.giving }
