-- What the proof says of a trace: what its events add up to, when a run finishes, and when an assignment has a trace's numbers.
-- Assumes nothing. The statement does not rest on it.
use Rattle.std.specs.Prelude.{◌≡◌, ℕ, zero, suc, ◌+◌, ◌<◌, Bool, false, ◌&&◌, List, [], ◌∷◌, get_or}
use Rattle.model.specs.Word.{bit}
use Rattle.model.specs.CaseFile.{Line, Case, item_count}
use Rattle.model.specs.Line.{stops, stray_input, unrun_stray}
use Rattle.model.specs.Assignment.{Assignment}
use Rattle.model.specs.Machine.{Memory, State, reads_in, stepped, rest_in, memory_in}
use Rattle.model.specs.Runs.{next_state}
use Rattle.laws.specs.Order.{AllThreads}
use Rattle.correspondence.specs.Trace.{Event}

-- How many events of lines that are asked about violate; a weight of each line added up over the events.
abbrev pub broken_in : (Line → Bool) → List Event → ℕ
broken_in asked [] = 0
broken_in asked (e ∷ es) = bit (asked e.line && e.broken) + broken_in asked es

abbrev pub sum_of_events : (Line → ℕ) → List Event → ℕ
sum_of_events weight [] = 0
sum_of_events weight (e ∷ es) = weight e.line + sum_of_events weight es

-- A run finishes: no step is stopped or refused, and at the end no input is left that refusal 14 meets.
abbrev pub FinishesBlock : Case → (ℕ → ℕ) → ℕ → List Line → Memory → Type 0
FinishesBlock case given zero ls m = Unit
FinishesBlock case given (suc steps) [] m = ⊥
FinishesBlock case given (suc steps) (l ∷ ls) m =
    (stops l.kind l (reads_in case given l m) ≡ false) × (stray_input l.kind l (reads_in case given l m) ≡ false)
    × FinishesBlock case given steps ls (stepped case given l m)

-- What may be left at the end of a run. Two: "An unrun input has value 0, otherwise 14".
abbrev pub MayBeLeft : (ℕ → ℕ) → Line → Type 0
MayBeLeft given l = unrun_stray l.kind (given l.number) ≡ false

abbrev pub Finishes : Case → (ℕ → ℕ) → ℕ → List ℕ → State → Type 0
Finishes case given i [] s = AllThreads (MayBeLeft given) s.rests
Finishes case given i (len ∷ lens) s =
    FinishesBlock case given len (rest_in case i s) (memory_in case i s) × Finishes case given (suc i) lens (next_state case given i len s)

-- An assignment has a trace's numbers: those of the events, and the items where blocks 0 to n − 1 end.
abbrev pub Agrees : Assignment → List Event → Type 0
Agrees α [] = Unit
Agrees α (e ∷ es) = (α.block e.line.number ≡ e.block) × (α.value e.line.number ≡ e.value) × Agrees α es

abbrev pub Snapshot : Case → Assignment → ℕ → List ℕ → Type 0
Snapshot case α i items = i < case.n → (g : ℕ) → g < item_count case → α.block_value i g ≡ get_or items g 0

abbrev pub AgreesItems : Case → Assignment → ℕ → List (List ℕ) → Type 0
AgreesItems case α i [] = Unit
AgreesItems case α i (items ∷ rest) = Snapshot case α i items × AgreesItems case α (suc i) rest
