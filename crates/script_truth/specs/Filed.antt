-- What is proved of the text of a case: document 02, One. It stands over what the calls write and answer, by the definitions that
-- their contracts promise to equal, and over what the reader (`smt`'s Reader) finds in those bytes. It is proved in proofs/Filed.antt.
-- Assumes nothing.
use Rattle.std.specs.Prelude.{◌≡◌, ◌↔◌, ◌≢◌, ℕ, ◌≤◌, ◌<◌, true, List, length, take, Ok, Err}
use Rattle.std.proofs.Math.Option.{Option, none, some}
use Rattle.model.specs.Word.{AllBelow}
use Rattle.model.specs.CaseFile.{Case, case_of}
use Rattle.model.specs.Accept.{verdict}
use Rattle.model.specs.Assignment.{variables, assignment_of}
use Rattle.model.specs.Table.{table, without_eights}
use Rattle.model.specs.Runs.{KeepsRule}
use Rattle.model.specs.Answers.{checked}
use Rattle.model.specs.declared.Checked.TheVariants.{Meets, Fails}
use Rattle.smt.specs.Term.{bit_vectors}
use Rattle.smt.specs.Script.{Script, environment, first_false, script_true}
use Rattle.smt.specs.Spelling.{script_text}
use Rattle.smt.specs.Reader.{read_script}
use Rattle.script.specs.Assertions.{sources_of, assertions_of, script_of}
use Rattle.script.specs.Text.{smt_text, measured, spelled, spelled_into}
use Rattle.laws.specs.AllHold.{AllHold}
use Rattle.correspondence.specs.Demand3.{Yes, DecodedAs, counted, AnsweredViolated, ViolatingRun}
use Rattle.script_truth.specs.Agreement.{EachAgrees}
use Rattle.model.specs.declared.Refusal.TheVariants as refusals

-- How many bytes a slice must hold, and the text that the call leaves in a slice.
abbrev pub text_room : List ℕ → ℕ
text_room bytes = length (smt_text bytes)

abbrev pub written_text : List ℕ → List ℕ → List ℕ
written_text bytes slice = take (text_room bytes) (spelled_into bytes slice)

-- What is so of the script that the reader finds; nothing is where it finds none.
abbrev pub Found : Option Script → (Script → Type 0) → Type 0
Found none Says = ⊥
Found (some script) Says = Says script

-- A text is true of an assignment: every assertion that is read in it is.
abbrev pub TextTrue : List ℕ → List ℕ → Type 0
TextTrue text xs = Found (read_script text) (λ script. script_true script xs ≡ true)

-- A model of a text, as a solver gives one that answers sat: a number of 16 bits for each variable that the text declares, of which
-- every assertion is true.
abbrev pub Model : List ℕ → List ℕ → Type 0
Model text xs = Found (read_script text) (λ script. AllBelow bit_vectors xs × (length xs ≡ script.variables) × (script_true script xs ≡ true))

-- Five: the script and the text of a case without the assertions of the 8s.
abbrev pub script_without_eights : Case → Script
script_without_eights case = record { variables = variables case; assertions = assertions_of case (sources_of case) (without_eights (table case)) }

abbrev pub text_without_eights : List ℕ → List ℕ
text_without_eights bytes = script_text (script_without_eights (case_of bytes))

pub record Filed (bytes : List ℕ) : Type 0 where
  -- ---- The text and its script.
  -- The text is measured, and written where there is room; "A short slice meets refusal 10."
  pub measures : measured bytes ≡ Ok (text_room bytes)
  pub short_slice : (room : ℕ) → room < text_room bytes → spelled bytes room ≡ Err refusals.Short
  pub written : (slice : List ℕ) → text_room bytes ≤ length slice
      → (spelled bytes (length slice) ≡ Ok (text_room bytes)) × (written_text bytes slice ≡ smt_text bytes)
  -- The reader finds the case's script in it, which has the case's variables and "one assertion for each constraint".
  pub read : read_script (smt_text bytes) ≡ some (script_of (case_of bytes))
  pub its_variables : (script_of (case_of bytes)).variables ≡ variables (case_of bytes)
  pub one_for_each_row : length (script_of (case_of bytes)).assertions ≡ length (table (case_of bytes))
  -- ---- The text and the table.
  -- Assertion by assertion, "in table order": each is true exactly if its row holds, where the rows before it hold.
  pub each_agrees_lem : (xs : List ℕ)
      → EachAgrees (case_of bytes) (assignment_of (case_of bytes) xs) (environment xs) (table (case_of bytes)) (script_of (case_of bytes)).assertions
  -- "The text must be true of an assignment exactly when the table is",
  pub true_is_every_row : (xs : List ℕ) → TextTrue (smt_text bytes) xs ↔ AllHold (case_of bytes) (assignment_of (case_of bytes) xs) (table (case_of bytes))
  -- that is, for one with a number for each variable, when the checker says yes;
  pub yes_is_true : (xs : List ℕ) → (checked bytes xs ≡ Ok Meets) ↔ ((length xs ≡ variables (case_of bytes)) × TextTrue (smt_text bytes) xs)
  -- and the constraint that the checker names is the first assertion, from 1, that is false.
  pub no_names_the_first_false : (xs : List ℕ) (j : ℕ) →
      (checked bytes xs ≡ Ok (Fails j))
      ↔ ((length xs ≡ variables (case_of bytes)) × (j ≢ 0) × (first_false (environment xs) 1 (script_of (case_of bytes)).assertions ≡ j))
  -- ---- The text and the runs: demand 3, with a model of the text where it says an assignment with yes, for these are the same.
  pub model_is_yes : (xs : List ℕ) → Model (smt_text bytes) xs ↔ Yes bytes xs
  pub some_model_is_some_violating_run : ((xs : List ℕ) × Model (smt_text bytes) xs) ↔ ((schedule : List ℕ) × ViolatingRun bytes schedule)
  pub model_decodes_to_violated : (xs : List ℕ) → Model (smt_text bytes) xs
      → DecodedAs bytes xs (counted bytes xs) × AnsweredViolated bytes (counted bytes xs) × KeepsRule (case_of bytes) (counted bytes xs)
  -- ---- Five: "the solver's yes or no is unchanged by the new constraint": the text has a model exactly if it has one without the
  -- assertions of the 8s.
  pub same_without_8s : ((xs : List ℕ) × Model (smt_text bytes) xs) ↔ ((xs : List ℕ) × Model (text_without_eights bytes) xs)

-- For every list of bytes that no refusal from 1 to 9 meets.
abbrev pub ForEveryText : Type 0
ForEveryText = (bytes : List ℕ) → AllBelow 256 bytes → verdict bytes ≡ Ok tt → Filed bytes
