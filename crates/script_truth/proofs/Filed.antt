-- What is proved of the text of a case holds: the statement is specs/Filed.antt. What is left here is to bring together that the text is
-- read back (`reading`'s Scripts and SpelledTable), that its script is true where the rows hold (Truth), and demand 3.
-- Assumes nothing. This is where the other modules lead.
use Rattle.std.specs.Prelude.{Ok, Err}
use mathlib.Core.Path.{◌≡◌, refl, sym, ap, ◌∙◌}
use mathlib.Core.Logic.{◌↔◌}
use Prim.Native.Nat.{ℕ, suc, ◌≤◌, ◌<◌}
use mathlib.Core.List.{List, [], ◌∷◌}
use mathlib.Core.Option.{Option, some}
use native.Mathlib.Omega.{arith}
use native.Mathlib.Nat.{le_refl}
use lib.ListN.{length, drop}
use lib.Seq.{take-append_seam}
use borrow.Author.Tests.{le-leb, lt-leb}
use Rattle.model.specs.Word.{AllBelow}
use Rattle.model.specs.Lists.{written_over}
use Rattle.model.specs.CaseFile.{Case, case_of}
use Rattle.model.specs.Accept.{verdict}
use Rattle.model.specs.Assignment.{variables, assignment_of}
use Rattle.model.specs.Table.{Row, table, numbers_of}
use Rattle.smt.specs.Script.{Script}
use Rattle.smt.specs.Reader.{read_script}
use Rattle.script.specs.Assertions.{assertions_of, sources_of, script_of}
use Rattle.script.specs.Text.{smt_text, measured, spelled, spelled_into}
use Rattle.laws.proofs.OnCase.{on_accepted}
use Rattle.reading.proofs.Scripts.{read_back}
use Rattle.correspondence.specs.Demand3.{Yes, MeetsWithoutEights, Demand3}
use Rattle.correspondence.proofs.Replies.{passes_of_meets}
use Rattle.correspondence.proofs.FirstFailing.{first_fails, failing_of_first, checker_names_the_first, fails_of_first}
use Rattle.correspondence.proofs.Demand3 as demand
use Rattle.script_truth.specs.Filed.{text_room, written_text, Found, Model, script_without_eights, text_without_eights, Filed, ForEveryText}
use Rattle.script_truth.proofs.SpelledTable.{script_spelled, without_spelled}
use Rattle.script_truth.proofs.Truth.{each_assertion_agrees, first_false_is_first_row, true_is_every_row, true_without_is_rows, true_is_yes}
use Rattle.model.specs.declared.Refusal.TheVariants as refusals

one_for_each : (case : Case) (sources : List ℕ) (ws : List Row) → length (assertions_of case sources ws) ≡ length ws
unfolding assertions_of
one_for_each case sources [] = refl
one_for_each case sources (w ∷ ws) = ap suc (one_for_each case sources ws)

-- What is so of what the reader finds is so of the script that it finds.
found_in : {read : Option Script} {script : Script} → read ≡ some script → (Says : Script → Type 0) → Found read Says ↔ Says script
found_in is Says = rw is ((λ told. told), (λ told. told))

module _ (bytes : List ℕ) (small : AllBelow 256 bytes) (accepted : verdict bytes ≡ Ok tt) where
  abbrev case : Case
  case = case_of bytes

  -- ---- What the calls write.
  measures : measured bytes ≡ Ok (text_room bytes)
  unfolding measured
  measures = on_accepted _ _ _ accepted

  short_slice : (room : ℕ) → room < text_room bytes → spelled bytes room ≡ Err refusals.Short
  unfolding spelled
  short_slice room h = rw (on_accepted _ _ _ accepted, lt-leb _ _ h)

  with_room : (room : ℕ) → text_room bytes ≤ room → spelled bytes room ≡ Ok (text_room bytes)
  unfolding spelled
  with_room room h = rw (on_accepted _ _ _ accepted, le-leb _ _ h)

  written : (slice : List ℕ) → text_room bytes ≤ length slice → written_text bytes slice ≡ smt_text bytes
  unfolding spelled_into written_over
  written slice h = rw (with_room (length slice) h) (take-append_seam (smt_text bytes) (drop (text_room bytes) slice))

  -- ---- What the reader finds.
  read : read_script (smt_text bytes) ≡ some (script_of case)
  unfolding smt_text
  read = read_back (script_of case) (script_spelled bytes accepted small)

  found : (Says : Script → Type 0) → Found (read_script (smt_text bytes)) Says ↔ Says (script_of case)
  found = found_in read

  its_variables : (script_of case).variables ≡ variables case
  unfolding script_of
  its_variables = refl

  one_for_each_row : length (script_of case).assertions ≡ length (table case)
  unfolding script_of
  one_for_each_row = one_for_each case (sources_of case) (table case)

  models : (xs : List ℕ) → Model (smt_text bytes) xs ↔ Yes bytes xs
  unfolding script_of
  models xs = (
    (λ model. let told = (found _).0 model in (told.0, (true_is_yes bytes accepted xs told.1).0 told.2)),
    (λ yes. let sized = (passes_of_meets bytes xs yes.1).has_size in
        (found _).1 (yes.0, sized, (true_is_yes bytes accepted xs sized).1 yes.1)),
  )

  -- The same of the text without the assertions of the 8s, with the table's numbers for what the encoder writes.
  models_without : (xs : List ℕ) → Model (text_without_eights bytes) xs ↔ MeetsWithoutEights bytes (numbers_of (table case)) xs
  models_without xs =
      let told = found_in (read_back (script_without_eights case) (without_spelled bytes accepted small)) _ in
      let rows = true_without_is_rows bytes accepted xs in
      let written = demand.read_back bytes small accepted (numbers_of (table case)) (le_refl _) in (
        (λ model. let is = told.0 model in (is.0, is.1, rw written (rows.0 is.2))),
        (λ met. told.1 (met.0, met.1, rows.1 (rw written at met.2))),
      )

  corresponds : Demand3 bytes
  corresponds = demand.demand_3 bytes small accepted

  filed : Filed bytes
  filed = record {
    measures = measures;
    short_slice = short_slice;
    written = λ slice h. (with_room (length slice) h, written slice h);
    read = read;
    its_variables = its_variables;
    one_for_each_row = one_for_each_row;
    each_agrees_lem = each_assertion_agrees bytes accepted;
    true_is_every_row = λ xs. (
      (λ told. (true_is_every_row bytes accepted xs).0 ((found _).0 told)),
      (λ rows. (found _).1 ((true_is_every_row bytes accepted xs).1 rows)),
    );
    yes_is_true = λ xs. (
      (λ met. let sized = (passes_of_meets bytes xs met).has_size in (sized, (found _).1 ((true_is_yes bytes accepted xs sized).1 met))),
      (λ both. (true_is_yes bytes accepted xs both.0).0 ((found _).0 both.1)),
    );
    no_names_the_first_false = λ xs j. (
      (λ told. let named = checker_names_the_first bytes xs j told in (
        named.0,
        (λ z. omega (arith, named.1.place)),
        first_false_is_first_row bytes accepted xs ∙ failing_of_first case (assignment_of case xs) 1 (table case) j named.1,
      )),
      (λ first. fails_of_first bytes xs j accepted first.0
          (first_fails case (assignment_of case xs) 1 (table case) j (sym (first_false_is_first_row bytes accepted xs) ∙ first.2) first.1)),
    );
    model_is_yes = models;
    some_model_is_some_violating_run = (
      (λ some. corresponds.some_yes_is_some_violating_run.0 (some.0, (models some.0).0 some.1)),
      (λ some. let yes = corresponds.some_yes_is_some_violating_run.1 some in (yes.0, (models yes.0).1 yes.1)),
    );
    model_decodes_to_violated = λ xs model. corresponds.decodes_to_violated xs ((models xs).0 model);
    same_without_8s = let same = corresponds.same_without_8s (numbers_of (table case)) (le_refl _) in (
      (λ some. let met = same.0 (some.0, (models some.0).0 some.1) in (met.0, (models_without met.0).1 met.1)),
      (λ some. let yes = same.1 (some.0, (models_without some.0).0 some.1) in (yes.0, (models yes.0).1 yes.1)),
    );
  }

pub every_text : ForEveryText
every_text = filed
