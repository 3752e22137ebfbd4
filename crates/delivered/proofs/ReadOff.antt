-- The numbers that C and Rust get tell the answers apart: each answer can be had back from them. So demand 3 can be read off them.
-- Assumes nothing. Met again in Delivered.
use Rattle.std.specs.Prelude.{Result, Ok, Err}
use mathlib.Core.Path.{◌≡◌, refl, sym, ap, ap₂, ◌∙◌}
use mathlib.Core.Logic.{◌↔◌, ◌≢◌}
use Prim.Native.Nat.{ℕ, ◌<◌}
use mathlib.Core.Bool.{cond}
use mathlib.Core.List.{List, [], ◌∷◌}
use native.Mathlib.Omega.{arith}
use lib.Dec.{eqb}
use lib.ListN.{get_or}
use Rattle.model.specs.declared.Refusal.{Refusal}
use Rattle.model.specs.declared.Refusal.TheVariants.{Size, Threads, Switches, Counts, Absent, Links, Unreached, Lines, Fields, Short, Assignment, Schedule, Lengths, Stray, Fails, NoViolation, Late}
use Rattle.model.specs.Refusals.{Verdict, refusal_number, refusal_place}
use Rattle.model.specs.Answers.{refused_numbers, verdict_numbers, encoded_numbers, checked_numbers, decoded_numbers, replayed_numbers, filled_numbers, checked, replayed}
use Rattle.model.specs.Listing.{listed_numbers}
use Rattle.model.specs.declared.Numbers.{Numbers}
use Rattle.model.specs.declared.TableSize.{TableSize}
use Rattle.model.specs.declared.Checked.{Checked}
use Rattle.model.specs.declared.Checked.TheVariants as checkeds
use Rattle.model.specs.declared.Replayed.{Replayed}
use Rattle.model.specs.declared.Replayed.TheVariants as replayeds
use Rattle.model.specs.Taking.{taken_numbers}
use Rattle.model.specs.declared.Copies.{Copies}
use Rattle.model.specs.declared.CopyNumbers.{CopyNumbers}
use Rattle.script.specs.Text.{spelled_numbers}
use Rattle.script.specs.declared.TextNumbers.{TextNumbers}
use Rattle.correspondence.specs.Demand3.{Demand3}
use Rattle.correspondence.proofs.Demand3.{refusals_numbered}
use Rattle.delivered.specs.ReadOff.{RefusedWith, AnswersToldApart, SomeYes, SomeViolated}

-- ---- A refusal had back from its number and place.

abbrev refusal_back : ℕ → ℕ → Refusal
refusal_back number place =
    get_or
    (Size ∷ Size ∷ Threads ∷ Switches ∷ Counts ∷ Absent ∷ Links ∷ Unreached ∷ Lines ∷ Fields place ∷ Short ∷ Assignment ∷ Schedule ∷ Lengths ∷ Stray place ∷ Fails place ∷ NoViolation ∷ Late place ∷ [])
    number Size

refusal_is_back : (e : Refusal) → refusal_back (refusal_number e) (refusal_place e) ≡ e
refusal_is_back Size = refl
refusal_is_back Threads = refl
refusal_is_back Switches = refl
refusal_is_back Counts = refl
refusal_is_back Absent = refl
refusal_is_back Links = refl
refusal_is_back Unreached = refl
refusal_is_back Lines = refl
refusal_is_back (Fields k) = refl
refusal_is_back Short = refl
refusal_is_back Assignment = refl
refusal_is_back Schedule = refl
refusal_is_back Lengths = refl
refusal_is_back (Stray k) = refl
refusal_is_back (Fails constraint) = refl
refusal_is_back NoViolation = refl
refusal_is_back (Late k) = refl

refusals_told : (e f : Refusal) → refusal_number e ≡ refusal_number f → refusal_place e ≡ refusal_place f → e ≡ f
refusals_told e f number place = sym (refusal_is_back e) ∙ ap₂ refusal_back number place ∙ refusal_is_back f

has_number : (e : Refusal) → 0 < refusal_number e
has_number Size = omega arith
has_number Threads = omega arith
has_number Switches = omega arith
has_number Counts = omega arith
has_number Absent = omega arith
has_number Links = omega arith
has_number Unreached = omega arith
has_number Lines = omega arith
has_number (Fields k) = omega arith
has_number Short = omega arith
has_number Assignment = omega arith
has_number Schedule = omega arith
has_number Lengths = omega arith
has_number (Stray k) = omega arith
has_number (Fails constraint) = omega arith
has_number NoViolation = omega arith
has_number (Late k) = omega arith

-- ---- Each answer had back from its numbers.

-- The refusal among an answer's numbers.
abbrev refused_back : {A : Type 0} → Numbers → Result A Refusal
refused_back x = Err (refusal_back x.refusal x.place)

abbrev verdict_back_lem : Numbers → Verdict
verdict_back_lem x = cond (eqb x.answer 1) (Ok tt) (refused_back x)

verdict_is_back : (r : Verdict) → verdict_back_lem (verdict_numbers r) ≡ r
verdict_is_back (Ok accepted) = refl
verdict_is_back (Err e) = ap Err (refusal_is_back e)

abbrev encoded_back_lem : Numbers → Result TableSize Refusal
encoded_back_lem x = cond (eqb x.answer 1) (Ok (record { constraints = x.first; variables = x.second })) (refused_back x)

encoded_is_back : (r : Result TableSize Refusal) → encoded_back_lem (encoded_numbers r) ≡ r
encoded_is_back (Ok size) = refl
encoded_is_back (Err e) = ap Err (refusal_is_back e)

abbrev checked_back_lem : Numbers → Result Checked Refusal
checked_back_lem x = cond (eqb x.answer 1) (Ok checkeds.Meets) (cond (eqb x.answer 2) (Ok (checkeds.Fails x.first)) (refused_back x))

checked_is_back : (r : Result Checked Refusal) → checked_back_lem (checked_numbers r) ≡ r
checked_is_back (Ok checkeds.Meets) = refl
checked_is_back (Ok (checkeds.Fails constraint)) = refl
checked_is_back (Err e) = ap Err (refusal_is_back e)

abbrev replayed_back_lem : Numbers → Result Replayed Refusal
replayed_back_lem x =
    cond (eqb x.answer 1) (Ok (replayeds.Violated x.first))
    (cond (eqb x.answer 2) (Ok replayeds.Clean)
    (cond (eqb x.answer 3) (Ok (replayeds.CutOff x.first)) (refused_back x)))

replayed_is_back : (r : Result Replayed Refusal) → replayed_back_lem (replayed_numbers r) ≡ r
replayed_is_back (Ok (replayeds.Violated k)) = refl
replayed_is_back (Ok replayeds.Clean) = refl
replayed_is_back (Ok (replayeds.CutOff k)) = refl
replayed_is_back (Err e) = ap Err (refusal_is_back e)

-- How many numbers or bytes were written.
abbrev size_back : Numbers → Result ℕ Refusal
size_back x = cond (eqb x.answer 1) (Ok x.first) (refused_back x)

decoded_is_back : (r : Result ℕ Refusal) → size_back (decoded_numbers r) ≡ r
decoded_is_back (Ok numbers) = refl
decoded_is_back (Err e) = ap Err (refusal_is_back e)

filled_is_back : (r : Result ℕ Refusal) → size_back (filled_numbers r) ≡ r
filled_is_back (Ok numbers) = refl
filled_is_back (Err e) = ap Err (refusal_is_back e)

listed_is_back : (r : Result ℕ Refusal) → size_back (listed_numbers r) ≡ r
listed_is_back (Ok bytes) = refl
listed_is_back (Err e) = ap Err (refusal_is_back e)

-- ---- So answers with the same numbers are one.

told : {A : Type 0} (numbers : A → Numbers) (back : Numbers → A) → ((r : A) → back (numbers r) ≡ r) → (r s : A) → (numbers r ≡ numbers s) ↔ (r ≡ s)
told numbers back is-back r s = ((λ e. sym (is-back r) ∙ ap back e ∙ is-back s), (λ e. ap numbers e))

-- An answer that is no refusal has a number, and a refusal has its own number and place.
module _ {A : Type 0} (numbers : Result A Refusal → Numbers) (answered : (x : A) → 0 < (numbers (Ok x)).answer)
    (refused : (e : Refusal) → numbers (Err e) ≡ refused_numbers (refusal_number e) (refusal_place e)) where
  refused_told : (r : Result A Refusal) (number place : ℕ) → (numbers r ≡ refused_numbers number place) ↔ RefusedWith number place r
  refused_told (Ok x) number place = ((λ e. omega (arith, answered x, ap (λ (n : Numbers). n.answer) e)), (λ never. absurd never))
  refused_told (Err e) number place = (
    (λ same. (ap (λ (n : Numbers). n.refusal) (sym (refused e) ∙ same), ap (λ (n : Numbers). n.place) (sym (refused e) ∙ same))),
    (λ has. refused e ∙ rw (has.0, has.1)),
  )

checked_answered : (x : Checked) → 0 < (checked_numbers (Ok x)).answer
checked_answered checkeds.Meets = omega arith
checked_answered (checkeds.Fails constraint) = omega arith

replayed_answered : (x : Replayed) → 0 < (replayed_numbers (Ok x)).answer
replayed_answered (replayeds.Violated k) = omega arith
replayed_answered replayeds.Clean = omega arith
replayed_answered (replayeds.CutOff k) = omega arith

spelled_told : (r : Result ℕ Refusal) (bytes : ℕ) → spelled_numbers r ≡ spelled_numbers (Ok bytes) → r ≡ Ok bytes
spelled_told (Ok size) bytes e = ap Ok (ap (λ (x : TextNumbers). x.bytes) e)
spelled_told (Err r) bytes e = absurd (omega (arith, has_number r, ap (λ (x : TextNumbers). x.refusal) e))

not_spelled_told : (r : Result ℕ Refusal) (number place : ℕ) → number ≢ 0
    → (spelled_numbers r ≡ record { refusal = number; place = place; bytes = 0 }) ↔ RefusedWith number place r
not_spelled_told (Ok size) number place some = ((λ e. some (sym (ap (λ (x : TextNumbers). x.refusal) e))), (λ never. absurd never))
not_spelled_told (Err r) number place some =
    ((λ e. (ap (λ (x : TextNumbers). x.refusal) e, ap (λ (x : TextNumbers). x.place) e)), (λ has. rw (has.0, has.1)))

copies_told : (r : Result Copies Refusal) (guard a b target : ℕ) → taken_numbers r ≡ record { refusal = 0; place = 0; guard = guard; a = a; b = b; target = target }
    → r ≡ Ok (record { guard = guard; a = a; b = b; target = target })
copies_told (Ok copies) guard a b target e =
    rw (
      ap (λ (n : CopyNumbers). n.guard) e,
      ap (λ (n : CopyNumbers). n.a) e,
      ap (λ (n : CopyNumbers). n.b) e,
      ap (λ (n : CopyNumbers). n.target) e,
    )
copies_told (Err r) guard a b target e = absurd (omega (arith, has_number r, ap (λ (n : CopyNumbers). n.refusal) e))

not_taken_told : (r : Result Copies Refusal) (number place : ℕ) → number ≢ 0
    → (taken_numbers r ≡ record { refusal = number; place = place; guard = 0; a = 0; b = 0; target = 0 }) ↔ RefusedWith number place r
not_taken_told (Ok copies) number place some = ((λ e. some (sym (ap (λ (n : CopyNumbers). n.refusal) e))), (λ never. absurd never))
not_taken_told (Err r) number place some =
    ((λ e. (ap (λ (n : CopyNumbers). n.refusal) e, ap (λ (n : CopyNumbers). n.place) e)), (λ has. rw (has.0, has.1)))

pub answers_told_apart : AnswersToldApart
answers_told_apart = record {
  numbered = refusals_numbered;
  refusals = refusals_told;
  accepted = λ r. told verdict_numbers verdict_back_lem verdict_is_back r (Ok tt);
  not_accepted = refused_told verdict_numbers (λ x. omega arith) (λ e. refl);
  table = λ r constraints variables. told encoded_numbers encoded_back_lem encoded_is_back r (Ok (record { constraints = constraints; variables = variables }));
  not_encoded = refused_told encoded_numbers (λ x. omega arith) (λ e. refl);
  meets = λ r. told checked_numbers checked_back_lem checked_is_back r (Ok checkeds.Meets);
  fails = λ r constraint. told checked_numbers checked_back_lem checked_is_back r (Ok (checkeds.Fails constraint));
  not_checked = refused_told checked_numbers checked_answered (λ e. refl);
  schedule = λ r numbers. told decoded_numbers size_back decoded_is_back r (Ok numbers);
  not_decoded = refused_told decoded_numbers (λ x. omega arith) (λ e. refl);
  violated = λ r k. told replayed_numbers replayed_back_lem replayed_is_back r (Ok (replayeds.Violated k));
  clean = λ r. told replayed_numbers replayed_back_lem replayed_is_back r (Ok replayeds.Clean);
  cut_off = λ r k. told replayed_numbers replayed_back_lem replayed_is_back r (Ok (replayeds.CutOff k));
  not_replayed = refused_told replayed_numbers replayed_answered (λ e. refl);
  assignment = λ r numbers. told filled_numbers size_back filled_is_back r (Ok numbers);
  not_filled = refused_told filled_numbers (λ x. omega arith) (λ e. refl);
  text = λ r bytes. told listed_numbers size_back listed_is_back r (Ok bytes);
  not_listed = refused_told listed_numbers (λ x. omega arith) (λ e. refl);
  spelled = λ r bytes. (spelled_told r bytes, (λ e. ap spelled_numbers e));
  not_spelled = not_spelled_told;
  copies = λ r guard a b target. (copies_told r guard a b target, (λ e. ap taken_numbers e));
  not_taken = not_taken_told;
}

-- ---- Demand 3's equivalence, in numbers.

pub read_off : (bytes : List ℕ) → Demand3 bytes → SomeYes bytes ↔ SomeViolated bytes
read_off bytes d = (
  (λ yes. let found = d.some_yes_is_some_violated.0 (yes.0, (yes.1, (answers_told_apart.meets (checked bytes yes.0)).0 yes.2)) in
      (found.0, found.1.0, (found.1.1.0, (λ room h. ap replayed_numbers (found.1.1.1 room h))))),
  (λ hit. let found = d.some_yes_is_some_violated.1 (
    hit.0,
    (hit.1, (hit.2.0, (λ room h. (answers_told_apart.violated (replayed bytes hit.0 room) hit.2.0).0 (hit.2.1 room h)))),
  ) in
      (found.0, found.1.0, ap checked_numbers found.1.1)),
)
