-- What the calls answer, from the encoder's answer and the text's length. Assumes nothing. Met again in `script_length`, `fits`,
-- `put_script`, `smt_length` and `smt_text`.
use Rattle.std.specs.Prelude.{Result, Ok, Err}
use mathlib.Core.Path.{◌≡◌, refl, sym, ap, ◌∙◌}
use Prim.Native.Nat.{ℕ, ◌+◌, ◌≤◌}
use mathlib.Core.Bool.{Bool, true, false}
use mathlib.Core.List.{List}
use native.Mathlib.Omega.{arith}
use borrow.Author.Tests.{le-leb, leb-true}
use lib.Dec.{leb}
use lib.ListN.{length}
use lib.Seq.{take-append_seam}
use Rattle.model.specs.Limits.{most_table_numbers}
use Rattle.model.specs.CaseFile.{case_of}
use Rattle.model.specs.Accept.{verdict}
use Rattle.model.specs.Answers.{encoded, after_answer, encoded_into}
use Rattle.model.specs.Table.{table, numbers_of}
use Rattle.model.specs.declared.Refusal.{Refusal}
use Rattle.model.specs.declared.Refusal.TheVariants.{Short}
use Rattle.model.specs.Refusals.{Verdict}
use Rattle.model.specs.declared.TableSize.{TableSize}
use Rattle.laws.proofs.OnCase.{on_accepted, on_refused}
use Rattle.laws.proofs.Writing.{numbers_from_start}
use Rattle.encoder.proofs.WholeTable.{table_fits, case_refused, table_written}
use Rattle.script.specs.Text.{smt_text, most_text_bytes, measured, spelled, spelled_into}
use Rattle.text_size.proofs.Text.{text_at_most}
use Rattle.spell.specs.Spelt.{top, Spelt}
use Rattle.spell.proofs.Spelling.{capped_below}
use Rattle.smt_text.specs.Script.{ScriptHanded, TextGiven}

-- ---- By the encoder's answer, with room for every table.

module _ (bytes : List ℕ) (room : ℕ) (large : room ≡ most_table_numbers) {r : Result TableSize Refusal} (er : r ≡ encoded bytes room) where
  pub case_taken : {size : TableSize} → r ≡ Ok size → verdict bytes ≡ Ok tt
  case_taken {size} e = go (verdict bytes) refl
    where
      go : (v : Verdict) → verdict bytes ≡ v → v ≡ Ok tt
      go (Ok tt) f = refl
      go (Err why) f = let z : ◌≡◌ {A = ℕ} 0 1 = cc (case_refused bytes room large why f) in absurd (omega arith)

  pub verdict_refused : {why : Refusal} → r ≡ Err why → verdict bytes ≡ Err why
  verdict_refused {why} e = go (verdict bytes) refl
    where
      go : (v : Verdict) → verdict bytes ≡ v → v ≡ Err why
      go (Ok tt) f = let z : ◌≡◌ {A = ℕ} 0 1 = cc (table_fits bytes room large f) in absurd (omega arith)
      go (Err e') f = let same : e' ≡ why = cc (case_refused bytes room large e' f) in ap Err same

pub table_handed : (bytes slice : List ℕ) → length slice ≡ most_table_numbers → {r : Result TableSize Refusal} {x : List ℕ} {size : TableSize}
    → r ≡ encoded bytes (length slice) → x ≡ encoded_into bytes slice → r ≡ Ok size → ScriptHanded bytes x size.constraints size.variables
table_handed bytes slice large er ex e =
    let taken = case_taken bytes (length slice) large er e in
    let told = table_fits bytes (length slice) large taken in
    record {
      taken = taken;
      has = record { rows = cc; numbers = rw (ex ∙ table_written bytes slice large taken) (take-append_seam (numbers_of (table (case_of bytes))) _) };
      declared = cc;
    }

-- ---- A refused case.

module _ (bytes : List ℕ) {why : Refusal} (e : verdict bytes ≡ Err why) where
  pub length_refused : Err why ≡ measured bytes
  unfolding measured
  length_refused = sym (on_refused _ _ _ why e)

  pub text_refused : (slice : List ℕ) → TextGiven bytes slice slice (Err why)
  unfolding spelled spelled_into
  text_refused slice =
      let answer = sym (on_refused _ _ _ why e) in
      record { answer = answer; slice = ap (λ (q : Result ℕ Refusal). after_answer q (smt_text bytes) slice) answer }

-- ---- An accepted case.

module _ (bytes : List ℕ) (e : verdict bytes ≡ Ok tt) where
  pub length_told : {size : ℕ} → size ≡ length (smt_text bytes) → Ok size ≡ measured bytes
  unfolding measured
  length_told same = ap Ok same ∙ sym (on_accepted _ _ _ e)

  pub size_spelt : {d a : List ℕ} {r : ℕ} → Spelt (smt_text bytes) d 0 a r → r ≡ length (smt_text bytes)
  size_spelt put = put.place ∙ capped_below (0 + length (smt_text bytes)) (omega (arith, text_at_most bytes e)) ∙ omega arith

  pub largest_room_fits : (room : ℕ) → most_text_bytes ≤ room → true ≡ leb (length (smt_text bytes)) room
  largest_room_fits room large = sym (le-leb (length (smt_text bytes)) room (omega (arith, text_at_most bytes e)))

  module _ (slice : List ℕ) {fits : Bool} (told : fits ≡ leb (length (smt_text bytes)) (length slice)) where
    pub too_short : fits ≡ false → TextGiven bytes slice slice (Err Short)
    unfolding spelled spelled_into
    too_short no_room =
        let answer : Err Short ≡ spelled bytes (length slice) = sym (on_accepted _ _ _ e ∙ rw (sym told, no_room)) in
        record { answer = answer; slice = ap (λ (q : Result ℕ Refusal). after_answer q (smt_text bytes) slice) answer }

    pub long_enough : fits ≡ true → length slice ≤ top → {x : List ℕ} {size : ℕ} → Spelt (smt_text bytes) slice 0 x size → TextGiven bytes slice x (Ok size)
    unfolding spelled spelled_into
    long_enough has_room few put =
        let room = leb-true (length (smt_text bytes)) (length slice) (sym told ∙ has_room) in
        let answer : Ok (length (smt_text bytes)) ≡ spelled bytes (length slice) = sym (on_accepted _ _ _ e ∙ rw (sym told, has_room)) in
        record {
          answer = ap Ok (size_spelt put) ∙ answer;
          slice = put.slice (omega (arith, room)) few ∙ numbers_from_start slice (smt_text bytes) room ∙ ap (λ (q : Result ℕ Refusal). after_answer q (smt_text bytes) slice) answer;
        }
