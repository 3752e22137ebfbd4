-- How many parts the goal of a case has, record by record. Assumes nothing. Met again in `part_count`.
use mathlib.Core.Path.{◌≡◌, refl, ap, ◌∙◌}
use Prim.Native.Nat.{ℕ, ◌+◌, ◌≤◌, ◌<◌}
use mathlib.Core.Bool.{Bool, true, false}
use mathlib.Core.List.{List}
use native.Mathlib.Omega.{arith}
use Rattle.model.specs.Word.{bit}
use Rattle.model.specs.CaseFile.{kind_of, records, record_field, case_of}
use Rattle.model.specs.declared.Kind.{Kind}
use Rattle.laws.specs.Accepted.{Accepted}
use Rattle.laws.proofs.Counting.{sum_from}
use Rattle.laws.proofs.RecordSums.{lines_add_up, records_from, records_all, records_more, records_none}
use Rattle.goal_text.specs.Goal.{has_part, parts_of}

pub bit_at_most_one : (p : Bool) → bit p ≤ 1
bit_at_most_one true = omega arith
bit_at_most_one false = omega arith

abbrev part_at : List ℕ → ℕ → ℕ
part_at bytes k = bit (has_part (kind_of (record_field bytes k 1)))

-- The loop over the records, at record k.
pub record Numbering (bytes : List ℕ) (k n : ℕ) : Type 0 where
  pub upto : k ≤ records bytes + 1
  pub small : n < k
  pub left : n + records_from bytes (part_at bytes) k ≡ sum_from (part_at bytes) 1 (records bytes)

pub numbering_start : (bytes : List ℕ) → Numbering bytes 1 0
numbering_start bytes = record { upto = omega arith; small = omega arith; left = omega (arith, records_all bytes (part_at bytes)) }

module _ {bytes : List ℕ} {k n : ℕ} (v : Numbering bytes k n) where
  pub numbering_more : k ≤ records bytes → {kind : Kind} {m : ℕ} {p : Bool} → kind ≡ kind_of (record_field bytes k 1) → p ≡ has_part kind → m ≡ n + bit p → Numbering bytes (k + 1) m
  numbering_more h {kind} {m} {p} ek ep em =
      let here : bit p ≡ part_at bytes k = ap bit (ep ∙ ap has_part ek) in
      record {
        upto = omega arith;
        small = omega (arith, v.small, em, bit_at_most_one p);
        left = omega (arith, v.left, records_more bytes (part_at bytes) k h, here, em);
      }

  pub numbering_end : Accepted bytes → records bytes < k → n ≡ parts_of (case_of bytes).threads
  numbering_end ok h = omega (arith, v.left, records_none bytes (part_at bytes) k h, lines_add_up (part_at bytes) bytes ok (λ l. bit (has_part l.kind)) (λ t j. refl))
