-- The look for the first line that is late: what is left to look at decides.
-- Assumes nothing.
use Rattle.std.specs.Prelude.{Option, None, Some}
use Rattle.std.proofs.lemmas.Option.{none-some}
use mathlib.Core.Path.{◌≡◌, sym, ap, ◌∙◌}
use mathlib.Core.Logic.{◌≢◌}
use Prim.Native.Nat.{ℕ, suc, ◌+◌, ◌-◌, ◌≤◌, ◌<◌}
use mathlib.Core.Bool.{Bool, true, false, cond}
use mathlib.Core.List.{List}
use native.Mathlib.Omega.{arith}
use Rattle.model.specs.Lists.{unless_0}
use Rattle.model.specs.CaseFile.{Line, records, thread_count, first_record, next_record, record_field, kind_of, line_of, chains, case_of}
use Rattle.model.specs.declared.Kind.{Kind}
use Rattle.model.specs.Fill.{late_after, late_in, first_late}
use Rattle.laws.specs.Accepted.{Accepted, lines_from}
use Rattle.laws.proofs.Following.{lines_end, lines_more, next_low}
use Rattle.assignment.specs.Numbers.{record_block}
use Rattle.run.specs.Found.{Finds}
use Rattle.run.proofs.Found.{finds_none, finds_some}
use Rattle.filler.specs.Lateness.{is_late}

module _ (bytes xs : List ℕ) where
  -- Within the chain from record k on, at record `at` after record `before`: none has been late.
  pub record Looking (k before at : ℕ) : Type 0 where
    pub some : before ≢ 0
    pub low_before : before ≤ records bytes
    pub low : at ≤ records bytes
    pub does : (t others : ℕ) → late_after (case_of bytes) (record_block xs) (line_of bytes t before) (lines_from bytes t at) others
        ≡ late_in (case_of bytes) (record_block xs) (lines_from bytes t k) others

  module _ {k : ℕ} (ok : Accepted bytes) (within : k ≤ records bytes) where
    pub looking_none : k ≡ 0 → (t : ℕ) → Finds (late_in (case_of bytes) (record_block xs) (lines_from bytes t k)) None
    unfolding late_in
    looking_none e t = record {
      answers = λ others. ap (λ (ls : List Line). late_in (case_of bytes) (record_block xs) ls others) (lines_end bytes t k e);
      is_record = none-some 0;
    }

    pub looking_start : k ≢ 0 → {next : ℕ} → next ≡ next_record bytes k → Looking k k next
    unfolding late_in
    looking_start some is_next = rw is_next (record {
      some = some;
      low_before = within;
      low = next_low bytes ok 0 k some within;
      does = λ t others. sym (ap (λ (ls : List Line). late_in (case_of bytes) (record_block xs) ls others) (lines_more bytes ok t k some within));
    })

    module _ {before at : ℕ} (v : Looking k before at) where
      pub looking_end : at ≡ 0 → (t : ℕ) → Finds (late_in (case_of bytes) (record_block xs) (lines_from bytes t k)) None
      unfolding late_after
      looking_end e t = record {
        answers = λ others.
            sym (v.does t others) ∙ ap (λ (ls : List Line). late_after (case_of bytes) (record_block xs) (line_of bytes t before) ls others) (lines_end bytes t at e);
        is_record = none-some 0;
      }

      module _ (goes : at ≢ 0) {kind : Kind} {first block : ℕ} (is_kind : kind ≡ kind_of (record_field bytes at 1)) (is_first_lem : first ≡ record_block xs before)
          (is_block : block ≡ record_block xs at) {found : Bool} (is_found : found ≡ is_late bytes kind first block)
        where
          found_is : found ≡ is_late bytes (kind_of (record_field bytes at 1)) (record_block xs before) (record_block xs at)
          found_is = is_found ∙ rw (is_kind, is_first_lem, is_block)

          splits : (t others : ℕ) → cond found at (late_after (case_of bytes) (record_block xs) (line_of bytes t at) (lines_from bytes t (next_record bytes at)) others)
              ≡ late_in (case_of bytes) (record_block xs) (lines_from bytes t k) others
          unfolding late_after is_late
          splits t others =
              ap (λ (x : Bool). cond x at (late_after (case_of bytes) (record_block xs) (line_of bytes t at) (lines_from bytes t (next_record bytes at)) others)) found_is
              ∙ sym (ap (λ (ls : List Line). late_after (case_of bytes) (record_block xs) (line_of bytes t before) ls others)
              (lines_more bytes ok t at goes v.low)) ∙ v.does t others

          pub looking_found : found ≡ true → (t : ℕ) → Finds (late_in (case_of bytes) (record_block xs) (lines_from bytes t k)) (Some at)
          looking_found e t = record { answers = λ others. sym (rw e at (splits t others)); is_record = λ is. goes cc }

          pub looking_more : found ≡ false → {next : ℕ} → next ≡ next_record bytes at → Looking k at next
          looking_more e is_next = rw is_next (record {
            some = goes;
            low_before = v.low;
            low = next_low bytes ok 0 at goes v.low;
            does = λ t others. rw e at (splits t others);
          })

  -- No line is late in the threads before thread t.
  pub record LookingOn (t : ℕ) : Type 0 where
    pub does : first_late (case_of bytes) (record_block xs) (chains bytes t (thread_count bytes - t)) ≡ first_late (case_of bytes) (record_block xs) (case_of bytes).threads

  pub on_start : LookingOn 0
  on_start =
      let all : thread_count bytes - 0 ≡ thread_count bytes = omega arith in
      record { does = ap (λ (x : ℕ). first_late (case_of bytes) (record_block xs) (chains bytes 0 x)) all }

  module _ {t : ℕ} (v : LookingOn t) where
    pub on_end : thread_count bytes ≤ t → None ≡ unless_0 (first_late (case_of bytes) (record_block xs) (case_of bytes).threads)
    unfolding first_late chains
    on_end over =
        let none : thread_count bytes - t ≡ 0 = omega arith in
        ap unless_0 (rw none at v.does)

    pub on_ready : Accepted bytes → t < thread_count bytes → {first : ℕ} → first ≡ first_record bytes t → first ≤ records bytes
    on_ready ok more is = rw is (ok.firsts t more)

    module _ (more : t < thread_count bytes) {first : ℕ} (is_first : first ≡ first_record bytes t) {r : Option ℕ}
        (finds : (u : ℕ) → Finds (late_in (case_of bytes) (record_block xs) (lines_from bytes u first)) r)
      where
        comes : late_in (case_of bytes) (record_block xs) (lines_from bytes t first) (first_late (case_of bytes) (record_block xs) (chains bytes (t + 1) (thread_count bytes - (t + 1))))
            ≡ first_late (case_of bytes) (record_block xs) (case_of bytes).threads
        unfolding first_late chains
        comes =
            let many : thread_count bytes - t ≡ suc (thread_count bytes - (t + 1)) = omega arith in
            let next : suc t ≡ t + 1 = omega arith in
            rw is_first (rw (many, next) at v.does)

        pub on_more : r ≡ None → LookingOn (t + 1)
        on_more is = record { does = finds_none (finds t) comes is }

        pub on_found : {k : ℕ} → r ≡ Some k → Some k ≡ unless_0 (first_late (case_of bytes) (record_block xs) (case_of bytes).threads)
        on_found is = finds_some (finds t) comes is
