-- Check 9's rules for the lines of an accepted case: a record obeys them as a line of any thread.
-- Assumes nothing. Met again in correspondence's KindByKind.
use mathlib.Core.Path.{◌≡◌, refl}
use Prim.Native.Nat.{ℕ, ◌≤◌, ◌<◌}
use mathlib.Core.Bool.{true}
use mathlib.Core.List.{List}
use borrow.Author.Tests.{leb-true}
use lib.Dec.{leb}
use Rattle.model.specs.Limits.{highest_kind, highest_guard}
use Rattle.model.specs.CaseFile.{records, global_count, mutex_count, record_field, line_of}
use Rattle.model.specs.declared.Kind.{Kind}
use Rattle.model.specs.declared.Kind.TheVariants.{Compute, Store, Load, Input, Assert, Assume, Lock, Unlock}
use Rattle.model.specs.Accept.{kind_rule}
use Rattle.laws.specs.Accepted.{Accepted}
use Rattle.laws.proofs.Views.{and-true}

rule_any_thread : (bytes : List ℕ) (t k G M : ℕ) (kind : Kind) → kind_rule kind G M (line_of bytes 0 k) ≡ kind_rule kind G M (line_of bytes t k)
unfolding kind_rule
rule_any_thread bytes t k G M Compute = refl
rule_any_thread bytes t k G M Store = refl
rule_any_thread bytes t k G M Load = refl
rule_any_thread bytes t k G M Input = refl
rule_any_thread bytes t k G M Assert = refl
rule_any_thread bytes t k G M Assume = refl
rule_any_thread bytes t k G M Lock = refl
rule_any_thread bytes t k G M Unlock = refl

-- The parts of a rule: the guard, and the kind's own rule.
pub record Obeys (bytes : List ℕ) (t k : ℕ) : Type 0 where
  pub guard : record_field bytes k 2 ≤ highest_guard
  pub kind_rule_lem : kind_rule (line_of bytes t k).kind (global_count bytes) (mutex_count bytes) (line_of bytes t k) ≡ true

pub records_obey : (bytes : List ℕ) → Accepted bytes → (t k : ℕ) → 0 < k → k ≤ records bytes → Obeys bytes t k
records_obey bytes ok t k low high =
    let one = and-true (leb 1 (record_field bytes k 1)) _ (ok.rules k low high) in
    let two = and-true (leb (record_field bytes k 1) highest_kind) _ one.rest in
    let three = and-true (leb (record_field bytes k 2) highest_guard) _ two.rest in
    record {
      guard = leb-true (record_field bytes k 2) highest_guard three.first;
      kind_rule_lem = rw (← rule_any_thread bytes t k (global_count bytes) (mutex_count bytes) (line_of bytes t k).kind) three.rest;
    }
