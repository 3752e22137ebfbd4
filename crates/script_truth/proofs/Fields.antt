-- What check 9 gives of a line's fields, whatever its kind.
-- Assumes nothing. Met again in Expressions and Truth.
use mathlib.Core.Path.{◌≡◌}
use Prim.Native.Nat.{ℕ, ◌≤◌, ◌<◌}
use mathlib.Core.Bool.{true}
use mathlib.Core.List.{List}
use native.Mathlib.Omega.{arith}
use lib.Dec.{eqb, leb, ltb}
use borrow.Author.Tests.{eqb-true, leb-true, ltb-true}
use Rattle.model.specs.Limits.{local_count, most_globals, highest_guard, highest_op}
use Rattle.model.specs.CaseFile.{Line, records, line_of}
use Rattle.model.specs.declared.Kind.{Kind}
use Rattle.model.specs.declared.Kind.TheVariants.{Compute, Store, Load, Input, Assert, Assume, Lock, Unlock}
use Rattle.model.specs.Accept.{expression_ok, only_operand_a, no_expression, kind_rule}
use Rattle.laws.specs.Accepted.{Accepted}
use Rattle.laws.proofs.Views.{and-true}
use Rattle.laws.proofs.Rules.{records_obey}

pub record Fields (l : Line) : Type 0 where
  pub guard : l.guard ≤ highest_guard
  pub op : l.op ≤ highest_op
  pub a : l.a ≤ local_count
  pub b : l.b ≤ local_count

module _ (l : Line) (guard : l.guard ≤ highest_guard) where
  of_expression : expression_ok l ≡ true → Fields l
  of_expression rule =
      let one = and-true (leb l.op highest_op) _ rule in
      let two = and-true (leb l.a local_count) _ one.rest in
      let three = and-true (leb l.b local_count) _ two.rest in
      record {
        guard = guard;
        op = leb-true l.op highest_op one.first;
        a = leb-true l.a local_count two.first;
        b = leb-true l.b local_count three.first;
      }

  of_operand_a : l.a ≤ local_count → only_operand_a l ≡ true → Fields l
  of_operand_a few rule =
      let one = and-true (eqb l.op 0) _ rule in
      let two = and-true (eqb l.b 0) _ one.rest in
      record {
        guard = guard;
        op = omega (arith, eqb-true l.op 0 one.first);
        a = few;
        b = omega (arith, eqb-true l.b 0 two.first);
      }

  of_no_expression : no_expression l ≡ true → Fields l
  of_no_expression rule =
      let one = and-true (eqb l.a 0) (only_operand_a l) rule in
      of_operand_a (omega (arith, eqb-true l.a 0 one.first)) one.rest

  of_rule : (kind : Kind) (G M : ℕ) → G ≤ most_globals → kind_rule kind G M l ≡ true → Fields l
  unfolding kind_rule
  of_rule Compute G M few rule = of_expression (and-true (ltb l.target local_count) _ rule).rest
  of_rule Store G M few rule = of_expression (and-true (ltb l.target G) _ rule).rest
  of_rule Load G M few rule =
      let loaded = and-true (ltb l.a G) (only_operand_a l) (and-true (ltb l.target local_count) _ rule).rest in
      of_operand_a (omega (arith, ltb-true l.a G loaded.first)) loaded.rest
  of_rule Input G M few rule = of_no_expression (and-true (ltb l.target local_count) _ rule).rest
  of_rule Assert G M few rule = of_expression (and-true (eqb l.target 0) _ rule).rest
  of_rule Assume G M few rule = of_expression (and-true (eqb l.target 0) _ rule).rest
  of_rule Lock G M few rule = of_no_expression (and-true (ltb l.target M) _ rule).rest
  of_rule Unlock G M few rule = of_no_expression (and-true (ltb l.target M) _ rule).rest

pub record_fields : (bytes : List ℕ) → Accepted bytes → (t k : ℕ) → 0 < k → k ≤ records bytes → Fields (line_of bytes t k)
record_fields bytes ok t k low high =
    let obeys = records_obey bytes ok t k low high in
    of_rule (line_of bytes t k) obeys.guard (line_of bytes t k).kind _ _ ok.few_globals obeys.kind_rule_lem
