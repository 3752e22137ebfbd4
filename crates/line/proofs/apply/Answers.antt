-- `line::apply` meets its contract: the wrapping sum and difference are those of the definitions. Assumes nothing.
use Rattle.std.proofs.Common.{◌≡◌, ℕ, ◌+◌, ◌%◌, ◌<◌, ◌∙◌, sym, refl, arith, rules, ne_eqb}
use Rattle.model.specs.Word.{word_size, wrapping_difference}
use Rattle.model.specs.Line.{apply}
use Rattle.line.proofs.apply.Goals as goal

difference_wraps : (x y r : ℕ) → x < word_size → y < word_size → r < word_size → (r + y) % word_size ≡ x → r ≡ wrapping_difference x y
difference_wraps x y r hx hy hr h = omega arith

pub returns-in-0 : goal.returns-in-0
unfolding apply
returns-in-0 c = rw c.in-0.is

pub returns-in-1 : goal.returns-in-1
unfolding apply
returns-in-1 c = c.wrapping_add_u16.ensures.value ∙ sym (rw c.in-1.is refl)

pub returns-in-2 : goal.returns-in-2
unfolding apply
returns-in-2 c = rw c.in-2.is (difference_wraps _ _ _ (search rules) (search rules) (search rules) c.wrapping_sub_u16.ensures.value)

pub returns-in-3 : goal.returns-in-3
unfolding apply
returns-in-3 c = rw c.in-3.is

pub returns-in-4 : goal.returns-in-4
unfolding apply
returns-in-4 c = rw c.in-4.is

pub returns-in-5 : goal.returns-in-5
unfolding apply
returns-in-5 c = rw c.in-5.is c.bit_of.ensures

pub returns-in-6 : goal.returns-in-6
unfolding apply
returns-in-6 c = rw c.in-6.is c.bit_of-in-6.ensures

pub returns-in_default : goal.returns-in_default
unfolding apply
returns-in_default c =
    rw (
      ne_eqb c.args.op 0 c.in_default.in_default-own.rest.0.0.0.0.0.0.1,
      ne_eqb c.args.op 1 c.in_default.in_default-own.rest.0.0.0.0.0.1,
      ne_eqb c.args.op 2 c.in_default.in_default-own.rest.0.0.0.0.1,
      ne_eqb c.args.op 3 c.in_default.in_default-own.rest.0.0.0.1,
      ne_eqb c.args.op 4 c.in_default.in_default-own.rest.0.0.1,
      ne_eqb c.args.op 5 c.in_default.in_default-own.rest.0.1,
      ne_eqb c.args.op 6 c.in_default.in_default-own.rest.1,
    )
