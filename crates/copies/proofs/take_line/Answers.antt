-- `copies::take_line` meets its contract. Assumes nothing.
use Rattle.copies.proofs.Held.{line_taken}
use Rattle.copies.proofs.take_line.Goals as goal

pub returns : goal.returns
returns c =
    let both =
    line_taken _ _ _ _ _ _ _ _ _ _ _ _
    (c.guard_name-guard.ensures c.args.k)
    (c.operand_a-a.ensures c.args.k)
    (c.operand_b-b.ensures c.args.k)
    (c.target_name-target.ensures c.args.k)
    c.copy_of.ensures
    c.copy_of-2.ensures
    c.copy_of-3.ensures
    c.take_copy.ensures.value
    c.take_copy.ensures.held_after
    in record { value = both.0; held_after = both.1 }
