-- `put_order` writes a line's 3, its 8 where it has one, and its 1 or 2. Assumes nothing.
use native.Mathlib.Omega.{arith}
use Rattle.rows.proofs.Made.{order_put, eight_size}
use Rattle.rows.proofs.put_order.Goals as goal

pub put_row-requires : goal.put_row-requires
put_row-requires c = omega (arith, eight_size c.args.link)

pub put_stay-place-requires : goal.put_stay-place-requires
put_stay-place-requires c = omega (arith, eight_size c.args.link)

pub put_row-requires-2 : goal.put_row-requires-2
put_row-requires-2 c = omega (arith, eight_size c.args.link, c.put_stay-place.ensures.place)

pub overflow_add-result : goal.overflow_add-result
overflow_add-result c = omega (arith, eight_size c.args.link, c.put_stay-place.ensures.place)

pub returns : goal.returns
returns c = λ case earlier l ls s e_t en. order_put _ case earlier l ls s e_t c.thread_row-three.ensures (c.follow_row-follow.ensures case earlier l ls s en) c.put_row.ensures c.put_stay-place.ensures c.put_row-2.ensures
