-- `write_order` writes a thread's order rows: what is left of its chain is what is left to write. Assumes nothing.
use mathlib.Core.Path.{refl, ap}
use native.Mathlib.Omega.{arith}
use Rattle.laws.proofs.Following.{lines_less}
use Rattle.case_file.specs.declared.Link.{Link}
use Rattle.case_file.specs.Records.{link_of}
use Rattle.rows.specs.Rows.{Nearest}
use Rattle.encoder.specs.Parts.{order_numbers}
use Rattle.encoder.proofs.Walking.{walking_start, walking_end}
use Rattle.encoder.proofs.Lines.{order_room, order_step}
use Rattle.encoder.proofs.write_order.Goals as goal

pub loop-k-init : goal.loop-k-init
unfolding order_numbers Nearest
loop-k-init c = walking_start c.args.case.now.accepted c.requires.thread c.first_of-k.ensures refl refl

pub overflow_cast-k : goal.overflow_cast-k
overflow_cast-k c = omega (arith, c.first_of-k.ensures, c.args.case.now.accepted.firsts c.args.t c.requires.thread, c.args.case.now.accepted.few_records)

pub put_order-at-requires : goal.put_order-at-requires
put_order-at-requires c = rw c.link_at-link.ensures (order_room _ _ c.loop-k.invariant c.args.case.now.accepted c.loop-k-test.true refl c.requires.room)

pub loop-k-smaller : goal.loop-k-smaller
loop-k-smaller c = lines_less _ c.args.case.now.accepted _ _ c.loop-k-test.true c.loop-k.invariant.low _ (ap (λ (link : Link). link.next) c.link_at-link.ensures)

pub loop-k-preserved : goal.loop-k-preserved
loop-k-preserved c =
    rw c.link_at-link.ensures (order_step {link = link_of c.args.case.now.bytes.now c.loop-k.previous c.loop-k.k} (rw c.link_at-link.ensures at c.put_order-at.ensures) c.loop-k.invariant c.args.case.now.accepted c.loop-k-test.true refl refl refl c.threads-threads.ensures c.switches-last.ensures)

pub shape_of-table : goal.shape_of-table
shape_of-table c = c.loop-k.invariant.writes.same

pub returns : goal.returns
returns c = walking_end c.loop-k.invariant c.loop-k-test.false
