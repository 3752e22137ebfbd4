-- `order_check::thread_order` meets its contract. Assumes nothing.
use Rattle.std.proofs.lemmas.Result.{err_from_is_err_and}
use mathlib.Core.Path.{refl, ap}
use Rattle.laws.proofs.Following.{lines_less}
use Rattle.case_file.specs.declared.Link.{Link}
use Rattle.order_check.proofs.ThreadOrder.{thread_end, thread_number, thread_found, thread_more}
use Rattle.order_check.proofs.thread_order.Goals as goal

pub line_order-requires : goal.line_order-requires
line_order-requires c =
    rw c.link_at-link.ensures (record { number = thread_number c.args.case.now.accepted c.requires _ c.loop-k.invariant c.loop-k-test.true refl refl; kind = refl })

pub returns-in_err-at : goal.returns-in_err-at
returns-in_err-at c =
    let p = err_from_is_err_and c.from_residual.result c.from_residual.ensures.1 in
    rw (p.1, p.2) (thread_found c.args.case.now.accepted c.requires _ c.loop-k.invariant c.loop-k-test.true refl refl (rw c.link_at-link.ensures at c.in_err-at.ensures))

pub loop-k-smaller : goal.loop-k-smaller
loop-k-smaller c = lines_less _ c.args.case.now.accepted _ _ c.loop-k-test.true c.loop-k.invariant.low _ (ap (λ (link : Link). link.next) c.link_at-link.ensures)

pub loop-k-preserved : goal.loop-k-preserved
loop-k-preserved c =
    rw c.link_at-link.ensures (thread_more c.args.case.now.accepted c.requires _ c.loop-k.invariant c.loop-k-test.true refl refl (rw c.link_at-link.ensures at c.in_ok-at.ensures))

pub returns : goal.returns
returns c = thread_end c.args.case.now.accepted c.requires _ c.loop-k.invariant c.loop-k-test.false
