-- `turn::trace_line` meets its contract. Assumes nothing.
use mathlib.Core.Path.{sym, ap, ◌∙◌}
use Prim.Native.Nat.{ℕ}
use native.Mathlib.Omega.{arith}
use borrow.Author.Tests.{eqb-true}
use Rattle.model.specs.Fill.{put_record}
use Rattle.line.specs.SeenReads.{reads_in}
use Rattle.turn.proofs.LineKinds.{old_is_value}
use Rattle.turn.proofs.Traces.{put_none}
use Rattle.turn.proofs.trace_line.Goals as goal

pub returns-then-is_empty : goal.returns-then-is_empty
returns-then-is_empty c =
    λ given j gives. put_none c.args.trace.now c.args.k c.args.block _ (omega (arith, eqb-true _ _ (sym c.is_empty.ensures ∙ c.if-is_empty.true)))

pub returns-then-guarded : goal.returns-then-guarded
returns-then-guarded c =
    λ given j gives. c.put_record.ensures
    ∙ ap (λ (x : ℕ). put_record c.args.k c.args.block x c.args.trace.now)
    (gives (sym (c.guarded.ensures _ _ _ _ j c.args.seen.now.counts.few_items) ∙ c.if-guarded.true))

pub returns : goal.returns
returns c =
    λ given j gives. c.put_record-2.ensures
    ∙ ap (λ (x : ℕ). put_record c.args.k c.args.block x c.args.trace.now)
    (old_is_value _ (reads_in c.args.seen.now given _) _ (c.old_value-old.ensures given j)
    (sym (c.guarded.ensures _ _ _ _ j c.args.seen.now.counts.few_items) ∙ c.if-guarded.false))
