-- `schedule::write_lengths` meets its contract. Assumes nothing.
use mathlib.Core.Path.{sym, ap, ◌∙◌}
use Prim.Native.Nat.{ℕ, ◌+◌, ◌%◌}
use native.Mathlib.Omega.{arith}
use Rattle.laws.proofs.Writing.{put_single, writing_more, writing_end}
use Rattle.schedule.proofs.Counts.{lengths_go_on, lengths_end}
use Rattle.schedule.proofs.write_lengths.Goals as goal

pub loop-i-preserved : goal.loop-i-preserved
loop-i-preserved c =
    record {
      writing = writing_more c.loop-i.invariant.writing (lengths_go_on c.args.case.now.bytes.now c.args.counts.now c.loop-i.i (omega (arith, c.switches-last.ensures)) _ c.loop-i.invariant.turn) put_single;
      turn = c.next_thread-t.ensures c.loop-i.i (c.loop-i.invariant.turn ∙ ap (λ (n : ℕ). c.loop-i.i % n) (sym c.threads-many.ensures)) ∙ ap (λ (n : ℕ). (c.loop-i.i + 1) % n) c.threads-many.ensures;
    }

pub returns : goal.returns
returns c = (writing_end c.loop-i.invariant.writing (lengths_end c.args.case.now.bytes.now c.args.counts.now c.loop-i.i (omega (arith, c.switches-last.ensures)))).slice
