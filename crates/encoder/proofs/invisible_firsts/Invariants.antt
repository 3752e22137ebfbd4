-- `invisible_firsts` counts them, a thread at a time. Assumes nothing.
use Rattle.encoder.proofs.Counts.{CountingFirsts}
use Rattle.encoder.proofs.invisible_firsts.Given as goal

abbrev pub invariant-loop-counted : goal.invariant-loop-counted
invariant-loop-counted l = CountingFirsts l.case.bytes.now l.threads l.counted l.n
