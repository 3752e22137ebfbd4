-- `sources_of` takes a record after the other. Assumes nothing.
use Rattle.smt_parts.proofs.Sources.{Sourcing}
use Rattle.smt_parts.proofs.sources_of.Given as goal

abbrev pub invariant-loop-k : goal.invariant-loop-k
invariant-loop-k l = Sourcing l.case.bytes.now l.k l.sources
