-- `sources_of` takes a record after the other. Assumes nothing.
use borrow.Author.Rules.{rules}
use Rattle.smt_parts.proofs.Sources.{sourcing_start, sourcing_more, sourcing_end}
use Rattle.smt_parts.proofs.sources_of.Goals as goal

pub loop-k-init : goal.loop-k-init
loop-k-init c = sourcing_start _

pub loop-k-preserved : goal.loop-k-preserved
loop-k-preserved c = sourcing_more c.loop-k.invariant c.args.case.now.accepted (search rules) c.kind_of.ensures c.with_source-sources.ensures

pub returns : goal.returns
returns c = sourcing_end c.loop-k.invariant (search rules)
