-- `one_more` adds a record where there is room. Assumes nothing.
use Rattle.smt_parts.proofs.Sources.{found_full, found_more}
use Rattle.smt_parts.proofs.one_more.Goals as goal

pub returns-then-count-ge-SOURCES : goal.returns-then-count-ge-SOURCES
returns-then-count-ge-SOURCES c = λ xs v. found_full v _ c.if-count-ge-SOURCES.true

pub returns : goal.returns
returns c = λ xs v. found_more v _ c.if-count-ge-SOURCES.false
