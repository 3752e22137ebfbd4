-- `put_head` puts nothing for rows of other kinds. Assumes nothing.
use borrow.Author.Rules.{rules}
use Rattle.line_threads.proofs.RecordLines.{thread_low}
use Rattle.spell.proofs.Spelling.{puts_nothing}
use Rattle.goal_text.proofs.Heads.{row_four, row_other, four_there}
use Rattle.goal_text.proofs.put_head.Goals as goal

pub line-l-requires : goal.line-l-requires
line-l-requires c = four_there c.args.tabled.now.case.accepted c.args.tabled.now.handed c.requires c.row-row.ensures c.if-row-eq4.true

pub put_part-requires : goal.put_part-requires
put_part-requires c =
    let given = c.args.tabled.now in
    let low = thread_low given.case.accepted (four_there given.case.accepted given.handed c.requires c.row-row.ensures c.if-row-eq4.true) c.line-l.result c.line-l.ensures in
    search rules

pub returns-then-row-eq4 : goal.returns-then-row-eq4
returns-then-row-eq4 c = row_four _ _ c.row-row.ensures c.if-row-eq4.true c.line-l.ensures (c.put_part.ensures _ c.args.tabled.now.handed.framed)

pub returns-else-row-eq4 : goal.returns-else-row-eq4
returns-else-row-eq4 c = row_other _ _ c.row-row.ensures c.if-row-eq4.false (puts_nothing c.args.w.now.near)
