-- `put_row` is by the kind of the row. Assumes nothing.
use borrow.Author.Rules.{rules}
use Rattle.line_threads.proofs.RecordLines.{thread_low}
use Rattle.smt_text.proofs.Rows.{line_numbered, follows_spelt, last_spelt, thread_spelt, value_spelt, demand_spelt, walk_spelt, goal_spelt, stay_spelt, other_spelt}
use Rattle.smt_text.proofs.put_row.Goals as goal

pub line-l-requires : goal.line-l-requires
line-l-requires c = line_numbered c.requires c.in-4.is (search rules)

pub put_four-requires : goal.put_four-requires
put_four-requires c =
    let low = thread_low c.args.tabled.now.case.accepted (line_numbered c.requires c.in-4.is (search rules)) c.line-l.result c.line-l.ensures in
    search rules

pub line-l-requires-in-5 : goal.line-l-requires-in-5
line-l-requires-in-5 c = line_numbered c.requires c.in-5.is (search rules)

pub returns-in-1 : goal.returns-in-1
returns-in-1 c = follows_spelt _ _ c.in-1.is c.put_one.ensures

pub returns-in-2 : goal.returns-in-2
returns-in-2 c = last_spelt _ _ c.requires.of c.in-2.is (c.put_last.ensures _ c.args.tabled.now.handed.framed.shape)

pub returns-in-3 : goal.returns-in-3
returns-in-3 c = thread_spelt _ _ c.in-3.is (c.put_three.ensures _ c.args.tabled.now.handed.framed.shape)

pub returns-in-4 : goal.returns-in-4
returns-in-4 c = value_spelt _ _ c.in-4.is (c.put_four.ensures _ c.args.tabled.now.handed.framed c.line-l.ensures)

pub returns-in-5 : goal.returns-in-5
returns-in-5 c = demand_spelt _ _ c.in-5.is (c.put_five.ensures _ c.args.tabled.now.handed.framed c.line-l-in-5.ensures)

pub returns-in-6 : goal.returns-in-6
returns-in-6 c = walk_spelt _ _ c.requires c.in-6.is (c.put_walk.ensures _ c.args.tabled.now.handed.framed)

pub returns-in-7 : goal.returns-in-7
returns-in-7 c = goal_spelt _ _ c.in-7.is c.put_goal.ensures

pub returns-in-8 : goal.returns-in-8
returns-in-8 c = stay_spelt _ _ c.in-8.is (c.put_eight.ensures _ c.args.tabled.now.handed.framed.shape)

pub returns-in_default : goal.returns-in_default
returns-in_default c = other_spelt _ _ c.in_default.in_default-own.rest c.put.ensures
