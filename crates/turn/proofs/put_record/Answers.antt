-- `turn::put_record` meets its contract. Assumes nothing.
use Rattle.turn.proofs.Traces.{put_none, put_one}
use Rattle.turn.proofs.put_record.Goals as goal

pub returns-else-second-trace : goal.returns-else-second-trace
returns-else-second-trace c = put_one c.args.trace.now c.args.k c.args.block c.args.value c.if-second-trace.false

pub returns-else-first-trace : goal.returns-else-first-trace
returns-else-first-trace c = put_none c.args.trace.now c.args.k c.args.block c.args.value c.if-first-trace.false
