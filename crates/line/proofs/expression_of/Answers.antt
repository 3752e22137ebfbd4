-- `line::expression_of` meets its contract. Assumes nothing.
use Rattle.line.proofs.Expressions.{expression_is}
use Rattle.line.proofs.expression_of.Goals as goal

pub returns : goal.returns
returns c G count given items k few has =
    expression_is G count given c.args.locals.now items c.args.l k has _ _ _
    (c.operand-x.ensures items count few) (c.operand-y.ensures items count few) c.apply.ensures
