-- `check::bad_join` meets its contract. Assumes nothing.
use Rattle.node.proofs.Good.{bad_told}
use Rattle.node.proofs.check.bad_join.Goals as goal

pub returns : goal.returns
returns c = bad_told c.args.j _ _ _ _ c.rules.ensures.told c.bad_numbers.ensures
