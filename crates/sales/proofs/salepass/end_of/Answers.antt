-- `salepass::end_of` meets its contract. Assumes nothing.
use Rattle.sales.proofs.salepass.end_of.Goals as goal

pub returns-then-here : goal.returns-then-here
returns-then-here c = rw c.if-here.true

pub returns : goal.returns
returns c = rw c.if-here.false
