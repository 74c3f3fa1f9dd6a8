-- `saleorder::more` meets its contract. Assumes nothing.
use Rattle.sales.proofs.saleorder.more.Goals as goal

pub returns-then-stays : goal.returns-then-stays
returns-then-stays c = rw c.if-stays.true

pub returns : goal.returns
returns c = rw c.if-stays.false
