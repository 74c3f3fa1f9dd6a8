-- `cutcall::side_columns` meets its contract. Assumes nothing.
use borrow.Author.Rules.{rules}
use Rattle.cutting.proofs.cutcall.side_columns.Statement.{statement}
use Rattle.cutting.proofs.cutcall.side_columns.Tie as tie

right-columns-requires : tie.Need-right_columns-requires
right-columns-requires c κs = search rules

returns : tie.Need-returns-then-right
returns c = rw c.if-right.true c.right_columns.ensures

left-columns-requires : tie.Need-left_columns-requires
left-columns-requires c κs = search rules

returns-2 : tie.Need-returns
returns-2 c = rw c.if-right.false c.left_columns.ensures

pub side_columns_spec : {M : Type 1} → statement M
side_columns_spec = tie.close (tie.spec right-columns-requires returns left-columns-requires returns-2)
