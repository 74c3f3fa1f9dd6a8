-- `planwalk::take_right` meets its contract. Assumes nothing.
use borrow.Author.Rules.{rules}
use Rattle.planning.proofs.planwalk.take_right.Statement.{statement}
use Rattle.planning.proofs.planwalk.take_right.Tie as tie

add-to : tie.Need-overflow_add-to
add-to c = search rules

add-t4 : tie.Need-overflow_add-result
add-t4 c = search rules

sub-larger : tie.Need-overflow_sub-to
sub-larger c = search rules

larger-requires : tie.Need-larger-requires
larger-requires c κs = search rules

returns : tie.Need-returns
returns c = rw c.larger.ensures

pub take_right_spec : {M : Type 1} → statement M
take_right_spec = tie.close (tie.spec add-to add-t4 sub-larger larger-requires returns)
