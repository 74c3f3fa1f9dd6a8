-- `host::rowkeeper_takings_add` meets its contract: a signed number goes on as it came. Assumes nothing.
use mir.Facts.{to_z-of_z}
use borrow.Author.Rules.{rules}
use Rattle.host.proofs.rowkeeper_takings_add.Statement.{statement}
use Rattle.host.proofs.rowkeeper_takings_add.Tie as tie

add-host-requires : tie.Need-add_host-requires
add-host-requires c κs = search rules

same_length : tie.Need-shape_of-out
same_length c = search rules

returns : tie.Need-returns
returns c = let s = c in rw (to_z-of_z s.ranges.number) at c.add_host.ensures

pub rowkeeper_takings_add_spec : {M : Type 1} → statement M
rowkeeper_takings_add_spec = tie.close (tie.spec add-host-requires same_length returns)
