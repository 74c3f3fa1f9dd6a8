-- `host::rowkeeper_takings_join` meets its contract: a signed number goes on as it came. Assumes nothing.
use mir.Facts.{to_z-of_z}
use borrow.Author.Rules.{rules}
use Rattle.host.proofs.rowkeeper_takings_join.Statement.{statement}
use Rattle.host.proofs.rowkeeper_takings_join.Tie as tie

join-host-requires : tie.Need-join_host-requires
join-host-requires c κs = search rules

same_length : tie.Need-shape_of-out
same_length c = search rules

returns : tie.Need-returns
returns c = let s = c in rw (to_z-of_z s.ranges.number, to_z-of_z s.ranges.other_number) at c.join_host.ensures

pub rowkeeper_takings_join_spec : {M : Type 1} → statement M
rowkeeper_takings_join_spec = tie.close (tie.spec join-host-requires same_length returns)
