-- `planwalk::height_or_none` meets its contract. Assumes nothing.
use Rattle.planning.proofs.HeightLaws.{height_in}
use Rattle.planning.proofs.planwalk.WalkLaws.{height_none}
use borrow.Author.Rules.{rules}
use Rattle.planning.proofs.planwalk.height_or_none.Statement.{statement}
use Rattle.planning.proofs.planwalk.height_or_none.Tie as tie

height-at-requires : tie.Need-height_at-requires
height-at-requires c κs = let s = c in height_in s.args.heights.now s.args.i s.requires c.if-i-heights.true

returns : tie.Need-returns-then-i-heights
returns c = search rules

returns-2 : tie.Need-returns
returns-2 c = let s = c in height_none s.args.heights.now s.args.i c.if-i-heights.false

pub height_or_none_spec : {M : Type 1} → statement M
height_or_none_spec = tie.close (tie.spec height-at-requires returns returns-2)
