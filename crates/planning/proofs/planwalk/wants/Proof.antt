-- `planwalk::wants` meets its contract. Assumes nothing.
use borrow.Author.Rules.{rules}
use borrow.Author.Tests.{not-true, not-false}
use Rattle.planning.proofs.planwalk.wants.Statement.{statement}
use Rattle.planning.proofs.planwalk.wants.Tie as tie

returns : tie.Need-returns-then-not-some
returns c = rw (not-true c.args.some c.if-not-some.true-raw)

need-more-requires : tie.Need-need_more-requires
need-more-requires c κs = search rules

returns-2 : tie.Need-returns
returns-2 c = rw (not-false c.args.some c.if-not-some.false-raw) c.need_more.ensures

pub wants_spec : {M : Type 1} → statement M
wants_spec = tie.close (tie.spec returns need-more-requires returns-2)
