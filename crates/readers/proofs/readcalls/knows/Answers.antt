-- `readcalls::knows` meets its contract. Assumes nothing.
use mathlib.Core.Path.{sym}
use Rattle.readers.proofs.ViewLaws.{knows_shared, knows_last, knows_no}
use borrow.Author.Rules.{rules}
use Rattle.readers.proofs.readcalls.knows.Goals as goal

pub returns-then-c-p : goal.returns-then-c-p
returns-then-c-p c = sym (knows_shared c.args.p c.args.c c.args.distance c.if-c-p.true)

pub returns-then-distance : goal.returns-then-distance
returns-then-distance c =
    let a = c.args in
    sym (knows_last a.p a.c a.distance c.if-distance.true c.if-c-p.false)

pub returns : goal.returns
returns c =
    let a = c.args in
    sym (knows_no a.p a.c a.distance c.if-distance.false c.if-c-p.false)
