-- `carrying::put_last` meets its contract. Assumes nothing.
use Rattle.order.specs.options.Options.{without_list}
use Rattle.order.specs.Requires.{cell_at}
use Rattle.matchframe.proofs.carrying.DistanceLaws.{last_put, last_left}
use Rattle.matchframe.proofs.carrying.put_last.Goals as goal

pub put_distance-requires : goal.put_distance-requires
put_distance-requires c = let s = c in s.requires.2 c.if-o.true

pub returns-then-o : goal.returns-then-o
returns-then-o c =
    let s = c in
    let a = s.args in
    last_put (without_list a.o) (cell_at a.a a.left.values.now a.left.marks.now) a.q a.right.values.now a.right.marks.now a.m a.k a.out.now _ _ c.if-o.true c.key_distance-d.ensures c.put_distance.ensures

pub returns-else-o : goal.returns-else-o
returns-else-o c =
    let a = c.args in
    last_left (without_list a.o) (cell_at a.a a.left.values.now a.left.marks.now) a.q a.right.values.now a.right.marks.now a.m a.k a.out.now c.if-o.false
