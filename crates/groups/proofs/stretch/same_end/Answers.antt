use Rattle.groups.proofs.stretch.StretchLaws.{same_none}
use Rattle.groups.proofs.stretch.same_end.Goals as goal

pub returns-then-by-eq0 : goal.returns-then-by-eq0
returns-then-by-eq0 c =
    let s = c in
    let a = s.args in
    rw c.if-by-eq0.true (same_none a.rows.width a.rows.count a.rows.values.now a.rows.marks.now a.i s.requires.1)

pub returns-then-by-eq1 : goal.returns-then-by-eq1
returns-then-by-eq1 c = rw c.if-by-eq1.true c.one_end.ensures
