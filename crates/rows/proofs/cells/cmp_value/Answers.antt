-- `cells::cmp_value` meets its contract. Assumes nothing.
use Rattle.frames.proofs.Signed.{lt_flag}
use Rattle.rows.proofs.cells.cmp_value.Goals as goal

pub returns-then-a-b : goal.returns-then-a-b
returns-then-a-b c =
    let f = c.ranges in
    simp (lt_flag f.a f.b c.if-a-b.true)

pub returns-then-b-a : goal.returns-then-b-a
returns-then-b-a c =
    let f = c.ranges in
    simp (lt_flag f.a f.b c.if-a-b.false, lt_flag f.b f.a c.if-b-a.true)

pub returns : goal.returns
returns c =
    let f = c.ranges in
    simp (lt_flag f.a f.b c.if-a-b.false, lt_flag f.b f.a c.if-b-a.false)
