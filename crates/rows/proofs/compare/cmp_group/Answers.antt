-- `compare::cmp_group` meets its contract. Assumes nothing.
use Rattle.std.proofs.Common.{arith}
use Rattle.rows.proofs.compare.cmp_group.Goals as goal

pub cmp_by-requires : goal.cmp_by-requires
cmp_by-requires c =
    let p = c.requires in
    (record { few = p.0.few; values = omega (arith, p.0.values); marks = omega (arith, p.0.marks) }, record { few = p.1.few; values = omega (arith, p.1.values); marks = omega (arith, p.1.marks) })

pub returns : goal.returns
returns c = λ wa wb ha hb. c.cmp_by.ensures wa wb (omega (arith, ha)) (omega (arith, hb))
