-- `cutroom::cut_behind` meets its contract. Assumes nothing.
use Prim.Native.Nat.{◌*◌, ◌≤◌}
use native.Mathlib.Nat.{mul-le-mul_right}
use native.Mathlib.Omega.{arith}
use Rattle.frames.proofs.WordLaws.{rows_drop}
use Rattle.cutting.proofs.cutroom.RoomLaws.{table_behind}
use Rattle.cutting.proofs.cutroom.cut_behind.Statement.{statement}
use Rattle.cutting.proofs.cutroom.cut_behind.Tie as tie

-- The rows before row a lie within the words.
before-a : (s : tie.Start) → s.args.a * s.args.rows.width ≤ s.args.rows.count * s.args.rows.width
before-a s = mul-le-mul_right {m = s.args.a} {n = s.args.rows.count} s.args.rows.width s.requires.1

from-row-requires : tie.Need-from_row-vs-requires
from-row-requires c κs = let s = c in omega (arith, before-a s.before, s.requires.0.table.rows.values)

from-row-requires-2 : tie.Need-from_row-ms-requires
from-row-requires-2 c κs = let s = c in omega (arith, before-a s.before.before.before, s.requires.0.table.rows.marks)

sub-cut-place : tie.Need-overflow_sub-rows
sub-cut-place c = c.requires.1

cut-place-requires : tie.Need-cut_place-requires
cut-place-requires c κs =
    let s = c in
    let p = s.requires.0 in
    rw (c.from_row-vs.ensures, c.from_row-ms.ensures) (record { table = table_behind _ _ _ _ _ _ s.requires.1 p.table; boundary = p.boundary })

returns : tie.Need-returns
returns c =
    let f = c in
    let s = f in
    let a = s.args in
    let q = rw (f.from_row-vs.ensures, f.from_row-ms.ensures) at c.cut_place.ensures in
    rw (rows_drop a.rows.width a.rows.count a.a a.rows.values.now a.rows.marks.now s.requires.1) at q

pub cut_behind_spec : {M : Type 1} → statement M
cut_behind_spec = tie.close (tie.spec from-row-requires from-row-requires-2 sub-cut-place cut-place-requires returns)
