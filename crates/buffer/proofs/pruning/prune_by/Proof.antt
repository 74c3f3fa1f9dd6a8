use mathlib.Core.Path.{◌≡◌}
use Prim.Native.Nat.{◌<◌}
use native.Mathlib.Omega.{arith}
use lib.ListN.{length}
use Rattle.frames.specs.Cells.{rows_of}
use Rattle.frames.proofs.WordLaws.{rows_length}
use Rattle.order.proofs.RowLaws.{row_room, rows_from}
use Rattle.searching.proofs.ReachLaws.{row_at, prune_no_left, prune_no_held, prune_split}
use Rattle.buffer.proofs.pruning.prune_by.Statement.{statement}
use Rattle.buffer.proofs.pruning.prune_by.Tie as tie

-- how many rows there are; the chosen row is one of them
many-left : (c : tie.Start) → let a = c.args in length (rows_of a.left.width a.left.count a.left.values.now a.left.marks.now) ≡ a.left.count
many-left c = let a = c.args in rows_length a.left.width a.left.count a.left.values.now a.left.marks.now

many : (c : tie.Start) → let a = c.args in length (rows_of a.right.width a.right.count a.right.values.now a.right.marks.now) ≡ a.right.count
many c = let a = c.args in rows_length a.right.width a.right.count a.right.values.now a.right.marks.now

chosen : (c : tie.Else-right-eq0) → c.args.i < c.args.left.count
chosen c = c.requires.0.row (omega (arith, c.if-left-eq0.false))

returns : tie.Need-returns-then-left-eq0
returns c = prune_no_left _ _ _ _ _ _ (many-left c.before) (many c.before) c.if-left-eq0.true

returns-2 : tie.Need-returns-then-right-eq0
returns-2 c = let s = c in prune_no_held _ _ _ _ _ _ (many-left s.before.before) (many s.before.before) c.if-left-eq0.false c.if-right-eq0.true

mul-split-at : tie.Need-overflow_mul-i
mul-split-at c = let s = c in let r = row_room s.args.i s.args.left.count s.args.left.width (chosen c) in omega (arith, s.requires.1.values)

split-at-requires : tie.Need-split_at-requires
split-at-requires c κs = let s = c in (row_at s.requires.1 s.args.i (chosen c), s.requires.2)

returns-3 : tie.Need-returns
returns-3 c =
    let e = c in
    let s = e in
    let a = s.args in
    rw (c.split_at.ensures a.left.width s.requires.1.wide)
    (prune_split _ _ _ _ _ _ (many-left s.before.before.before) (many s.before.before.before) e.if-left-eq0.false e.if-right-eq0.false _ (rows_from a.left.width a.left.count a.i a.left.values.now a.left.marks.now (chosen e.before)))

pub prune_by_spec : {M : Type 1} → statement M
prune_by_spec = tie.close (tie.spec returns returns-2 mul-split-at split-at-requires returns-3)
