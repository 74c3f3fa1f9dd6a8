-- `cutroom::too_short` meets its contract. Assumes nothing.
use mathlib.Core.Path.{sym, ◌∙◌}
use Prim.Native.Nat.{◌≤◌}
use native.Mathlib.Omega.{arith}
use borrow.Author.Tests.{not-true, not-false}
use Rattle.cutting.proofs.cutroom.RoomLaws.{no_frames, by_held}
use Rattle.cutting.proofs.cutroom.too_short.Statement.{statement}
use Rattle.cutting.proofs.cutroom.too_short.Tie as tie

holds-frames-requires : tie.Need-holds_frames-requires
holds-frames-requires c κs = c.requires.few_cells

returns : tie.Need-returns-then-not-holds_frames
returns c =
    let h = c in
    let p = h.requires in
    no_frames _ _ _ _ _ _ _ _ _ _ _ p.left_wide p.right_wide (sym h.holds_frames.ensures ∙ not-true h.holds_frames.result c.if-not-holds_frames.true-raw)

from-row-requires : tie.Need-from_row-xv-requires
from-row-requires c κs = c.requires.left_from.0

from-row-requires-2 : tie.Need-from_row-xm-requires
from-row-requires-2 c κs = c.requires.left_from.1

from-row-requires-3 : tie.Need-from_row-yv-requires
from-row-requires-3 c κs = c.requires.right_from.0

from-row-requires-4 : tie.Need-from_row-ym-requires
from-row-requires-4 c κs = c.requires.right_from.1

-- A right row is narrow.
narrow : (c : tie.After-from_row-ym) → c.args.right.width ≤ 13
narrow c = let p = c.requires in omega (arith, p.right_wide, p.carried, p.left.rows.few.by)

mul-result : tie.Need-overflow_mul-result
mul-result c = omega (arith, narrow c)

div-result : tie.Need-nonzero_div-result
div-result c = let p = c.requires in omega (arith, p.right.rows.wide)

most-held-requires : tie.Need-most_held-requires
most-held-requires c κs =
    let p = c.requires in
    rw (c.from_row-xv.ensures, c.from_row-xm.ensures, c.from_row-yv.ensures, c.from_row-ym.ensures) (p.left, p.right)

returns-2 : tie.Need-returns
returns-2 c =
    let f = c in
    let e = f in
    let h = e in
    let p = h.requires in
    let q = rw (f.from_row-xv.ensures, f.from_row-xm.ensures, f.from_row-yv.ensures, f.from_row-ym.ensures) at c.most_held.ensures in
    by_held _ _ _ _ _ _ _ _ _ _ _ p.left_wide p.right_wide (sym h.holds_frames.ensures ∙ not-false h.holds_frames.result e.if-not-holds_frames.false-raw) _ q

pub too_short_spec : {M : Type 1} → statement M
too_short_spec = tie.close (tie.spec holds-frames-requires returns from-row-requires from-row-requires-2 from-row-requires-3 from-row-requires-4 mul-result div-result most-held-requires returns-2)
