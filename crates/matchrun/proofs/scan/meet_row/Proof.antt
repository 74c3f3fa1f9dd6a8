use mathlib.Core.Path.{◌≡◌}
use mathlib.Core.Bool.{not, ◌&&◌}
use Prim.Native.Nat.{◌+◌, ◌*◌, ◌≤◌, ◌<◌}
use native.Mathlib.Omega.{arith}
use borrow.Author.Tests.{not-true, not-false}
use lib.IntN.{pos}
use lib.ListN.{get_or}
use mir.Facts.{to_z-of_z}
use Rattle.frames.specs.Cells.{value, is_null}
use Rattle.order.specs.options.Options.{key_rule}
use Rattle.order.specs.Order.{cmp_cell}
use Rattle.order.specs.Requires.{cell_at}
use Rattle.frames.proofs.Signed.{back}
use Rattle.order.proofs.RowLaws.{row_room}
use Rattle.matching.specs.Match.{on_side}
use Rattle.matching.specs.Loops.{TakesOver}
use Rattle.matching.proofs.BestLaws.{stays, comes, wins, loses}
use borrow.Author.Rules.{rules}
use Rattle.matchrun.proofs.scan.meet_row.Statement.{statement}
use Rattle.matchrun.proofs.scan.meet_row.Tie as tie

-- row j ends within the rows; so does the best row, where there is one
room : (c : tie.Start) → c.args.j * c.args.right.width + c.args.right.width ≤ c.args.to * c.args.right.width
room c = row_room c.args.j c.args.to c.args.right.width c.requires.there

low : (c : tie.Else-best-to) → c.args.best < c.args.to
low c = let s = c in let l = c.if-best-to.false in let k = s.requires.kept.within in omega arith

best-room : (c : tie.Else-best-to) → let a = c.args in a.best * a.right.width + a.right.width ≤ a.to * a.right.width
best-room c = let a = c.args in row_room a.best a.to a.right.width (low c)

-- what `fits_key` says of row j
fit : (c : tie.After-fits_key) →
    let a = c.args in
    c.fits_key.result ≡ (not (is_null (cell_at (a.j * a.right.width + a.o.by) a.right.values.now a.right.marks.now)) && on_side a.s a.o.allow_eq (cmp_cell key_rule (cell_at (a.j * a.right.width + a.o.by) a.right.values.now a.right.marks.now) (value a.v)))
fit c = rw (to_z-of_z c.ranges.v) at c.fits_key.ensures

-- what `takes_over` says of row j and the best row
over : (c : tie.After-takes_over) →
    let a = c.args in
    TakesOver a.s a.v (get_or a.right.values.now (a.j * a.right.width + a.o.by) (pos 0)) (get_or a.right.values.now (a.best * a.right.width + a.o.by) (pos 0)) c.takes_over.result
over c =
    let s = c in
    let a = s.args in
    rw (
      to_z-of_z s.ranges.v,
      back (get_or a.right.values.now (a.j * a.right.width + a.o.by) (pos 0)) c.takes_over-arg-1.given,
      back (get_or a.right.values.now (a.best * a.right.width + a.o.by) (pos 0)) c.takes_over-arg-2-1.given,
    ) at c.takes_over.ensures

mul-k : tie.Need-overflow_mul-k
mul-k c = omega (arith, room c, c.requires.rows)

add-k : tie.Need-overflow_add-k
add-k c = omega (arith, room c, c.requires.rows)

fits-key-requires : tie.Need-fits_key-requires
fits-key-requires c κs = let r = room c in let p = c.requires.rows in record { values = omega arith; marks = omega arith }

returns : tie.Need-returns-then-not-fits_key
returns c = stays _ _ _ _ _ _ _ _ _ c.requires _ (fit c.before) (not-true _ c.if-not-fits_key.true-raw)

returns-2 : tie.Need-returns-then-best-to
returns-2 c = comes _ _ _ _ _ _ _ _ _ c.requires _ (fit c.before.before) (not-false _ c.if-not-fits_key.false-raw) c.if-best-to.true

mul-b : tie.Need-overflow_mul-b
mul-b c = omega (arith, best-room c, c.requires.rows)

add-b : tie.Need-overflow_add-b
add-b c = omega (arith, best-room c, c.requires.rows)

mul-takes-over : tie.Need-offset_bounds-right-k
mul-takes-over c = omega (arith, room c.before.before.before, c.requires.rows)

shared-slice-copy-out-takes-over : tie.Need-bounds-right-k
shared-slice-copy-out-takes-over c = omega (arith, room c.before.before.before, c.requires.rows)

mul-takes-over-2 : tie.Need-offset_bounds-right-b
mul-takes-over-2 c = omega (arith, best-room c.before, c.requires.rows)

shared-slice-copy-out-takes-over-2 : tie.Need-bounds-right-b
shared-slice-copy-out-takes-over-2 c = omega (arith, best-room c.before, c.requires.rows)

takes-over-requires : tie.Need-takes_over-requires
takes-over-requires c κs = search rules

returns-3 : tie.Need-returns-then-takes_over
returns-3 c =
    let m = c in
    wins _ _ _ _ _ _ _ _ _ m.requires _ (fit m.before.before.before.before.before.before) (not-false _ m.if-not-fits_key.false-raw) (low m.before.before.before.before) _ (over c.before) c.if-takes_over.true

returns-4 : tie.Need-returns
returns-4 c =
    let m = c in
    loses _ _ _ _ _ _ _ _ _ m.requires _ (fit m.before.before.before.before.before.before) (not-false _ m.if-not-fits_key.false-raw) (low m.before.before.before.before) _ (over c.before) c.if-takes_over.false

pub meet_row_spec : {M : Type 1} → statement M
meet_row_spec =
    tie.close
    (tie.spec mul-k add-k fits-key-requires returns returns-2 mul-b add-b mul-takes-over shared-slice-copy-out-takes-over mul-takes-over-2 shared-slice-copy-out-takes-over-2 takes-over-requires returns-3 returns-4)
