use mathlib.Core.Path.{◌≡◌, sym}
use Prim.Native.Nat.{◌+◌, ◌-◌, ◌*◌, ◌≤◌}
use native.Mathlib.Omega.{arith}
use borrow.Author.Tests.{not-false}
use lib.IntN.{pos}
use lib.ListN.{get_or}
use mir.Syntax.{w64}
use mir.Val.{to_z, of_z}
use Rattle.frames.specs.Cells.{cell_of}
use Rattle.frames.proofs.Signed.{back}
use Rattle.order.proofs.RowLaws.{row_room}
use Rattle.groups.proofs.stretch.StretchLaws.{same_cell}
use Rattle.groups.proofs.stretchkeys.GoLaws.{Goes, goes_first, goes_on_lem, goes_room}
use Rattle.groups.proofs.stretchkeys.one_rise.Statement.{statement}
use Rattle.groups.proofs.stretchkeys.one_rise.Tie as tie

abbrev invariant-loop : tie.invariant-loop-left
invariant-loop rows i left₀ p₀ v m k left p = Goes rows.width rows.count rows.values.now rows.marks.now i (cell_of (to_z w64 v) (to_z w64 m)) (to_z w64 k) left p

abbrev decreases-loop : tie.decreases-loop-left
decreases-loop rows i left₀ p₀ v m k left p = left

-- two rows more end within the rows
room : (c : tie.In-loop-left invariant-loop decreases-loop) → let l = c.loop-left in let a = c.args in l.p + a.rows.width + a.rows.width + a.rows.width ≤ a.rows.count * a.rows.width
room c =
    let l = c.loop-left in
    let a = c.args in
    goes_room a.rows.width a.rows.count a.rows.values.now a.rows.marks.now a.i _ _ l.left l.p l.invariant c.loop-left-test.true

-- the first of them goes on
next : (c : tie.Else-not-row_follows invariant-loop decreases-loop) →
    let l = c.loop-left in
    let a = c.args in
    let at = a.i * a.rows.width in
    Goes a.rows.width a.rows.count a.rows.values.now a.rows.marks.now a.i (cell_of (to_z w64 (of_z w64 (get_or a.rows.values.now at (pos 0)))) (to_z w64 (of_z w64 (get_or a.rows.marks.now at (pos 0))))) (to_z w64 (of_z w64 (get_or a.rows.marks.now (at + 1) (pos 0)))) (l.left - 1) (l.p + a.rows.width)
next c =
    let l = c.loop-left in
    let a = c.args in
    let t = c.loop-left-test.true in
    let f = c.row_follows.ensures (not-false c.row_follows.result c.if-not-row_follows.false-raw) in
    goes_on_lem a.rows.width a.rows.count a.rows.values.now a.rows.marks.now a.i _ _ l.left l.p l.invariant (omega arith) f.0 (f.1, f.2)

sub-left : tie.Need-overflow_sub-left invariant-loop decreases-loop
sub-left c = omega (arith, c.requires.1)

sub-left-2 : tie.Need-overflow_sub-left-2 invariant-loop decreases-loop
sub-left-2 c = omega (arith, c.requires.1)

mul-p : tie.Need-overflow_mul-p invariant-loop decreases-loop
mul-p c = let s = c in let a = s.args in let r = row_room a.i a.rows.count a.rows.width s.requires.1 in let p = s.requires.0 in omega arith

mul-v : tie.Need-offset_bounds-rows-p invariant-loop decreases-loop
mul-v c = let s = c in let a = s.args in let r = row_room a.i a.rows.count a.rows.width s.requires.1 in let p = s.requires.0 in omega arith

shared-slice-copy-out-v : tie.Need-bounds-rows-p invariant-loop decreases-loop
shared-slice-copy-out-v c = let s = c in let a = s.args in let r = row_room a.i a.rows.count a.rows.width s.requires.1 in let p = s.requires.0 in omega arith

mul-m : tie.Need-offset_bounds-rows-p-2 invariant-loop decreases-loop
mul-m c = let s = c in let a = s.args in let r = row_room a.i a.rows.count a.rows.width s.requires.1 in let p = s.requires.0 in omega arith

shared-slice-copy-out-m : tie.Need-bounds-rows-p-2 invariant-loop decreases-loop
shared-slice-copy-out-m c = let s = c in let a = s.args in let r = row_room a.i a.rows.count a.rows.width s.requires.1 in let p = s.requires.0 in omega arith

add-k : tie.Need-overflow_add-k invariant-loop decreases-loop
add-k c = let s = c in let a = s.args in let r = row_room a.i a.rows.count a.rows.width s.requires.1 in let p = s.requires.0 in omega arith

mul-k : tie.Need-offset_bounds-rows-p-3 invariant-loop decreases-loop
mul-k c = let s = c in let a = s.args in let r = row_room a.i a.rows.count a.rows.width s.requires.1 in let p = s.requires.0 in omega arith

shared-slice-copy-out-k : tie.Need-bounds-rows-p-3 invariant-loop decreases-loop
shared-slice-copy-out-k c = let s = c in let a = s.args in let r = row_room a.i a.rows.count a.rows.width s.requires.1 in let p = s.requires.0 in omega arith

loop-holds : tie.Need-loop-left-init invariant-loop decreases-loop
loop-holds c =
    let s = c in
    let a = s.args in
    let vs = a.rows.values.now in
    let ms = a.rows.marks.now in
    goes_first a.rows.width a.rows.count vs ms a.i _ _ s.requires.1
    (same_cell (sym (back (get_or vs (a.i * a.rows.width) (pos 0)) c.v-1.given)) (sym (back (get_or ms (a.i * a.rows.width) (pos 0)) c.m-1.given)))
    (sym (back (get_or ms (a.i * a.rows.width + 1) (pos 0)) c.k-1.given))

add-q : tie.Need-overflow_add-q invariant-loop decreases-loop
add-q c =
    let i = c in let s = i in let r = room i in let p = s.requires.0 in omega arith

row-follows-requires : tie.Need-row_follows-requires invariant-loop decreases-loop
row-follows-requires c κs =
    let i = c in let s = i in let r = room i in let p = s.requires.0 in
    (record { values = omega arith; marks = omega arith }, record { values = omega arith; marks = omega arith }, i.loop-left.invariant.5)

returns : tie.Need-returns-then-not-row_follows invariant-loop decreases-loop
returns c = let g = c.loop-left.invariant in let h = g.0 in (omega arith, g.2, g.3)

add_r : tie.Need-overflow_add-r invariant-loop decreases-loop
add_r c =
    let i = c in let s = i in let r = room i.before.before in let p = s.requires.0 in omega arith

row-follows-requires-2 : tie.Need-row_follows-requires-in-loop-left invariant-loop decreases-loop
row-follows-requires-2 c κs =
    let i = c in let s = i in let r = room i.before.before in let p = s.requires.0 in
    (record { values = omega arith; marks = omega arith }, record { values = omega arith; marks = omega arith }, (next c).5)

sub-result : tie.Need-overflow_sub-result invariant-loop decreases-loop
sub-result c = let t = c.loop-left-test.true in omega arith

returns-2 : tie.Need-returns-then-not-row_follows-2 invariant-loop decreases-loop
returns-2 c = let g = next c.before.before in let h = g.0 in (omega arith, g.2, g.3)

sub-left-3 : tie.Need-overflow_sub-left-in-loop-left invariant-loop decreases-loop
sub-left-3 c = let t = c.loop-left-test.true in omega arith

loop-less : tie.Need-loop-left-smaller invariant-loop decreases-loop
loop-less c = let t = c.loop-left-test.true in omega arith

loop-again : tie.Need-loop-left-preserved invariant-loop decreases-loop
loop-again c =
    let l = c.loop-left in
    let a = c.args in
    let t = c.loop-left-test.true in
    let f = c.row_follows-in-loop-left.ensures (not-false c.row_follows-in-loop-left.result c.if-not-row_follows-2.false-raw) in
    let z : l.left - 2 ≡ l.left - 1 - 1 = omega arith in
    rw z (goes_on_lem a.rows.width a.rows.count a.rows.values.now a.rows.marks.now a.i _ _ (l.left - 1) (l.p + a.rows.width) (next c.before.before) (omega arith) f.0 (f.1, f.2))

returns-3 : tie.Need-returns invariant-loop decreases-loop
returns-3 c = let g = c.loop-left.invariant in let h = g.0 in (omega arith, g.2, g.3)

pub one_rise_spec : {M : Type 1} → statement M
one_rise_spec =
    tie.close
    (tie.spec invariant-loop decreases-loop sub-left sub-left-2 mul-p mul-v shared-slice-copy-out-v mul-m shared-slice-copy-out-m add-k mul-k shared-slice-copy-out-k loop-holds add-q row-follows-requires returns add_r row-follows-requires-2 sub-result returns-2 sub-left-3 loop-less loop-again returns-3)
