use mathlib.Core.Path.{◌≡◌, sym}
use Prim.Native.Nat.{◌+◌, ◌*◌, ◌≤◌}
use native.Mathlib.Nat.{mul-le-mul_right}
use native.Mathlib.Omega.{arith}
use lib.IntN.{pos}
use lib.ListN.{get_or}
use mir.Syntax.{w64}
use mir.Val.{to_z, of_z}
use Rattle.frames.specs.Cells.{cell_of}
use Rattle.frames.proofs.Signed.{back}
use Rattle.order.specs.Requires.{cell_at}
use Rattle.order.proofs.RowLaws.{row_room}
use Rattle.groups.proofs.stretch.StretchLaws.{same_cell, have_join, one_same}
use borrow.Author.Rules.{rules}
use Rattle.groups.proofs.stretch.one_end.Statement.{statement}
use Rattle.groups.proofs.stretch.one_end.Tie as tie

-- row i ends within the rows
room : (c : tie.Start) → c.args.i * c.args.rows.width + c.args.rows.width ≤ c.args.rows.count * c.args.rows.width
room c = row_room c.args.i c.args.rows.count c.args.rows.width c.requires.1

-- the words that are kept are those of its first cell
kept : (c : tie.After-m-1) → let a = c.args in
    cell_at (a.i * a.rows.width) a.rows.values.now a.rows.marks.now ≡ cell_of (to_z w64 (of_z w64 (get_or a.rows.values.now (a.i * a.rows.width) (pos 0)))) (to_z w64 (of_z w64 (get_or a.rows.marks.now (a.i * a.rows.width) (pos 0))))
kept c =
    let a = c.args in
    same_cell (sym (back (get_or a.rows.values.now (a.i * a.rows.width) (pos 0)) c.v-1.given)) (sym (back (get_or a.rows.marks.now (a.i * a.rows.width) (pos 0)) c.m-1.given))

mul-p : tie.Need-overflow_mul-p
mul-p c = let r = room c in omega (arith, c.requires.0.values)

mul-v : tie.Need-offset_bounds-rows-p
mul-v c = let r = room c in omega (arith, c.requires.0.wide, c.requires.0.values)

shared-slice-copy-out-v : tie.Need-bounds-rows-p
shared-slice-copy-out-v c = let r = room c in omega (arith, c.requires.0.wide, c.requires.0.values)

mul-m : tie.Need-offset_bounds-rows-p-2
mul-m c = let r = room c.before in omega (arith, c.requires.0.wide, c.requires.0.values)

shared-slice-copy-out-m : tie.Need-bounds-rows-p-2
shared-slice-copy-out-m c = let r = room c.before in omega (arith, c.requires.0.wide, c.requires.0.marks)

sub-if1 : tie.Need-overflow_sub-rows
sub-if1 c = search rules

add-words-end : tie.Need-overflow_add-i
add-words-end c = search rules

words-end-requires : tie.Need-words_end-requires
words-end-requires c κs = search rules

returns : tie.Need-returns-then-rows-i-le9
returns c =
    let a = c.args in
    one_same a.rows.width a.rows.count a.rows.count a.rows.values.now a.rows.marks.now a.i c.words_end.result _ (omega arith) (kept c.before.before) c.words_end.ensures

add-words-end-2 : tie.Need-overflow_add-i-2
add-words-end-2 c = search rules

add-words-end-3 : tie.Need-overflow_add-i-3
add-words-end-3 c = search rules

words-end-requires-2 : tie.Need-words_end-e-requires
words-end-requires-2 c κs =
    let s = c in
    let a = s.args in
    let h : a.i + 9 ≤ a.rows.count = omega (arith, c.if-rows-i-le9.false) in
    let m = mul-le-mul_right {m = a.i + 9} {n = a.rows.count} a.rows.width h in
    record { wide = s.requires.0.wide; within = omega arith; values = omega (arith, m, s.requires.0.values); marks = omega (arith, m, s.requires.0.marks) }

add-if2 : tie.Need-overflow_add-i-4
add-if2 c = search rules

returns-2 : tie.Need-returns-then-e-i
returns-2 c =
    let e = c in
    let a = e.args in
    let h : a.i + 9 ≤ a.rows.count = omega (arith, e.if-rows-i-le9.false) in
    one_same a.rows.width a.rows.count (a.i + 9) a.rows.values.now a.rows.marks.now a.i c.words_end-e.result _ h (kept e.before.before.before.before.before) c.words_end-e.ensures

fours-end-requires : tie.Need-fours_end-requires
fours-end-requires c κs = search rules

returns-3 : tie.Need-returns
returns-3 c =
    let e = c in
    let a = e.args in
    one_same a.rows.width a.rows.count a.rows.count a.rows.values.now a.rows.marks.now a.i c.fours_end.result _ (omega arith) (kept e.before.before.before.before.before.before) (have_join c.words_end-e.ensures c.fours_end.ensures)

pub one_end_spec : {M : Type 1} → statement M
one_end_spec =
    tie.close
    (tie.spec mul-p mul-v shared-slice-copy-out-v mul-m shared-slice-copy-out-m sub-if1 add-words-end words-end-requires returns add-words-end-2 add-words-end-3 words-end-requires-2 add-if2 returns-2 fours-end-requires returns-3)
