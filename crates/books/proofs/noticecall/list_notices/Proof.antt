-- `noticecall::list_notices` meets its contract. Assumes nothing.
use mathlib.Core.Path.{◌≡◌, sym, ◌∙◌}
use mathlib.Core.Bool.{true}
use Prim.Native.Nat.{◌^◌, ◌≤◌, ◌<◌}
use native.Mathlib.Omega.{arith}
use borrow.Author.Tests.{not-true, not-false}
use lib.ListN.{length}
use Rattle.order.specs.options.Options.{with_list}
use Rattle.frames.specs.Cells.{Rows, rows_of}
use Rattle.frames.specs.Frame.{frame_words}
use Rattle.frames.proofs.WordLaws.{rows_length}
use Rattle.order.specs.Order.{sorted}
use Rattle.books.proofs.bookjudge.JudgeLaws.{room_there}
use Rattle.books.proofs.noticecall.CallLaws.{no_column, unsorted, no_room_lem, wrote}
use borrow.Author.Rules.{rules}
use Rattle.books.proofs.noticecall.list_notices.Statement.{statement}
use Rattle.books.proofs.noticecall.list_notices.Tie as tie

abbrev rows : tie.Start → Rows
rows s = rows_of s.args.rows.width s.args.rows.count s.args.rows.values.now s.args.rows.marks.now

counted : (s : tie.Start) → s.args.rows.count ≡ length (rows s)
counted s = sym (rows_length s.args.rows.width s.args.rows.count s.args.rows.values.now s.args.rows.marks.now)

returns : tie.Need-returns-then-rules-column
returns c = let s = c in no_column (with_list s.args.rules.terms s.args.rules.codes.now s.args.rules.rising.now) s.args.column (rows s.before) s.args.out.now c.if-rules-column.true

is-sorted-requires : tie.Need-is_sorted-requires
is-sorted-requires c κs = search rules

returns-2 : tie.Need-returns-then-not-is_sorted
returns-2 c =
    let e = c in
    let s = e in
    unsorted (with_list s.args.rules.terms s.args.rules.codes.now s.args.rules.rising.now) s.args.column (rows s.before.before.before) s.args.out.now e.if-rules-column.false (sym c.is_sorted.ensures ∙ not-true c.is_sorted.result c.if-not-is_sorted.true-raw)

in_order : (c : tie.Else-not-is_sorted) → let s = c in sorted (with_list s.args.rules.terms s.args.rules.codes.now s.args.rules.rising.now) (rows s.before.before.before) ≡ true
in_order c = sym c.is_sorted.ensures ∙ not-false c.is_sorted.result c.if-not-is_sorted.false-raw

has-room-requires : tie.Need-has_room-requires
has-room-requires c κs = search rules

returns-3 : tie.Need-returns-then-not-has_room
returns-3 c =
    let d = c in
    let e = d in
    let s = e in
    no_room_lem (with_list s.args.rules.terms s.args.rules.codes.now s.args.rules.rising.now) s.args.column (rows s.before.before.before.before.before) s.args.out.now e.if-rules-column.false (in_order d.before.before) s.args.rows.count (counted s.before.before.before.before.before)
    (sym c.has_room.ensures ∙ not-true c.has_room.result c.if-not-has_room.true-raw)

room : (c : tie.Else-not-has_room) → let a = c.args in frame_words a.rows.count 2 ≤ length a.out.now
room c =
    let a = c.args in
    room_there a.rows.count 2 (length a.out.now) (sym c.has_room.ensures ∙ not-false c.has_room.result c.if-not-has_room.false-raw)

few : (c : tie.Else-not-has_room) → c.args.rows.count < 2 ^ 60
few c = let g = c.well_formed.1.1.1.0 in omega (arith, g.0, g.1, room c)

mul-put-notices : tie.Need-overflow_mul-rows
mul-put-notices c = omega (arith, few c)

put-notices-requires : tie.Need-put_notices-requires
put-notices-requires c κs =
    let r = c in
    let d = r in
    let e = d in
    let s = e in
    record { rows = s.requires.rows; wide = omega (arith, s.requires.width, e.if-rules-column.false); in_order = in_order d.before.before.before; counted = omega arith; room = omega (arith, room r.before) }

put-head-requires : tie.Need-put_head-requires
put-head-requires c κs =
    let r = c in
    record { rows = omega (arith, few r.before.before.before.before); columns = omega arith; room = omega (arith, room r.before.before.before.before, c.put_notices.auto.out) }

same_length : tie.Need-shape_of-out
same_length c = search rules

returns-4 : tie.Need-returns
returns-4 c =
    let r = c in
    let d = r in
    let e = d in
    let s = e in
    wrote (with_list s.args.rules.terms s.args.rules.codes.now s.args.rules.rising.now) s.args.column (rows s.before.before.before.before.before.before.before.before.before.before.before) s.args.out.now e.if-rules-column.false (in_order d.before.before.before.before.before.before.before.before) s.args.rows.count (counted s.before.before.before.before.before.before.before.before.before.before.before) (room r.before.before.before.before.before.before) _ _ c.put_notices.ensures c.put_head.ensures

pub list_notices_spec : {M : Type 1} → statement M
list_notices_spec =
    tie.close
    (tie.spec returns is-sorted-requires returns-2 has-room-requires returns-3 mul-put-notices put-notices-requires put-head-requires same_length returns-4)
