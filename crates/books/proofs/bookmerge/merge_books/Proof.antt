-- `bookmerge::merge_books` meets its contract. Assumes nothing.
use mathlib.Core.Path.{◌≡◌, sym, ◌∙◌}
use mathlib.Core.Bool.{true}
use Prim.Native.Nat.{◌+◌, ◌^◌, ◌≤◌, ◌<◌}
use native.Mathlib.Omega.{arith}
use borrow.Author.Tests.{not-true, not-false}
use lib.ListN.{length}
use Rattle.order.specs.options.Options.{with_list}
use Rattle.frames.specs.Cells.{Rows, rows_of}
use Rattle.frames.specs.Frame.{frame_words}
use Rattle.frames.proofs.WordLaws.{rows_length}
use Rattle.order.specs.Order.{sorted}
use Rattle.tables.proofs.CellLaws.{at_least}
use Rattle.books.proofs.bookjudge.JudgeLaws.{room_there}
use Rattle.books.proofs.bookmerge.CallLaws.{unsorted_house, unsorted_festival, no_room_lem, wrote}
use borrow.Author.Rules.{rules}
use Rattle.books.proofs.bookmerge.merge_books.Statement.{statement}
use Rattle.books.proofs.bookmerge.merge_books.Tie as tie

-- The two books' rows.
abbrev house : (s : tie.Start) → Rows
house s = rows_of s.args.house.width s.args.house.count s.args.house.values.now s.args.house.marks.now

abbrev festival : (s : tie.Start) → Rows
festival s = rows_of s.args.house.width s.args.festival.count s.args.festival.values.now s.args.festival.marks.now

is-sorted-requires : tie.Need-is_sorted-requires
is-sorted-requires c κs = search rules

returns : tie.Need-returns-then-not-is_sorted
returns c =
    let s = c in
    unsorted_house (with_list s.args.rules.terms s.args.rules.codes.now s.args.rules.rising.now) s.args.house.width (house s.before.before) (festival s.before.before) s.args.out.now (sym c.is_sorted.ensures ∙ not-true c.is_sorted.result c.if-not-is_sorted.true-raw)

is-sorted-requires-2 : tie.Need-is_sorted-requires-2
is-sorted-requires-2 c κs = search rules

returns-2 : tie.Need-returns-then-not-is_sorted-2
returns-2 c =
    let s = c in
    unsorted_festival (with_list s.args.rules.terms s.args.rules.codes.now s.args.rules.rising.now) s.args.house.width (house s.before.before.before.before.before.before) (festival s.before.before.before.before.before.before) s.args.out.now (sym c.is_sorted-2.ensures ∙ not-true c.is_sorted-2.result c.if-not-is_sorted-2.true-raw)

-- Both are sorted.
house_sorted : (c : tie.Else-not-is_sorted-2) → let s = c in sorted (with_list s.args.rules.terms s.args.rules.codes.now s.args.rules.rising.now) (house s.before.before.before.before.before.before) ≡ true
house_sorted c = sym c.is_sorted.ensures ∙ not-false c.is_sorted.result c.if-not-is_sorted.false-raw

festival_sorted : (c : tie.Else-not-is_sorted-2) → let s = c in sorted (with_list s.args.rules.terms s.args.rules.codes.now s.args.rules.rising.now) (festival s.before.before.before.before.before.before) ≡ true
festival_sorted c = sym c.is_sorted-2.ensures ∙ not-false c.is_sorted-2.result c.if-not-is_sorted-2.false-raw

counted : (s : tie.Start) → s.args.house.count + s.args.festival.count ≡ length (house s) + length (festival s)
counted s =
    let a = s.args in
    omega (arith, rows_length a.house.width a.house.count a.house.values.now a.house.marks.now, rows_length a.house.width a.festival.count a.festival.values.now a.festival.marks.now)

-- The books' words bound their rows.
few : (s : tie.Start) → s.args.house.count + s.args.festival.count < 2 ^ 64
few s =
    let a = s.args in
    let h = s.requires.house.rows in
    let k = s.requires.festival.rows in
    omega (arith, at_least a.house.count a.house.width (omega (arith, h.wide)), at_least a.festival.count a.house.width (omega (arith, h.wide)), h.values, k.values)

add-n : tie.Need-overflow_add-n
add-n c = omega (arith, few c.before.before.before.before.before.before)

has-room-requires : tie.Need-has_room-requires
has-room-requires c κs = search rules

returns-3 : tie.Need-returns-then-not-has_room
returns-3 c =
    let e = c in
    let s = e in
    no_room_lem (with_list s.args.rules.terms s.args.rules.codes.now s.args.rules.rising.now) s.args.house.width (house s.before.before.before.before.before.before.before.before) (festival s.before.before.before.before.before.before.before.before) s.args.out.now (house_sorted e.before.before) (festival_sorted e.before.before) (s.args.house.count + s.args.festival.count) (counted s.before.before.before.before.before.before.before.before)
    (sym c.has_room.ensures ∙ not-true c.has_room.result c.if-not-has_room.true-raw)

-- There is room.
room : (c : tie.Else-not-has_room) → let a = c.args in frame_words (a.house.count + a.festival.count) a.house.width ≤ length a.out.now
room c =
    let a = c.args in
    room_there (a.house.count + a.festival.count) a.house.width (length a.out.now) (sym c.has_room.ensures ∙ not-false c.has_room.result c.if-not-has_room.false-raw)

merge-rows-requires : tie.Need-merge_rows-requires
merge-rows-requires c κs =
    let s = c in
    record { house = s.requires.house; festival = s.requires.festival; narrow = s.requires.narrow; room = room c.before }

same_length : tie.Need-shape_of-out
same_length c = search rules

returns-4 : tie.Need-returns
returns-4 c =
    let r = c in
    let e = r in
    let s = e in
    let a = s.args in
    wrote (with_list a.rules.terms a.rules.codes.now a.rules.rising.now) a.house.width (house s.before.before.before.before.before.before.before.before.before.before.before) (festival s.before.before.before.before.before.before.before.before.before.before.before) a.out.now (house_sorted e.before.before.before.before.before) (festival_sorted e.before.before.before.before.before) (a.house.count + a.festival.count) (counted s.before.before.before.before.before.before.before.before.before.before.before) (room r.before.before.before) _ c.merge_rows.ensures

pub merge_books_spec : {M : Type 1} → statement M
merge_books_spec =
    tie.close
    (tie.spec is-sorted-requires returns is-sorted-requires-2 returns-2 add-n has-room-requires returns-3 merge-rows-requires same_length returns-4)
