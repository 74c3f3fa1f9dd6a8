-- `cutcall::cut_rows` meets its contract. Assumes nothing.
use mathlib.Core.Path.{◌≡◌, sym, ◌∙◌}
use mathlib.Core.Bool.{true, false}
use Prim.Native.Nat.{◌^◌, ◌≤◌, ◌<◌}
use native.Mathlib.Omega.{arith}
use borrow.Author.Tests.{not-true, not-false}
use lib.ListN.{length}
use Rattle.order.specs.options.Options.{with_list}
use Rattle.order.specs.declared.options.Options.{Options}
use Rattle.frames.specs.Cells.{Rows, rows_of}
use Rattle.frames.specs.Frame.{frame_words}
use Rattle.frames.proofs.WordLaws.{rows_length}
use Rattle.order.specs.Order.{sorted}
use Rattle.books.proofs.bookjudge.JudgeLaws.{room_there}
use Rattle.cutting.specs.boundaries.Boundaries.{bad_boundaries}
use Rattle.cutting.proofs.cutcall.CallLaws.{unsorted, bad, no_room_lem, wrote}
use borrow.Author.Rules.{rules}
use Rattle.cutting.proofs.cutcall.cut_rows.Statement.{statement}
use Rattle.cutting.proofs.cutcall.cut_rows.Tie as tie

-- The options with their list; the rows; the boundaries.
abbrev whole : tie.Start → Options
whole s = with_list s.args.rules.terms s.args.rules.codes.now s.args.rules.rising.now

abbrev rows : tie.Start → Rows
rows s = rows_of s.args.rows.width s.args.rows.count s.args.rows.values.now s.args.rows.marks.now

abbrev groups : tie.Start → Rows
groups s = rows_of s.args.rules.terms.by s.args.bounds.count s.args.bounds.values.now s.args.bounds.marks.now

counted : (s : tie.Start) → s.args.bounds.count ≡ length (groups s)
counted s = sym (rows_length s.args.rules.terms.by s.args.bounds.count s.args.bounds.values.now s.args.bounds.marks.now)

is-sorted-requires : tie.Need-is_sorted-requires
is-sorted-requires c κs = search rules

returns : tie.Need-returns-then-not-is_sorted
returns c =
    let s = c in
    unsorted (whole s.before.before) (rows s.before.before) (groups s.before.before) s.args.out.now (sym c.is_sorted.ensures ∙ not-true c.is_sorted.result c.if-not-is_sorted.true-raw)

in_order : (c : tie.Else-not-is_sorted) → let s = c in sorted (whole s.before.before) (rows s.before.before) ≡ true
in_order c = sym c.is_sorted.ensures ∙ not-false c.is_sorted.result c.if-not-is_sorted.false-raw

bad-boundaries-requires : tie.Need-bad_boundaries-requires
bad-boundaries-requires c κs = search rules

returns-2 : tie.Need-returns-then-bad_boundaries
returns-2 c =
    let e = c in
    let s = e in
    bad (whole s.before.before.before.before) (rows s.before.before.before.before) (groups s.before.before.before.before) s.args.out.now (in_order e.before.before) (sym c.bad_boundaries.ensures ∙ c.if-bad_boundaries.true)

good-list : (c : tie.Else-bad_boundaries) → let s = c in bad_boundaries (whole s.before.before.before.before) (groups s.before.before.before.before) ≡ false
good-list c = sym c.bad_boundaries.ensures ∙ c.if-bad_boundaries.false

has-room-requires : tie.Need-has_room-requires
has-room-requires c κs = search rules

returns-3 : tie.Need-returns-then-not-has_room
returns-3 c =
    let d = c in
    let e = d in
    let s = e in
    no_room_lem (whole s.before.before.before.before.before.before) (rows s.before.before.before.before.before.before) (groups s.before.before.before.before.before.before) s.args.out.now (in_order e.before.before.before.before) (good-list d.before.before) s.args.bounds.count (counted s.before.before.before.before.before.before)
    (sym c.has_room.ensures ∙ not-true c.has_room.result c.if-not-has_room.true-raw)

room : (c : tie.Else-not-has_room) → let a = c.args in frame_words a.bounds.count 1 ≤ length a.out.now
room c =
    let a = c.args in
    room_there a.bounds.count 1 (length a.out.now) (sym c.has_room.ensures ∙ not-false c.has_room.result c.if-not-has_room.false-raw)

few : (c : tie.Else-not-has_room) → c.args.bounds.count < 2 ^ 60
few c = let g = c.well_formed.1.1.1.0 in omega (arith, g.0, g.1, room c)

put-places-requires : tie.Need-put_places-requires
put-places-requires c κs =
    let r = c in
    let d = r in
    let e = d in
    let s = e in
    record { table = record { rows = s.requires.rows; in_order = in_order e.before.before.before.before.before }; boundaries = s.requires.groups; room = omega (arith, room r.before) }

put-head-requires : tie.Need-put_head-requires
put-head-requires c κs =
    let r = c in
    record { rows = omega (arith, few r.before.before.before.before); columns = omega arith; room = omega (arith, room r.before.before.before.before, c.put_places.auto.out) }

same_length : tie.Need-shape_of-out
same_length c = search rules

returns-4 : tie.Need-returns
returns-4 c =
    let r = c in
    let d = r in
    let e = d in
    let s = e in
    wrote (whole s.before.before.before.before.before.before.before.before.before.before.before.before) (rows s.before.before.before.before.before.before.before.before.before.before.before.before) (groups s.before.before.before.before.before.before.before.before.before.before.before.before) s.args.out.now (in_order e.before.before.before.before.before.before.before.before.before.before) (good-list d.before.before.before.before.before.before.before.before) s.args.bounds.count (counted s.before.before.before.before.before.before.before.before.before.before.before.before) (room r.before.before.before.before.before.before) _ _ c.put_places.ensures c.put_head.ensures

pub cut_rows_spec : {M : Type 1} → statement M
cut_rows_spec =
    tie.close
    (tie.spec is-sorted-requires returns bad-boundaries-requires returns-2 has-room-requires returns-3 put-places-requires put-head-requires same_length returns-4)
