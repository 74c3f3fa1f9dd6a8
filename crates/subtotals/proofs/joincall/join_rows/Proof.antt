-- `joincall::join_rows` meets its contract. Assumes nothing.
use mathlib.Core.Path.{◌≡◌, sym, ap, ◌∙◌}
use mathlib.Core.Bool.{true, false}
use Prim.Native.Nat.{ℕ, ◌+◌, ◌*◌, ◌^◌, ◌≤◌, ◌<◌}
use native.Mathlib.Omega.{arith}
use borrow.Author.Tests.{not-true, not-false, leb-true}
use lib.IntN.{nat_abs, ◌+ℤ◌}
use lib.Signed.{mag}
use lib.ListN.{length}
use mir.Facts.{to_z-of_z}
use Rattle.frames.specs.Cells.{rows_of, rows_in}
use Rattle.frames.specs.Frame.{frame_words}
use Rattle.frames.proofs.Signed.{back}
use Rattle.order.specs.options.Options.{options_of}
use Rattle.tables.proofs.CellLaws.{at_least}
use Rattle.takings.specs.Subtotals.{add_all, subtotals_of, beyond_number, most_sales}
use Rattle.subtotals.specs.takejudge.Judge.{fine_rows, beyond_accounts}
use Rattle.subtotals.proofs.joincall.CallLaws.{unsorted_first, unsorted_second, beyond, no_room_lem, wrote, added, joined_table, Accounts, accounts, sum_number, number_fits}
use borrow.Author.Rules.{rules}
use Rattle.subtotals.proofs.joincall.join_rows.Statement.{statement}
use Rattle.subtotals.proofs.joincall.join_rows.Tie as tie

is-fine-requires : tie.Need-is_fine-requires
is-fine-requires c κs = let p = c.requires in (p.compare, p.first)

returns : tie.Need-returns-then-not-is_fine
returns c =
    unsorted_first (options_of c.args.rules) c.args.table.width (rows_in c.args.table) c.args.number (rows_of c.args.table.width c.args.added.count c.args.added.values.now c.args.added.marks.now) c.args.other c.args.out.now (sym c.is_fine.ensures ∙ not-true c.is_fine.result c.if-not-is_fine.true-raw)

is-fine-requires-2 : tie.Need-is_fine-requires-2
is-fine-requires-2 c κs = let p = c.requires in (p.compare, p.second)

returns-2 : tie.Need-returns-then-not-is_fine-2
returns-2 c =
    unsorted_second (options_of c.args.rules) c.args.table.width (rows_in c.args.table) c.args.number (rows_of c.args.table.width c.args.added.count c.args.added.values.now c.args.added.marks.now) c.args.other c.args.out.now (sym c.is_fine-2.ensures ∙ not-true c.is_fine-2.result c.if-not-is_fine-2.true-raw)

-- Both have no null and groups in order.
first_fine : (c : tie.Else-not-is_fine-2) → fine_rows (options_of c.args.rules) c.args.table.width (rows_in c.args.table) ≡ true
first_fine c = sym c.is_fine.ensures ∙ not-false c.is_fine.result c.if-not-is_fine.false-raw

second-fine : (c : tie.Else-not-is_fine-2) → fine_rows (options_of c.args.rules) c.args.table.width (rows_of c.args.table.width c.args.added.count c.args.added.values.now c.args.added.marks.now) ≡ true
second-fine c = sym c.is_fine-2.ensures ∙ not-false c.is_fine-2.result c.if-not-is_fine-2.false-raw

is-beyond-requires : tie.Need-is_beyond-requires
is-beyond-requires c κs = let p = c.requires in (p.first, p.second)

-- What was said of the bounds.
said : (c : tie.After-is_beyond) → c.is_beyond.result ≡ beyond_accounts (options_of c.args.rules) (rows_in c.args.table) c.args.number (rows_of c.args.table.width c.args.added.count c.args.added.values.now c.args.added.marks.now) c.args.other
said c =
    rw (to_z-of_z c.ranges.number, to_z-of_z c.ranges.other) at (c.is_beyond.ensures c.args.rules.codes.now c.args.rules.rising.now)

returns-3 : tie.Need-returns-then-is_beyond
returns-3 c =
    let a = c.args in
    beyond (options_of a.rules) a.table.width (rows_in a.table) a.number (rows_of a.table.width a.added.count a.added.values.now a.added.marks.now) a.other a.out.now (first_fine c.before.before.before) (second-fine c.before.before.before) (sym (said c.before) ∙ c.if-is_beyond.true)

within : (c : tie.Else-is_beyond) → beyond_accounts (options_of c.args.rules) (rows_in c.args.table) c.args.number (rows_of c.args.table.width c.args.added.count c.args.added.values.now c.args.added.marks.now) c.args.other ≡ false
within c = sym (said c.before) ∙ c.if-is_beyond.false

held : (c : tie.Else-is_beyond) → let a = c.args in
    Accounts (options_of a.rules) a.table.width a.table.count a.table.values.now a.table.marks.now c.requires.first a.added.count a.added.values.now a.added.marks.now c.requires.second
held c =
    let a = c.args in
    accounts (options_of a.rules) a.table.width a.table.count a.table.values.now a.table.marks.now c.requires.first a.added.count a.added.values.now a.added.marks.now c.requires.second a.number a.other (within c)

numbers : (c : tie.Else-is_beyond) → let a = c.args in (beyond_number a.number ≡ false) × (beyond_number a.other ≡ false) × (nat_abs a.number + nat_abs a.other ≤ most_sales)
numbers c = let a = c.args in (held c).numbers a.number a.other (within c)

count-joined-requires : tie.Need-count_joined-n-requires
count-joined-requires c κs =
    let p = c.requires in
    (record {
      first = record { few = p.compare; wide = omega (arith, p.first.width); values = omega (arith, p.first.values); marks = omega (arith, p.first.marks) };
      second = record { few = p.compare; wide = omega (arith, p.second.width); values = omega (arith, p.second.values); marks = omega (arith, p.second.marks) };
    })

-- How many rows the joined table has.
counted : (c : tie.After-count_joined-n) → c.count_joined-n.result ≡ length (add_all (options_of c.args.rules) (subtotals_of (options_of c.args.rules) (rows_in c.args.table)) (subtotals_of (options_of c.args.rules) (rows_of c.args.table.width c.args.added.count c.args.added.values.now c.args.added.marks.now)))
counted c =
    let a = c.args in
    c.count_joined-n.ensures.0 ∙ ap length (added (options_of c.args.rules) a.table.width a.table.count a.table.values.now a.table.marks.now c.requires.first a.added.count a.added.values.now a.added.marks.now c.requires.second (second-fine c.before.before.before.before))

has-room-requires : tie.Need-has_room-requires
has-room-requires c κs = search rules

returns-4 : tie.Need-returns-then-not-has_room
returns-4 c =
    let a = c.args in
    no_room_lem (options_of a.rules) a.table.width (rows_in a.table) a.number (rows_of a.table.width a.added.count a.added.values.now a.added.marks.now) a.other a.out.now (first_fine c.before.before.before.before.before.before) (second-fine c.before.before.before.before.before.before) (within c.before.before.before) c.count_joined-n.result (counted c.before.before) c.requires.first.width
    (sym c.has_room.ensures ∙ not-true c.has_room.result c.if-not-has_room.true-raw)

-- There is room.
room : (c : tie.Else-not-has_room) → let a = c.args in frame_words c.count_joined-n.result a.table.width ≤ length a.out.now
room c =
    let a = c.args in
    leb-true (frame_words c.count_joined-n.result a.table.width) (length a.out.now) (sym c.has_room.ensures ∙ not-false c.has_room.result c.if-not-has_room.false-raw)

-- The output's words bound the rows.
few : (c : tie.Else-not-has_room) → (c.count_joined-n.result < 2 ^ 63) × (c.count_joined-n.result * c.args.table.width < 2 ^ 63)
few c =
    let g = c.well_formed.1.1.1.1.1.0 in
    let r = at_least c.count_joined-n.result c.args.table.width (omega (arith, c.requires.first.width)) in
    (omega (arith, g.0, g.1, room c, r), omega (arith, g.0, g.1, room c))

mul-put-joined : tie.Need-overflow_mul-n
mul-put-joined c = omega (arith, (few c).1)

put-joined-requires : tie.Need-put_joined-requires
put-joined-requires c κs =
    let h = held c.before.before.before.before in
    record { compare = c.requires.compare; first = h.first; second = h.second; counted = ap (λ (z : ℕ). z * c.args.table.width) c.count_joined-n.ensures.0; room = room c.before }

put-head-requires : tie.Need-put_head-requires
put-head-requires c κs =
    let p = c.requires in
    record { rows = (few c.before.before.before.before).0; columns = omega (arith, p.first.width, p.compare.by); room = omega (arith, room c.before.before.before.before, c.put_joined.auto.out) }

sum_fits : (c : tie.Else-is_beyond) → let a = c.args in mag (a.number +ℤ a.other) < 2 ^ 63
sum_fits c = let a = c.args in let n = numbers c in number_fits a.number a.other n.0 n.1 n.2

add-t28 : tie.Need-overflow_add-result
add-t28 c =
    rw (to_z-of_z c.ranges.number, to_z-of_z c.ranges.other) (record { sfits = sum_fits c.before.before.before.before.before.before.before.before.before })

same_length : tie.Need-shape_of-out
same_length c = search rules

returns-5 : tie.Need-returns
returns-5 c =
    let a = c.args in
    let m = numbers c.before.before.before.before.before.before.before.before.before in
    let t = joined_table (options_of a.rules) a.table.width a.table.count a.table.values.now a.table.marks.now c.requires.first a.added.count a.added.values.now a.added.marks.now c.requires.second (second-fine c.before.before.before.before.before.before.before.before.before.before.before.before) c.count_joined-n.result a.out.now _ (counted c.before.before.before.before.before.before.before.before) (room c.before.before.before.before.before.before) c.put_joined.ensures in
    rw (to_z-of_z c.ranges.number, to_z-of_z c.ranges.other, back (a.number +ℤ a.other) (sum_fits c.before.before.before.before.before.before.before.before.before), sum_number a.number a.other m.0 m.1)
    (wrote (options_of a.rules) a.table.width (rows_in a.table) a.number (rows_of a.table.width a.added.count a.added.values.now a.added.marks.now) a.other a.out.now (first_fine c.before.before.before.before.before.before.before.before.before.before.before.before) (second-fine c.before.before.before.before.before.before.before.before.before.before.before.before) (within c.before.before.before.before.before.before.before.before.before) c.count_joined-n.result (counted c.before.before.before.before.before.before.before.before) c.requires.first.width (room c.before.before.before.before.before.before) _ (c.put_head.ensures ∙ t))

pub join_rows_spec : {M : Type 1} → statement M
join_rows_spec =
    tie.close
    (tie.spec is-fine-requires returns is-fine-requires-2 returns-2 is-beyond-requires returns-3 count-joined-requires has-room-requires returns-4 mul-put-joined put-joined-requires put-head-requires add-t28 same_length returns-5)
