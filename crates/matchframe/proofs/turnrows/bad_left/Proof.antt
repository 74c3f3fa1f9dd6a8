use mathlib.Core.Path.{◌≡◌, ◌∙◌}
use borrow.Author.Tests.{not-true, not-false}
use Rattle.frames.specs.Cells.{rows_of}
use Rattle.order.specs.options.Options.{with_list, columns}
use Rattle.order.specs.Keyed.{first_left, row_at, recall, out_of_order}
use Rattle.order.proofs.TermLaws.{keys_terms, first_left_terms}
use Rattle.buffer.specs.splitcheck.Requires.{FoundAmong}
use Rattle.buffer.proofs.splitcheck.BeforeLaws.{found_in_lem}
use Rattle.matchframe.specs.turnrows.Prunes.{bad_left}
use Rattle.matchframe.proofs.turnrows.LeftLaws.{first_left_among}
use borrow.Author.Rules.{rules}
use Rattle.matchframe.proofs.turnrows.bad_left.Statement.{statement}
use Rattle.matchframe.proofs.turnrows.bad_left.Tie as tie

checks-requires : tie.Need-checks-requires
checks-requires c κs = search rules

returns : tie.Need-returns-then-not-checks
unfolding bad_left
returns c = simp (← c.checks.ensures, not-true c.checks.result c.if-not-checks.true-raw)

first-left-requires : tie.Need-first_left-first-requires
first-left-requires c κs =
    let s = c in
    let a = s.args in
    let p = s.requires in
    keys_terms a.rules.terms a.rules.codes.now a.rules.rising.now a.left.width a.left.count a.left.marks.now (record { few = p.few; wide = p.wide; marks = p.marks })

-- the row that is compared is one of the frame's
first : (c : tie.After-first_left-first) → let a = c.args in c.first_left-first.result ≡ first_left (with_list a.rules.terms a.rules.codes.now a.rules.rising.now) (rows_of a.left.width a.left.count a.left.values.now a.left.marks.now)
first c =
    let s = c in
    let a = s.args in
    c.first_left-first.ensures a.left.values.now s.requires.values ∙ first_left_terms a.rules.terms a.rules.codes.now a.rules.rising.now (rows_of a.left.width a.left.count a.left.values.now a.left.marks.now)

among : (c : tie.After-first_left-first) → FoundAmong c.first_left-first.result c.args.left.count
among c = let a = c.args in first_left_among (with_list a.rules.terms a.rules.codes.now a.rules.rising.now) a.left.width a.left.count a.left.values.now a.left.marks.now c.first_left-first.result (first c)

out-of-order-requires : tie.Need-out_of_order-requires
out-of-order-requires c κs =
    let s = c in
    let a = s.args in
    found_in_lem (with_list a.rules.terms a.rules.codes.now a.rules.rising.now) a.left.width a.left.count c.first_left-first.result a.left.values.now a.left.marks.now s.requires (among c)

-- whether it comes before the remembered row
fault : (c : tie.After-out_of_order) → let a = c.args in
    let rows = rows_of a.left.width a.left.count a.left.values.now a.left.marks.now in
    c.out_of_order.result ≡ out_of_order (with_list a.rules.terms a.rules.codes.now a.rules.rising.now) (recall (columns (with_list a.rules.terms a.rules.codes.now a.rules.rising.now)) a.m) (row_at rows (first_left (with_list a.rules.terms a.rules.codes.now a.rules.rising.now) rows))
fault c = let k = c in rw (← (first k.before)) (c.out_of_order.ensures k.args.left.count (among k.before))

returns-2 : tie.Need-returns-then-out_of_order
unfolding bad_left
returns-2 c =
    let k = c in
    simp (← k.checks.ensures, not-false k.checks.result k.if-not-checks.false-raw, ← fault c.before, c.if-out_of_order.true)

is-sorted-requires : tie.Need-is_sorted-requires
is-sorted-requires c κs = search rules

returns-3 : tie.Need-returns
unfolding bad_left
returns-3 c =
    let d = c in
    let k = d in
    simp (← k.checks.ensures, not-false k.checks.result k.if-not-checks.false-raw, ← fault d.before.before, d.if-out_of_order.false, ← c.is_sorted.ensures)

pub bad_left_spec : {M : Type 1} → statement M
bad_left_spec =
    tie.close
    (tie.spec checks-requires returns first-left-requires out-of-order-requires returns-2 is-sorted-requires returns-3)
