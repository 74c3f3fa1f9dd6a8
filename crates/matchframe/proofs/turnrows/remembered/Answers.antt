use mathlib.Core.Path.{◌≡◌}
use borrow.Author.Tests.{not-true, not-false}
use Rattle.order.specs.options.Options.{without_list}
use Rattle.frames.specs.Cells.{rows_of}
use Rattle.order.specs.Keyed.{last_keyed, remember_at, remember_last}
use Rattle.buffer.specs.splitcheck.Requires.{FoundAmong}
use Rattle.buffer.proofs.splitcheck.BeforeLaws.{found_in_lem, last_among}
use Rattle.matchframe.specs.turnrows.Prunes.{remembered}
use Rattle.matchframe.proofs.turnrows.remembered.Goals as goal

pub returns-then-not-checks : goal.returns-then-not-checks
unfolding remembered remember_last
returns-then-not-checks c = simp (← c.checks.ensures, not-true c.checks.result c.if-not-checks.true-raw)

-- the row that is remembered is one of them
last : (c : goal.After-last_keyed-last) → let a = c.args in c.last_keyed-last.result ≡ last_keyed (without_list a.o) (rows_of a.rows.width a.rows.count a.rows.values.now a.rows.marks.now)
last c = let s = c in c.last_keyed-last.ensures s.args.rows.values.now s.requires.values

among : (c : goal.After-last_keyed-last) → FoundAmong c.last_keyed-last.result c.args.rows.count
among c = let a = c.args in last_among (without_list a.o) a.rows.width a.rows.count c.last_keyed-last.result a.rows.values.now a.rows.marks.now (last c)

pub remember_found-requires : goal.remember_found-requires
remember_found-requires c =
    let s = c in
    let a = s.args in
    found_in_lem (without_list a.o) a.rows.width a.rows.count c.last_keyed-last.result a.rows.values.now a.rows.marks.now s.requires (among c)

-- what is remembered by it
by-it : (c : goal.After-remember_found) → let a = c.args in
    let rows = rows_of a.rows.width a.rows.count a.rows.values.now a.rows.marks.now in
    c.remember_found.result ≡ remember_at (without_list a.o) a.m rows (last_keyed (without_list a.o) rows)
by-it c = let k = c in rw (← (last k.before)) (c.remember_found.ensures k.args.rows.count (among k.before))

pub returns : goal.returns
unfolding remembered remember_last
returns c =
    let k = c in
    simp (← k.checks.ensures, not-false k.checks.result k.if-not-checks.false-raw, ← by-it c)
