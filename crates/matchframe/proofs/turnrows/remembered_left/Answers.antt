use mathlib.Core.Path.{◌≡◌}
use borrow.Author.Tests.{not-true, not-false}
use Rattle.order.specs.options.Options.{without_list}
use Rattle.frames.specs.Cells.{rows_of}
use Rattle.order.specs.Keyed.{last_left_at, remember_at}
use Rattle.buffer.specs.splitcheck.Requires.{FoundAmong}
use Rattle.buffer.proofs.splitcheck.BeforeLaws.{found_in_lem}
use Rattle.matchframe.specs.turnrows.Prunes.{remembered_left}
use Rattle.matchframe.proofs.turnrows.LeftLaws.{last_left_among}
use Rattle.matchframe.proofs.turnrows.remembered_left.Goals as goal

pub returns-then-not-checks : goal.returns-then-not-checks
unfolding remembered_left
returns-then-not-checks c = simp (← c.checks.ensures, not-true c.checks.result c.if-not-checks.true-raw)

-- the row that is remembered is one of them
last : (c : goal.After-last_left-last) → let a = c.args in c.last_left-last.result ≡ last_left_at (without_list a.o) (rows_of a.left.width a.left.count a.left.values.now a.left.marks.now)
last c = let s = c in c.last_left-last.ensures s.args.left.values.now s.requires.values

among : (c : goal.After-last_left-last) → FoundAmong c.last_left-last.result c.args.left.count
among c = let a = c.args in last_left_among (without_list a.o) a.left.width a.left.count a.left.values.now a.left.marks.now c.last_left-last.result (last c)

pub remember_found-requires : goal.remember_found-requires
remember_found-requires c =
    let s = c in
    let a = s.args in
    found_in_lem (without_list a.o) a.left.width a.left.count c.last_left-last.result a.left.values.now a.left.marks.now s.requires (among c)

-- what is remembered by it
by-it : (c : goal.After-remember_found) → let a = c.args in
    let rows = rows_of a.left.width a.left.count a.left.values.now a.left.marks.now in
    c.remember_found.result ≡ remember_at (without_list a.o) a.m rows (last_left_at (without_list a.o) rows)
by-it c = let k = c in rw (← (last k.before)) (c.remember_found.ensures k.args.left.count (among k.before))

pub returns : goal.returns
unfolding remembered_left
returns c =
    let k = c in
    simp (← k.checks.ensures, not-false k.checks.result k.if-not-checks.false-raw, ← by-it c)
