-- `readcalls::view_by` meets its contract. Assumes nothing.
use mathlib.Core.Path.{◌≡◌, sym, ap, ◌∙◌}
use mathlib.Core.Bool.{true}
use Prim.Native.Nat.{◌≤◌}
use native.Mathlib.Omega.{arith}
use borrow.Author.Tests.{not-true, not-false}
use Rattle.readers.specs.Reader.{framed, known_by, column_count}
use Rattle.readers.proofs.ViewLaws.{view_carried, view_unframed, view_unknown, view_known, framed_columns, framed_count}
use borrow.Author.Rules.{rules}
use Rattle.readers.proofs.readcalls.view_by.Statement.{statement}
use Rattle.readers.proofs.readcalls.view_by.Tie as tie

returns : tie.Need-returns-then-p-gt8
returns c = sym (view_carried _ _ _ (omega (arith, c.if-p-gt8.true)))

is-framed-requires : tie.Need-is_framed-requires
is-framed-requires c κs = search rules

-- Past the first test.
eight : (c : tie.Else-p-gt8) → c.args.p ≤ 8
eight c = omega (arith, c.if-p-gt8.false)

returns-2 : tie.Need-returns-then-not-is_framed
returns-2 c = sym (view_unframed _ _ _ (eight c.before.before) (sym c.is_framed.ensures ∙ not-true c.is_framed.result c.if-not-is_framed.true-raw))

-- Past the second the words are a frame.
frame : (c : tie.Else-not-is_framed) → framed c.args.frame.now ≡ true
frame c = sym c.is_framed.ensures ∙ not-false c.is_framed.result c.if-not-is_framed.false-raw

column-count-requires : tie.Need-column_count-c-requires
column-count-requires c κs = framed_columns _ (frame c)

knows-requires : tie.Need-knows-requires
knows-requires c κs = search rules

-- What `knows` says of the columns that the words tell.
known : (c : tie.After-knows) → let a = c.args in c.knows.result ≡ known_by a.distance a.p (column_count a.frame.now)
known c =
    let a = c.args in
    c.knows.ensures ∙ ap (known_by a.distance a.p) c.column_count-c.ensures

returns-3 : tie.Need-returns-then-not-knows
returns-3 c =
    let d = c in
    sym (view_unknown _ _ _ (eight d.before.before.before.before.before) (frame d.before.before.before) (sym (known c.before) ∙ not-true c.knows.result c.if-not-knows.true-raw))

row-count-requires : tie.Need-row_count-requires
row-count-requires c κs = framed_count _ (frame c.before.before.before)

returns-4 : tie.Need-returns
returns-4 c =
    let e = c in
    let d = e in
    rw (c.row_count.ensures, e.column_count-c.ensures)
    (sym (view_known _ _ _ (eight d.before.before.before.before.before.before) (frame d.before.before.before.before) (sym (known e.before.before) ∙ not-false e.knows.result e.if-not-knows.false-raw)))

pub view_by_spec : {M : Type 1} → statement M
view_by_spec = tie.close (tie.spec returns is-framed-requires returns-2 column-count-requires knows-requires returns-3 row-count-requires returns-4)
