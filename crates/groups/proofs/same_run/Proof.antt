-- `groups::same_run` meets its contract. Assumes nothing.
use mathlib.Core.Path.{◌≡◌, sym, ◌∙◌}
use mathlib.Core.Bool.{false}
use mathlib.Core.List.{List}
use Prim.Native.Nat.{ℕ, ◌<◌}
use borrow.Author.Tests.{not-true, not-false}
use Rattle.frames.specs.Cells.{Words, row_from}
use Rattle.order.specs.options.Options.{with_list}
use Rattle.order.specs.Order.{cmp_group, is_equal}
use Rattle.matching.proofs.ScanLaws.{same_yes, same_no, same_nulls}
use Rattle.groups.proofs.stretch.StretchLaws.{same_group_lem}
use Rattle.groups.proofs.RunLaws.{not_alike}
use borrow.Author.Rules.{rules}
use Rattle.groups.proofs.same_run.Statement.{statement}
use Rattle.groups.proofs.same_run.Tie as tie

same-cells-requires : tie.Need-same_cells-requires
same-cells-requires c κs = search rules

-- where their cells are not all equal, the groups are two
apart : (c : tie.Else-same_cells) (codes : Words) (rising : List ℕ) (w : ℕ) → let a = c.args in a.o.by < w
    → is_equal (cmp_group (with_list a.o codes rising) (row_from w a.p a.rows.values.now a.rows.marks.now) (row_from w a.q a.rows.values.now a.rows.marks.now)) ≡ false
apart c codes rising w h =
    let s = c in
    let a = s.args in
    not_alike (with_list a.o codes rising) w a.p a.q a.rows.values.now a.rows.marks.now h s.requires.0.values s.requires.1.values (c.same_cells.ensures.1 c.if-same_cells.false)

returns : tie.Need-returns-then-same_cells
returns c = λ codes rising w h.
    let s = c in
    let a = s.args in
    same_yes (with_list a.o codes rising) _ _ (same_group_lem (with_list a.o codes rising) w a.p a.q a.rows.values.now a.rows.marks.now h s.requires.0.values s.requires.1.values (c.same_cells.ensures.0 c.if-same_cells.true))

null-group-requires : tie.Need-null_group-requires
null-group-requires c κs = search rules

returns-2 : tie.Need-returns-then-not-null_group
returns-2 c = λ codes rising w h.
    let i = c in
    let s = i in
    let a = s.args in
    let n = c.null_group.ensures w a.rows.values.now h s.requires.0.values in
    same_no (with_list a.o codes rising) _ _ (apart i.before.before.before codes rising w h) (sym n ∙ not-true _ c.if-not-null_group.true-raw)

null-group-requires-2 : tie.Need-null_group-requires-2
null-group-requires-2 c κs = search rules

returns-3 : tie.Need-returns
returns-3 c = λ codes rising w h.
    let i = c in
    let s = i in
    let a = s.args in
    let n = c.null_group.ensures w a.rows.values.now h s.requires.0.values in
    c.null_group-2.ensures w a.rows.values.now h s.requires.1.values ∙ same_nulls (with_list a.o codes rising) _ _ (apart i.before.before.before.before.before codes rising w h) (sym n ∙ not-false _ c.if-not-null_group.false-raw)

pub same_run_spec : {M : Type 1} → statement M
same_run_spec =
    tie.close
    (tie.spec same-cells-requires returns null-group-requires returns-2 null-group-requires-2 returns-3)
