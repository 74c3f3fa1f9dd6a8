-- `salekind::kind_of` meets its contract. Assumes nothing.
use mathlib.Core.Path.{◌≡◌, sym, ap, ◌∙◌}
use Prim.Native.Nat.{ℕ, suc, ◌+◌, ◌≤◌, ◌<◌}
use native.Mathlib.Omega.{arith}
use lib.ListN.{length}
use Rattle.frames.specs.Cells.{Words, row_from, cell, is_null}
use Rattle.order.specs.options.Options.{without_list}
use Rattle.order.specs.Requires.{cell_at}
use Rattle.order.proofs.RowLaws.{row_cell}
use Rattle.sales.proofs.salekind.KindLaws.{kind_unmatched, kind_grouped, kind_nothing, kind_amount}
use borrow.Author.Rules.{rules}
use Rattle.sales.proofs.salekind.kind_of.Statement.{statement}
use Rattle.sales.proofs.salekind.kind_of.Tie as tie

null-at-requires : tie.Need-null_at-requires
null-at-requires c κs = search rules

-- What is said of the right number's cell.
first : (c : tie.After-null_at) (av : Words) (d : ℕ) → let a = c.args in a.z + 1 < length av → 2 ≤ d → c.null_at.result ≡ is_null (cell 0 (row_from d a.z av a.answer.now))
first c av d h w =
    let s = c in
    let a = s.args in
    let z : a.z + 0 ≡ a.z = omega arith in
    c.null_at.ensures av ∙ ap is_null (sym (row_cell d a.z 0 av a.answer.now (omega arith) (omega arith) ∙ ap (λ (k : ℕ). cell_at k av a.answer.now) z))

returns : tie.Need-returns-then-null_at
returns c =
    λ lv av d h k w. let a = c.args in
    kind_unmatched (without_list a.o) (row_from (suc a.o.by) a.q lv a.left.now) (row_from d a.z av a.answer.now) (sym (first c.before av d k w) ∙ c.if-null_at.true)

null-group-requires : tie.Need-null_group-requires
null-group-requires c κs = search rules

returns-2 : tie.Need-returns-then-null_group
returns-2 c =
    λ lv av d h k w. let e = c in let s = e in let a = s.args in
    kind_grouped (without_list a.o) (row_from (suc a.o.by) a.q lv a.left.now) (row_from d a.z av a.answer.now) (sym (first e.before.before.before av d k w) ∙ e.if-null_at.false)
    (sym (c.null_group.ensures (suc a.o.by) lv (omega arith) h) ∙ c.if-null_group.true)

add-null-at : tie.Need-overflow_add-z
add-null-at c = search rules

null-at-requires-2 : tie.Need-null_at-requires-2
null-at-requires-2 c κs = search rules

-- And of the amount's.
second : (c : tie.After-null_at-2) (av : Words) (d : ℕ) → let a = c.args in a.z + 1 < length av → 2 ≤ d → c.null_at-2.result ≡ is_null (cell 1 (row_from d a.z av a.answer.now))
second c av d h w =
    let s = c in
    let a = s.args in
    c.null_at-2.ensures av ∙ ap is_null (sym (row_cell d a.z 1 av a.answer.now (omega arith) h))

returns-3 : tie.Need-returns-then-null_at-2
returns-3 c =
    λ lv av d h k w. let f = c in let e = f in let s = e in let a = s.args in
    kind_nothing (without_list a.o) (row_from (suc a.o.by) a.q lv a.left.now) (row_from d a.z av a.answer.now) (sym (first e.before.before.before.before.before av d k w) ∙ e.if-null_at.false)
    (sym (f.null_group.ensures (suc a.o.by) lv (omega arith) h) ∙ f.if-null_group.false)
    (sym (second c.before av d k w) ∙ c.if-null_at-2.true)

returns-4 : tie.Need-returns
returns-4 c =
    λ lv av d h k w. let f = c in let e = f in let s = e in let a = s.args in
    kind_amount (without_list a.o) (row_from (suc a.o.by) a.q lv a.left.now) (row_from d a.z av a.answer.now) (sym (first e.before.before.before.before.before av d k w) ∙ e.if-null_at.false)
    (sym (f.null_group.ensures (suc a.o.by) lv (omega arith) h) ∙ f.if-null_group.false)
    (sym (second c.before av d k w) ∙ c.if-null_at-2.false)

pub kind_of_spec : {M : Type 1} → statement M
kind_of_spec =
    tie.close
    (tie.spec null-at-requires returns null-group-requires returns-2 add-null-at null-at-requires-2 returns-3 returns-4)
