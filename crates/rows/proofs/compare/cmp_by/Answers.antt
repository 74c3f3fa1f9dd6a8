-- `compare::cmp_by` meets its contract. Assumes nothing.
use Rattle.std.proofs.Common.{◌≡◌, ◌⊎◌, ℕ, ◌+◌, ◌<◌, ◌≤◌, sym, refl, ◌∙◌, arith, rules}
use Rattle.frames.specs.Cells.{Words, row_from}
use Rattle.order.specs.options.Options.{by_rule, options_of}
use Rattle.order.specs.declared.options.Options.{Options}
use Rattle.order.specs.Order.{cmp_cell, cmp_first}
use Rattle.order.specs.Requires.{cell_at}
use Rattle.rows.specs.compare.Requires.{GroupAt}
use denote.Enum.Declared.{tag_of}
use Rattle.std.specs.contracts.cmp.Ordering.{the_type}
use Rattle.std.specs.declared.cmp.Ordering.{Ordering}
use Rattle.std.specs.declared.cmp.Ordering.TheVariants.{Equal}
use Rattle.order.proofs.RowLaws.{row_cell, next_stop, first_more, first_stays}
use Rattle.rows.proofs.compare.cmp_by.Goals as goal

pub loop-j-init : goal.loop-j-init
unfolding cmp_first
loop-j-init c = λ wa wb ha hb. refl

-- after the call, the first j + 1 columns compare as column j does
came : (o : Options) (j wa pa : ℕ) (va ma : Words) (wb pb : ℕ) (vb mb : Words) (x : Ordering) → j < o.by → o.by ≤ wa → o.by ≤ wb → GroupAt o pa va ma → GroupAt o pb vb mb →
    cmp_first o j (row_from wa pa va ma) (row_from wb pb vb mb) ≡ Equal → x ≡ cmp_cell (by_rule o j) (cell_at (pa + j) va ma) (cell_at (pb + j) vb mb) →
    cmp_first o (j + 1) (row_from wa pa va ma) (row_from wb pb vb mb) ≡ x
came o j wa pa va ma wb pb vb mb x t ha hb ga gb e q =
    let ra = row_cell wa pa j va ma (omega arith) (omega arith) in
    let rb = row_cell wb pb j vb mb (omega arith) (omega arith) in
    first_more _ _ _ j x e (rw (ra, rb) q)

pub returns-in_default : goal.returns-in_default
returns-in_default c = λ wa wb ha hb.
    let a = c.args in
    let j = c.loop-j.j in
    let r = c.cmp_column-r.result in
    let t = c.loop-j-test.true in
    let k : (tag_of the_type r ≡ 0) ⊎ (tag_of the_type r ≡ 2) = search rules in
    let e = came (options_of a.rules) j wa a.pa a.a.values.now a.a.marks.now wb a.pb a.b.values.now a.b.marks.now r t ha hb c.requires.0 c.requires.1 (c.loop-j.invariant wa wb ha hb) c.cmp_column-r.ensures in
    sym (first_stays _ _ _ r (λ y. next_stop r y k) _ _ (omega arith) e)

pub loop-j-preserved : goal.loop-j-preserved
loop-j-preserved c = λ wa wb ha hb.
    let a = c.args in
    let j = c.loop-j.j in
    came (options_of a.rules) j wa a.pa a.a.values.now a.a.marks.now wb a.pb a.b.values.now a.b.marks.now Equal c.loop-j-test.true ha hb c.requires.0 c.requires.1 (c.loop-j.invariant wa wb ha hb) (sym c.in-Equal.is ∙ c.cmp_column-r.ensures)
