-- `neighbours::steps_up` meets its contract. Assumes nothing.
use mathlib.Core.Path.{◌≡◌, sym, ◌∙◌}
use mathlib.Core.Bool.{true, false}
use mathlib.Core.List.{List}
use Prim.Native.Nat.{ℕ, ◌+◌}
use native.Mathlib.Omega.{arith}
use lib.IntN.{pos}
use lib.ListN.{get_or}
use Rattle.frames.specs.Cells.{Words, row_from}
use Rattle.frames.proofs.Signed.{back}
use Rattle.order.specs.options.Options.{with_list, by_rule}
use Rattle.order.proofs.options.OptionLaws.{plain_rule}
use Rattle.order.specs.Order.{cmp_cell}
use Rattle.order.specs.Requires.{cell_at}
use Rattle.order.proofs.RowLaws.{row_cell}
use Rattle.groups.proofs.neighbours.StepLaws.{less_first}
use borrow.Author.Rules.{rules}
use Rattle.groups.proofs.neighbours.steps_up.Statement.{statement}
use Rattle.groups.proofs.neighbours.steps_up.Tie as tie

is-ranked-requires : tie.Need-is_ranked-requires
is-ranked-requires c κs = search rules

returns : tie.Need-returns-then-is_ranked
returns c = λ (e : false ≡ true). λ codes rising w h. cc

mul-cmp-cell : tie.Need-offset_bounds-rows-p
mul-cmp-cell c = search rules

shared-slice-copy-out-cmp-cell : tie.Need-bounds-rows-p
shared-slice-copy-out-cmp-cell c = search rules

mul-cmp-cell-2 : tie.Need-offset_bounds-rows-p-2
mul-cmp-cell-2 c = search rules

shared-slice-copy-out-cmp-cell-2 : tie.Need-bounds-rows-p-2
shared-slice-copy-out-cmp-cell-2 c = search rules

mul-cmp-cell-3 : tie.Need-offset_bounds-rows-q
mul-cmp-cell-3 c = search rules

shared-slice-copy-out-cmp-cell-3 : tie.Need-bounds-rows-q
shared-slice-copy-out-cmp-cell-3 c = search rules

mul-cmp-cell-4 : tie.Need-offset_bounds-rows-q-2
mul-cmp-cell-4 c = search rules

shared-slice-copy-out-cmp-cell-4 : tie.Need-bounds-rows-q-2
shared-slice-copy-out-cmp-cell-4 c = search rules

array-read-cmp-cell : tie.Need-bounds-descending-0
array-read-cmp-cell c = search rules

array-read-cmp-cell-2 : tie.Need-bounds-last-0
array-read-cmp-cell-2 c = search rules

cmp-cell-requires : tie.Need-cmp_cell-requires
cmp-cell-requires c κs = search rules

enum_told : tie.Need-enum_told-1
enum_told c = search rules

-- the cells of the first by-column, by its own rule
told : (c : tie.After-cmp_cell) (codes : Words) (rising : List ℕ) →
    let a = c.args in
    c.cmp_cell.result ≡ cmp_cell (by_rule (with_list a.o codes rising) 0) (cell_at a.p a.rows.values.now a.rows.marks.now) (cell_at a.q a.rows.values.now a.rows.marks.now)
told c codes rising =
    let i = c in
    let a = i.args in
    rw (
      plain_rule (with_list a.o codes rising) 0 (sym i.is_ranked.ensures ∙ i.if-is_ranked.false),
      back (get_or a.rows.values.now a.p (pos 0)) c.cmp_cell-arg-1.given,
      back (get_or a.rows.marks.now a.p (pos 0)) c.cmp_cell-arg-2-1.given,
      back (get_or a.rows.values.now a.q (pos 0)) c.cmp_cell-arg-3-1.given,
      back (get_or a.rows.marks.now a.q (pos 0)) c.cmp_cell-arg-4-1.given,
    )
    at c.cmp_cell.ensures

returns-2 : tie.Need-returns-in-Less
returns-2 c = λ e codes rising w h.
    let k = c in
    let s = k in
    let a = s.args in
    let vs = a.rows.values.now in
    let ms = a.rows.marks.now in
    let x = a.p in
    let y = a.q in
    let f : x + 0 ≡ x = omega arith in
    let g : y + 0 ≡ y = omega arith in
    less_first (with_list a.o codes rising) (row_from w x vs ms) (row_from w y vs ms) s.requires.2
    (rw (row_cell w x 0 vs ms (omega (arith, h)) (omega (arith, s.requires.0.values)), row_cell w y 0 vs ms (omega (arith, h)) (omega (arith, s.requires.1.values)), f, g) (sym (told k.before codes rising) ∙ c.in-Less.is))

returns-3 : tie.Need-returns-in_default
returns-3 c = λ (e : false ≡ true). λ codes rising w h. cc

pub steps_up_spec : {M : Type 1} → statement M
steps_up_spec =
    tie.close
    (tie.spec is-ranked-requires returns mul-cmp-cell shared-slice-copy-out-cmp-cell mul-cmp-cell-2 shared-slice-copy-out-cmp-cell-2 mul-cmp-cell-3 shared-slice-copy-out-cmp-cell-3 mul-cmp-cell-4 shared-slice-copy-out-cmp-cell-4 array-read-cmp-cell array-read-cmp-cell-2 cmp-cell-requires enum_told returns-2 returns-3)
