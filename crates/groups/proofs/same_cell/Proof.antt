-- `groups::same_cell` meets its contract. Assumes nothing.
use mathlib.Core.Path.{◌≡◌, sym, ap, ◌∙◌}
use mathlib.Core.Bool.{true, false}
use Prim.Native.Nat.{ℕ}
use native.Mathlib.Omega.{arith}
use lib.IntN.{pos}
use lib.ListN.{get_or}
use Rattle.frames.proofs.Signed.{back}
use Rattle.order.specs.options.Options.{key_rule}
use Rattle.order.specs.Order.{cmp_cell, is_equal}
use Rattle.order.specs.Requires.{cell_at}
use Rattle.order.proofs.OrderLaws.{cell_equal}
use Rattle.matching.proofs.ScanLaws.{not_equal_arm}
use Rattle.groups.proofs.RunLaws.{unequal}
use borrow.Author.Rules.{rules}
use Rattle.groups.proofs.same_cell.Statement.{statement}
use Rattle.groups.proofs.same_cell.Tie as tie

mul-cmp-cell : tie.Need-offset_bounds-rows-a
mul-cmp-cell c = search rules

shared-slice-copy-out-cmp-cell : tie.Need-bounds-rows-a
shared-slice-copy-out-cmp-cell c = search rules

mul-cmp-cell-2 : tie.Need-offset_bounds-rows-a-2
mul-cmp-cell-2 c = search rules

shared-slice-copy-out-cmp-cell-2 : tie.Need-bounds-rows-a-2
shared-slice-copy-out-cmp-cell-2 c = search rules

mul-cmp-cell-3 : tie.Need-offset_bounds-rows-b
mul-cmp-cell-3 c = search rules

shared-slice-copy-out-cmp-cell-3 : tie.Need-bounds-rows-b
shared-slice-copy-out-cmp-cell-3 c = search rules

mul-cmp-cell-4 : tie.Need-offset_bounds-rows-b-2
mul-cmp-cell-4 c = search rules

shared-slice-copy-out-cmp-cell-4 : tie.Need-bounds-rows-b-2
shared-slice-copy-out-cmp-cell-4 c = search rules

cmp-cell-requires : tie.Need-cmp_cell-requires
cmp-cell-requires c κs = search rules

enum_told : tie.Need-enum_told-1
enum_told c = search rules

-- the cells' own order is told
told : (c : tie.After-cmp_cell) → let a = c.args in
    c.cmp_cell.result ≡ cmp_cell key_rule (cell_at a.a a.rows.values.now a.rows.marks.now) (cell_at a.b a.rows.values.now a.rows.marks.now)
told c =
    let a = c.args in
    rw (
      back (get_or a.rows.values.now a.a (pos 0)) c.cmp_cell-arg-1.given,
      back (get_or a.rows.marks.now a.a (pos 0)) c.cmp_cell-arg-2-1.given,
      back (get_or a.rows.values.now a.b (pos 0)) c.cmp_cell-arg-3-1.given,
      back (get_or a.rows.marks.now a.b (pos 0)) c.cmp_cell-arg-4-1.given,
    )
    at c.cmp_cell.ensures

returns : tie.Need-returns-in-Equal
returns c = (λ e. cell_equal key_rule _ _ (sym (told c.before) ∙ c.in-Equal.is), λ (e : true ≡ false). λ h. absurd (let z : ◌≡◌ {A = ℕ} 0 1 = cc in omega arith))

returns-2 : tie.Need-returns-in_default
returns-2 c = (λ (e : false ≡ true). cc, λ e h. unequal (sym (ap is_equal (told c.before)) ∙ not_equal_arm c.cmp_cell.result c.in_default.in_default-own.keys2) h)

pub same_cell_spec : {M : Type 1} → statement M
same_cell_spec =
    tie.close
    (tie.spec mul-cmp-cell shared-slice-copy-out-cmp-cell mul-cmp-cell-2 shared-slice-copy-out-cmp-cell-2 mul-cmp-cell-3 shared-slice-copy-out-cmp-cell-3 mul-cmp-cell-4 shared-slice-copy-out-cmp-cell-4 cmp-cell-requires enum_told returns returns-2)
