-- A row without marks compares as one whose marks are all 1; groups of one by-value. Assumes nothing.
use mathlib.Core.Path.{◌≡◌, refl, sym, ap, ◌∙◌}
use mathlib.Core.Bool.{true, false, not, ◌&&◌}
use mathlib.Core.List.{List, [], ◌∷◌, map}
use Prim.Native.Nat.{ℕ, zero, suc, ◌+◌, ◌≤◌, ◌<◌}
use native.Mathlib.Omega.{arith}
use borrow.Author.Tests.{eqb-true, not-true}
use lib.Dec.{eqb}
use lib.IntN.{ℤ, pos}
use lib.ListN.{length, take, drop, get_or, length-drop, get_or-replicate, replicate}
use lib.Seq.{length-take-le, get_or-take, get_or-drop}
use Rattle.frames.proofs.BoolLaws.{and-true}
use Rattle.frames.specs.Cells.{Cell, value, cell, cell_of, Words, row_from}
use Rattle.order.specs.options.Options.{by_rule, is_ranked}
use Rattle.order.proofs.options.OptionLaws.{plain_rule}
use Rattle.order.specs.declared.options.Options.{Options}
use Rattle.order.specs.Order.{cmp_cell, cmp_first, cmp_group}
use Rattle.order.specs.Requires.{cell_at}
use Rattle.order.proofs.RowLaws.{row_cell}
use Rattle.std.specs.declared.cmp.Ordering.{Ordering}
use Rattle.sales.specs.salegroup.Group.{plain, SaleAt}

-- An order of groups reads its by-values alone.
first_same : (o : Options) (j : ℕ) (r r' s : List Cell) → ((i : ℕ) → i < j → cell i r ≡ cell i r') → cmp_first o j r s ≡ cmp_first o j r' s
unfolding cmp_first
first_same o zero r r' s h = refl
first_same o (suc j) r r' s h = rw (first_same o j r r' s (λ i l. h i (omega arith)), h j (omega arith))

value_at_lem : (xs : Words) (i : ℕ) → i < length xs → cell i (map value xs) ≡ value (get_or xs i (pos 0))
value_at_lem [] i h = absurd (omega arith)
value_at_lem (x ∷ xs) zero h = refl
value_at_lem (x ∷ xs) (suc i) h = value_at_lem xs i (omega arith)

ones_cell : (i : ℕ) (v : ℤ) (ms : Words) → ms ≡ replicate 5 (pos 1) → i < 5 → cell_of v (get_or ms i (pos 0)) ≡ value v
ones_cell i v ms e l = rw (e, get_or-replicate 5 i (pos 1) (pos 0) l)

pub as_marked : (o : Options) (p : ℕ) (body ms : Words) (s : List Cell) → o.by ≤ 4 → ms ≡ replicate 5 (pos 1) → p + o.by < length body
    → cmp_group o (row_from (suc o.by) 0 (drop p body) ms) s ≡ cmp_group o (plain o.by p body) s
as_marked o p body ms s few e h =
    let d = length-drop p body in
    first_same o o.by (row_from (suc o.by) 0 (drop p body) ms) (plain o.by p body) s
    (λ i l. let z : 0 + i ≡ i = omega arith in rw z at (row_cell (suc o.by) 0 i (drop p body) ms (omega arith) (omega arith)) ∙ ones_cell i (get_or (drop p body) i (pos 0)) ms e (omega arith)
    ∙ sym (value_at_lem (take o.by (drop p body)) i (omega (arith, length-take-le o.by (drop p body) (omega arith))) ∙ ap value (get_or-take o.by (drop p body) i (pos 0) l)))

-- ---- groups of one by-value
single_decides : (o : Options) (r s : List Cell) (z : Ordering) → o.by ≡ 1 → z ≡ cmp_cell (by_rule o 0) (cell 0 r) (cell 0 s) → z ≡ cmp_group o r s
unfolding cmp_first
single_decides o r s z b e = e ∙ ap (λ (k : ℕ). cmp_first o k r s) (sym b)

pub single_told : (o : Options) (p : ℕ) (body : Words) (q : ℕ) (vs ms : Words) (z : Ordering) → SaleAt o p body q vs ms → (eqb o.by 1 && not (is_ranked o 0)) ≡ true
    → z ≡ cmp_cell (record { descending = get_or o.descending 0 false; nulls_last = get_or o.nulls_last 0 false; codes = [] }) (value (get_or body p (pos 0))) (cell_at q vs ms)
    → z ≡ cmp_group o (plain o.by p body) (row_from (suc o.by) q vs ms)
single_told o p body q vs ms z h t e =
    let y = and-true (eqb o.by 1) (not (is_ranked o 0)) t in
    let one : o.by ≡ 1 = eqb-true o.by 1 y.0 in
    let k : p + 0 ≡ p = omega arith in
    let i : q + 0 ≡ q = omega arith in
    let d = length-drop p body in
    let a : cell 0 (plain o.by p body) ≡ value (get_or body p (pos 0)) =
    value_at_lem (take o.by (drop p body)) 0 (omega (arith, length-take-le o.by (drop p body) (omega (arith, h.row)))) ∙ ap value (get_or-take o.by (drop p body) 0 (pos 0) (omega arith) ∙ get_or-drop p body 0 (pos 0) ∙ rw k) in
    let b : cell 0 (row_from (suc o.by) q vs ms) ≡ cell_at q vs ms = rw i at (row_cell (suc o.by) q 0 vs ms (omega arith) (omega (arith, h.values))) in
    single_decides o (plain o.by p body) (row_from (suc o.by) q vs ms) z one (rw (a, b, ← plain_rule o 0 (not-true (is_ranked o 0) y.1)) e)
