-- Where the cut of a sorted table is, told by one row; and the places, one by one. Assumes nothing.
use mathlib.Core.Path.{◌≡◌, refl, ap}
use mathlib.Core.Bool.{Bool, true, false}
use mathlib.Core.List.{List, [], ◌∷◌}
use Prim.Native.Nat.{ℕ, zero, suc, ◌+◌, ◌-◌, ◌≤◌, ◌<◌}
use native.Mathlib.Numerals.{add-one}
use native.Mathlib.Omega.{arith}
use lib.IntN.{pos}
use lib.ListN.{length, get_or, set}
use Rattle.frames.specs.Cells.{Cell, Rows, Words, rows_of, row_from}
use Rattle.order.specs.declared.options.Options.{Options}
use Rattle.order.specs.Order.{cmp_group, is_less}
use Rattle.std.specs.declared.cmp.Ordering.{Ordering}
use Rattle.std.specs.declared.cmp.Ordering.TheVariants.{Less, Equal, Greater}
use Rattle.std.specs.Ordering.{is_lt}
use Rattle.order.proofs.OrderLaws.{cmp_group_is, then_less, group_at_most}
use Rattle.order.proofs.RowLaws.{rest, rest_more}
use Rattle.order.proofs.SortedLaws.{Ordered, ordered_at}
use Rattle.tables.specs.Lay.{flat, lay_cells}
use Rattle.cutting.specs.boundaries.Boundaries.{cut_at, places}

-- ---- less or not
pub less_is : (z : Ordering) → z ≡ Less → is_less z ≡ true
less_is z e = rw e

pub less_only : (x : Ordering) → is_lt x ≡ true → x ≡ Less
less_only Less e = refl
less_only Equal e = cc
less_only Greater e = cc

module _ (o : Options) (g : List Cell) where
  -- One step of a cut.
  abbrev cut_on : Bool → Rows → ℕ
  cut_on t rs = elim t [ true ↦ suc (cut_at o g rs) | false ↦ 0 ]

  -- It is within the table.
  pub cut_within : (rs : Rows) → cut_at o g rs ≤ length rs
  unfolding cut_at
  cut_within [] = omega arith
  cut_within (r ∷ rs) = by (is_less (cmp_group o r g)) (cut_within rs)
    where
      by : (t : Bool) → cut_at o g rs ≤ length rs → cut_on t rs ≤ suc (length rs)
      by true h = omega arith
      by false h = omega arith

  on_less : (r : List Cell) (rs : Rows) → cmp_group o r g ≡ Less → cut_at o g (r ∷ rs) ≡ suc (cut_at o g rs)
  unfolding cut_at
  on_less r rs l = ap (λ (t : Bool). cut_on t rs) (less_is (cmp_group o r g) l)

  on_other : (r : List Cell) (rs : Rows) → is_less (cmp_group o r g) ≡ false → cut_at o g (r ∷ rs) ≡ 0
  unfolding cut_at
  on_other r rs l = ap (λ (t : Bool). cut_on t rs) l

  -- The first row of a sorted table is less where another is.
  first_less : (r : List Cell) (rs : Rows) → Ordered o (r ∷ rs) → (i : ℕ) → i < suc (length rs) → cmp_group o (get_or (r ∷ rs) i []) g ≡ Less → cmp_group o r g ≡ Less
  first_less r rs s i h l = then_less (cmp_group_is o) r (get_or (r ∷ rs) i []) g (group_at_most o r (get_or (r ∷ rs) i []) (ordered_at o (r ∷ rs) s 0 i (omega arith) h)) l

  -- A row whose group is less stands before the cut, where the table is sorted.
  pub cut_past : (rs : Rows) → Ordered o rs → (i : ℕ) → i < length rs → cmp_group o (get_or rs i []) g ≡ Less → suc i ≤ cut_at o g rs
  cut_past [] s i h l = absurd (omega arith)
  cut_past (r ∷ rs) s zero h l = rw (on_less r rs l) (omega arith)
  cut_past (r ∷ rs) s (suc i) h l = rw (on_less r rs (first_less r rs s (suc i) h l)) (omega (arith, cut_past rs s.1 i (omega (arith, h)) l))

  -- A row whose group is not stands behind it.
  pub cut_until : (rs : Rows) (i : ℕ) → i < length rs → is_less (cmp_group o (get_or rs i []) g) ≡ false → cut_at o g rs ≤ i
  unfolding cut_at
  cut_until [] i h l = absurd (omega arith)
  cut_until (r ∷ rs) zero h l = omega (arith, on_other r rs l)
  cut_until (r ∷ rs) (suc i) h l = by (is_less (cmp_group o r g)) (cut_until rs i (omega (arith, h)) l)
    where
      by : (t : Bool) → cut_at o g rs ≤ i → cut_on t rs ≤ suc i
      by true k = omega (arith, k)
      by false k = omega arith

-- ---- the places, one by one: those of the boundaries from place p on go to the cells from i on
module _ (o : Options) (R : Rows) (b : ℕ) (gv gm : Words) (m : ℕ) where
  abbrev pub left : ℕ → ℕ → List Cell
  left p n = flat (places o R (rest b p n gv gm))

  pub place_more : (p n i : ℕ) (out : Words) → 0 < n
      → lay_cells m i (left p n) out ≡ lay_cells m (i + 1) (left (p + b) (n - 1)) (set (set out (2 + i) (pos (cut_at o (row_from b p gv gm) R))) (2 + m + i) (pos 1))
  unfolding lay_cells flat places
  place_more p n i out h = rw (rest_more o b gv gm p n h, add-one i)

  pub place_none : (p i : ℕ) (out : Words) → lay_cells m i (left p 0) out ≡ out
  unfolding lay_cells flat places rest rows_of
  place_none p i out = refl
