-- Rows that have the by-cells of the row before stand in its run. Assumes nothing.
use mathlib.Core.Path.{◌≡◌, refl, sym, ◌∙◌}
use mathlib.Core.Bool.{true, false}
use Prim.Native.Nat.{ℕ, zero, suc, ◌+◌, ◌-◌, ◌*◌, ◌≤◌, ◌<◌}
use native.Mathlib.Omega.{arith}
use lib.ListN.{length}
use Rattle.frames.specs.Cells.{Cell, Words, row_from}
use Rattle.order.specs.declared.options.Options.{Options}
use Rattle.order.specs.options.Options.{key_rule}
use Rattle.order.specs.Order.{cmp_cell, cmp_group, is_equal}
use Rattle.std.specs.declared.cmp.Ordering.{Ordering}
use Rattle.std.specs.declared.cmp.Ordering.TheVariants.{Less, Equal, Greater}
use Rattle.order.proofs.OrderLaws.{cmp_cell_is, group_equal}
use Rattle.order.proofs.RowLaws.{row_cell, row_room}
use Rattle.matching.specs.Groups.{same_run}
use Rattle.matching.specs.Stretches.{between, run_on}
use Rattle.matching.proofs.ScanLaws.{same_yes}
use Rattle.matching.proofs.WalkLaws.{on_more}
use Rattle.groups.specs.stretch.Stretch.{SameTo}
use Rattle.groups.proofs.stretch.StretchLaws.{same_group_lem}
use Rattle.groups.specs.Alike.{SameCells}

module _ (o : Options) (w n : ℕ) (vs ms : Words) (wide : o.by < w) (fits : n * w ≤ length vs) (e r : ℕ) (s : SameTo o.by w n vs ms e r) where
  pair : (k : ℕ) → e ≤ k → k + 1 < r → same_run o (row_from w (k * w) vs ms) (row_from w ((k + 1) * w) vs ms) ≡ true
  pair k g h =
      let m = row_room (k + 1) n w (omega (arith, h, s.within)) in
      let f : (k + 1) * w ≡ k * w + w = omega arith in
      rw f (sym (same_yes o (row_from w (k * w) vs ms) (row_from w (k * w + w) vs ms) (same_group_lem o w (k * w) (k * w + w) vs ms wide (omega arith) (omega arith) (s.same k g h))))

  walk : (d : ℕ) → e + 1 + d ≤ r → e + 1 + run_on o (row_from w (e * w) vs ms) (between w (e + 1) n vs ms) ≡ e + 1 + d + run_on o (row_from w ((e + d) * w) vs ms) (between w (e + 1 + d) n vs ms)
  walk zero h =
      let a : e + 0 ≡ e = omega arith in
      let b : e + 1 + 0 ≡ e + 1 = omega arith in
      rw (a, b)
  walk (suc d) h =
      let a : e + 1 + suc d ≡ e + 1 + d + 1 = omega arith in
      let b : e + suc d ≡ e + 1 + d = omega arith in
      let c : e + 1 + d ≡ e + d + 1 = omega arith in
      let t : same_run o (row_from w ((e + d) * w) vs ms) (row_from w ((e + 1 + d) * w) vs ms) ≡ true = rw c (pair (e + d) (omega arith) (omega arith)) in
      walk d (omega arith) ∙ on_more o w n vs ms (row_from w ((e + d) * w) vs ms) (e + 1 + d) (omega (arith, s.within)) t ∙ rw (a, b)

  -- The walk to a run's end passes them all.
  pub on_stretch : e + 1 + run_on o (row_from w (e * w) vs ms) (between w (e + 1) n vs ms) ≡ r + run_on o (row_from w ((r - 1) * w) vs ms) (between w r n vs ms)
  on_stretch =
      let h = s.start in
      let a : e + 1 + (r - (e + 1)) ≡ r = omega arith in
      let b : e + (r - (e + 1)) ≡ r - 1 = omega arith in
      rw (a, b) at (walk (r - (e + 1)) (omega arith))

-- Rows of one group have equal by-cells, whatever the columns' order and list; so where these are not all equal, the groups are two.
pub not_alike : (o : Options) (w p q : ℕ) (vs ms : Words) → o.by < w → p + o.by < length vs → q + o.by < length vs → (SameCells o.by p q vs ms → ⊥) → is_equal (cmp_group o (row_from w p vs ms) (row_from w q vs ms)) ≡ false
not_alike o w p q vs ms h a b apart = by (cmp_group o (row_from w p vs ms) (row_from w q vs ms)) refl
  where
    by : (x : Ordering) → cmp_group o (row_from w p vs ms) (row_from w q vs ms) ≡ x → is_equal x ≡ false
    by Less e = refl
    by Greater e = refl
    by Equal e = absurd (apart (λ j k.
        sym (row_cell w p j vs ms (omega (arith, h, k)) (omega (arith, k, a))) ∙ group_equal o (row_from w p vs ms) (row_from w q vs ms) e j k ∙ row_cell w q j vs ms (omega (arith, h, k)) (omega (arith, k, b))))

-- Cells that do not compare Equal are not equal.
pub unequal : {x y : Cell} → is_equal (cmp_cell key_rule x y) ≡ false → x ≡ y → ⊥
unequal {x = x} {y = y} e h =
    let f : is_equal (cmp_cell key_rule y y) ≡ false = rw h at e in
    let g = (cmp_cell_is key_rule).equal y in
    let z : ◌≡◌ {A = ℕ} 0 1 = cc in
    omega arith
