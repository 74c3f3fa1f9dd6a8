-- No false alarm at the split: over sorted rows, of which none is before the remembered row, the check at a split passes. Assumes nothing.
use Rattle.std.specs.Prelude.{Option, Some, None}
use mathlib.Core.Path.{◌≡◌, refl}
use mathlib.Core.Bool.{Bool, true, false, cond}
use mathlib.Core.List.{[], ◌++◌}
use Prim.Native.Nat.{ℕ, ◌<◌}
use native.Mathlib.Omega.{arith}
use lib.ListN.{length, get_or, take, drop, take-append-drop}
use Rattle.frames.specs.Cells.{Rows}
use Rattle.order.specs.options.Options.{columns}
use Rattle.order.specs.Order.{cmp_row, sorted}
use Rattle.order.specs.Keyed.{first_keyed, last_keyed, row_at, recall, out_of_order}
use Rattle.order.specs.declared.options.Options.{Options}
use Rattle.order.specs.declared.Row.{Row}
use Rattle.order.proofs.OrderLaws.{AtMost}
use Rattle.order.proofs.SortedLaws.{All, all_at, all_cut, sorted_cut}
use Rattle.order.proofs.KeyedLaws.{Found, last_found, keyed_found, Below, below_fine}
use Rattle.searching.specs.Reach.{no_prune, prune_by, row_or, row_before, bad_split}

module _ (o : Options) (m : Row) (held : Rows) (s : sorted o held ≡ true) (below : All (Below o (recall (columns o) m)) held) where
  -- The row before the split is below every row after it.
  before_below : (n i : ℕ) → i < length (drop n held) → Below o (row_before o m (take n held)) (get_or (drop n held) i [])
  unfolding row_before
  before_below n i h = go (last_keyed o (take n held)) (last_found o (take n held) (length (take n held)))
    where
      e : take n held ++ drop n held ≡ held
      e = take-append-drop n held

      go : (k : Option ℕ) → Found 0 (length (take n held)) k → Below o (row_or (take n held) (recall (columns o) m) k) (get_or (drop n held) i [])
      go (Some k) f =
          all_at (λ y. AtMost (cmp_row o) (get_or (take n held) k []) y) (drop n held)
          (all_at (λ a. All (λ y. AtMost (cmp_row o) a y) (drop n held)) (take n held) (sorted_cut o (take n held) (drop n held) (rw e s)).2 k (omega arith)) i h
      go None f = all_at (Below o (recall (columns o) m)) (drop n held) (all_cut (Below o (recall (columns o) m)) (take n held) (drop n held) (rw e below)).1 i h

  pub split_fine : (i : ℕ) (left : Rows) → bad_split o m i left held ≡ false
  unfolding bad_split
  split_fine i left = go (no_prune left held)
    where
      n : ℕ
      n = prune_by o i left held

      go : (b : Bool) → cond b false (out_of_order o (row_before o m (take n held)) (row_at (drop n held) (first_keyed o (drop n held)))) ≡ false
      go true = refl
      go false = below_fine o (row_before o m (take n held)) (drop n held) (before_below n) (first_keyed o (drop n held)) (keyed_found o (drop n held))
