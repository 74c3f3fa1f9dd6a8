-- Runs of sorted rows: between two rows of one group all rows are of their run; and a run whose group is not null is sorted by key. Assumes nothing.
use mathlib.Core.Path.{◌≡◌, refl, sym, ◌∙◌}
use mathlib.Core.Bool.{Bool, true, false, cond}
use mathlib.Core.List.{List, ◌∷◌, ◌++◌}
use Prim.Native.Nat.{ℕ, zero, suc, ◌+◌, ◌-◌, ◌*◌, ◌≤◌, ◌<◌}
use native.Mathlib.Decide.{dec_lt}
use native.Mathlib.Omega.{arith}
use Rattle.frames.specs.Cells.{Cell, Words, rows_of, row_from}
use Rattle.frames.proofs.WordLaws.{rows_length}
use Rattle.order.specs.declared.options.Options.{Options}
use Rattle.order.specs.Order.{cmp_group, null_group, sorted}
use Rattle.order.proofs.OrderLaws.{AtMost, cmp_group_is, group_at_most, at_most_equal, at_most, equal_at_most, equal_flip, same_right}
use Rattle.order.proofs.RowLaws.{rows_from}
use Rattle.order.proofs.SortedLaws.{sorted_at, sorted_cut}
use Rattle.std.specs.declared.cmp.Ordering.TheVariants.{Less, Equal}
use Rattle.matching.specs.Groups.{runs}
use Rattle.matching.specs.Stretches.{between, run_on, run_length, standing}
use Rattle.matching.specs.Moves.{keys_sorted}
use Rattle.matching.proofs.ScanLaws.{same_yes}
use Rattle.matching.proofs.WalkLaws.{on_first, on_more, between_all, between_cut, between_more, run_first, run_up, run_within}
use Rattle.matching.proofs.Runs.{Parted, sorted_parted}
use Rattle.matching.proofs.RestLaws.{run_sorted}

-- ---- n sorted rows
module _ (o : Options) (w n : ℕ) (vs ms : Words) (s : sorted o (rows_of w n vs ms) ≡ true) where
  abbrev row_at : ℕ → List Cell
  row_at i = row_from w (i * w) vs ms

  group_up : (i k : ℕ) → i ≤ k → k < n → AtMost (cmp_group o) (row_at i) (row_at k)
  group_up i k h l =
      let a = sorted_at o (rows_of w n vs ms) s i k h (omega (arith, l, rows_length w n vs ms)) in
      group_at_most o (row_at i) (row_at k) (rw (rows_from w n i vs ms (omega arith), rows_from w n k vs ms l) at a)

  -- Between two rows of one group each has the group of the next.
  group_within : (i k : ℕ) → k < n → cmp_group o (row_at i) (row_at k) ≡ Equal → (j : ℕ) → i ≤ j → j + 1 ≤ k → cmp_group o (row_at j) (row_at (j + 1)) ≡ Equal
  group_within i k l e j h g =
      let back : AtMost (cmp_group o) (row_at (j + 1)) (row_at j) = at_most (cmp_group_is o) (row_at (j + 1)) (row_at i) (row_at j)
      (at_most (cmp_group_is o) (row_at (j + 1)) (row_at k) (row_at i) (group_up (j + 1) k g l) (equal_at_most (cmp_group_is o) (row_at k) (row_at i) (equal_flip (cmp_group_is o) (row_at i) (row_at k) e)))
      (group_up i j h (omega arith)) in
      at_most_equal (cmp_group_is o) (row_at j) (row_at (j + 1)) (group_up j (j + 1) (omega arith) (omega arith)) back

  -- So they end in one run.
  one_run : (i d : ℕ) → i + d < n → cmp_group o (row_at i) (row_at (i + d)) ≡ Equal → i + run_length o (between w i n vs ms) ≡ i + d + 1 + run_on o (row_at (i + d)) (between w (i + d + 1) n vs ms)
  one_run i zero l e = let z : i + 0 ≡ i = omega arith in rw z (on_first o w n vs ms i (omega arith))
  one_run i (suc d) l e =
      let z : i + suc d ≡ i + d + 1 = omega arith in
      let q : cmp_group o (row_at i) (row_at (i + d + 1)) ≡ Equal = rw z at e in
      let t = group_within i (i + d + 1) (omega arith) q (i + d) (omega arith) (omega arith) in
      let u : cmp_group o (row_at i) (row_at (i + d)) ≡ Equal = same_right (cmp_group_is o) (row_at i) (row_at (i + d + 1)) (row_at (i + d)) (equal_flip (cmp_group_is o) (row_at (i + d)) (row_at (i + d + 1)) t) ∙ q in
      rw z (one_run i d (omega arith) u ∙ on_more o w n vs ms (row_at (i + d)) (i + d + 1) (omega arith) (sym (same_yes o (row_at (i + d)) (row_at (i + d + 1)) t)))

  -- The end of the run at row i is that of the run at a later row of its group.
  pub end_later : (i k : ℕ) → i ≤ k → (i < k → (k < n) × (cmp_group o (row_at i) (row_at k) ≡ Equal)) → k + run_length o (between w k n vs ms) ≡ i + run_length o (between w i n vs ms)
  end_later i k h f = by (dec_lt i k)
    where
      by : Dec (i < k) → k + run_length o (between w k n vs ms) ≡ i + run_length o (between w i n vs ms)
      by (yes l) =
          let g = f l in
          let z : i + (k - i) ≡ k = omega arith in
          on_first o w n vs ms k g.0 ∙ sym (rw z at (one_run i (k - i) (omega (arith, g.0)) (rw z g.1)))
      by (no m) = let z : k ≡ i = omega arith in rw z

  -- A run whose group is not null is sorted by key.
  pub run_keys : (i e : ℕ) → i < n → e ≡ i + run_length o (between w i n vs ms) → null_group o (row_at i) ≡ false → keys_sorted o (between w i e vs ms) ≡ true
  run_keys i e h q m =
      let y : 0 + i ≡ i = omega arith in
      let cut : rows_of w n vs ms ≡ between w 0 i vs ms ++ between w i n vs ms = rw y at (sym (between_all w vs ms n) ∙ between_cut w vs ms 0 i n (omega arith)) in
      let back : sorted o (between w i n vs ms) ≡ true = (sorted_cut o (between w 0 i vs ms) (between w i n vs ms) (rw cut at s)).1 in
      let u = run_up o w n vs ms i h in
      let v = run_within o w n vs ms i h in
      let z : i + (e - i) ≡ e = omega arith in
      let two : between w i n vs ms ≡ between w i e vs ms ++ between w e n vs ms = rw z at (between_cut w vs ms i (e - i) n (omega arith)) in
      let part : sorted o (between w i e vs ms) ≡ true = (sorted_cut o (between w i e vs ms) (between w e n vs ms) (rw two at back)).0 in
      let runs-are = run_first o w n vs ms i e h q in
      let near : Parted o (between w i e vs ms ∷ runs o (between w e n vs ms)) = rw runs-are at (sorted_parted o (between w i n vs ms) back) in
      let first = between_more w vs ms i e (omega (arith, u)) in
      rw first (sym (run_sorted o (row_at i) (between w (i + 1) e vs ms) m (rw first at near.0)) ∙ (rw first at part))

-- A right row that is used has a group.
pub used_group : (o : Options) (x r : List Cell) → standing o x r ≡ Equal → null_group o r ≡ false
unfolding standing
used_group o x r = by (null_group o r)
  where
    by : (b : Bool) → cond b Less (cmp_group o r x) ≡ Equal → b ≡ false
    by true e = cc
    by false e = refl
