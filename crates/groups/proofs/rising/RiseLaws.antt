-- Rows whose keys do not fall: two keys, one row more, and what they say of sorted rows. Assumes nothing.
use mathlib.Core.Path.{◌≡◌, refl, ap, ◌∙◌}
use mathlib.Core.Bool.{Bool, true, false}
use Prim.Native.Nat.{ℕ, zero, suc, ◌+◌, ◌-◌, ◌*◌, ◌≤◌, ◌<◌}
use native.Mathlib.Omega.{arith}
use native.Mathlib.Decide.{ℕ_discrete}
use lib.IntN.{ℤ}
use lib.ListN.{length}
use lib.Signed.{lt_z}
use Rattle.frames.specs.Cells.{Words, cell_of, is_null, is_zero, row_from, rows_of}
use Rattle.order.specs.options.Options.{key_rule}
use Rattle.order.specs.declared.options.Options.{Options}
use Rattle.order.specs.Order.{cmp_cell, cmp_group, cmp_row, is_greater, sorted}
use Rattle.order.specs.Requires.{cell_at}
use Rattle.std.specs.declared.cmp.Ordering.TheVariants.{Equal}
use Rattle.order.proofs.RowLaws.{row_cell, row_room, null_mark, rest, rest_all, sorted_more}
use Rattle.matching.proofs.ScanLaws.{falls_not}
use Rattle.groups.specs.stretch.Stretch.{SameTo}
use Rattle.groups.proofs.stretch.StretchLaws.{same_group_lem}
use Rattle.groups.specs.rising.Rising.{key_falls, Rises}
use Rattle.groups.proofs.rising.FallLaws.{null_first, keys_decide}

-- ---- two keys
-- A key whose value is not below the other's, whatever that one's mark.
pub key_rise : (va ma vb mb : ℤ) → is_null (cell_of vb mb) ≡ false → lt_z vb va ≡ false → is_greater (cmp_cell key_rule (cell_of va ma) (cell_of vb mb)) ≡ false
key_rise va ma vb mb n h = by (is_null (cell_of va ma)) refl
  where
    by : (z : Bool) → is_null (cell_of va ma) ≡ z → is_greater (cmp_cell key_rule (cell_of va ma) (cell_of vb mb)) ≡ false
    by true e = null_first (cell_of va ma) (cell_of vb mb) e
    by false e = falls_not va ma vb mb e n h

-- Two cells with the same mark are null together.
pub key_follow : (va vb ma mb : ℤ) → mb ≡ ma → lt_z vb va ≡ false → is_greater (cmp_cell key_rule (cell_of va ma) (cell_of vb mb)) ≡ false
key_follow va vb ma mb e h = by (is_zero ma) refl
  where
    by : (z : Bool) → is_zero ma ≡ z → is_greater (cmp_cell key_rule (cell_of va ma) (cell_of vb mb)) ≡ false
    by true z = null_first (cell_of va ma) (cell_of vb mb) (null_mark va ma ∙ z)
    by false z = key_rise va ma vb mb (null_mark vb mb ∙ rw e z) h

-- ---- one row more
pub rises_first : (by w : ℕ) (vs ms : Words) (i : ℕ) → Rises by w vs ms i (i + 1)
rises_first by w vs ms i = record { rises = λ k g l. absurd (omega (arith, g, l)) }

pub rises_more : (by w : ℕ) (vs ms : Words) (i e p : ℕ) → Rises by w vs ms i e → p + w ≡ e * w → key_falls (p + by) (p + w + by) vs ms ≡ false → Rises by w vs ms i (e + 1)
rises_more by w vs ms i e p s q f = record { rises = λ k g l. pair k g l (ℕ_discrete (k + 1) e) }
  where
    pair : (k : ℕ) → i ≤ k → k + 1 < e + 1 → Dec (k + 1 ≡ e) → key_falls (k * w + by) (k * w + w + by) vs ms ≡ false
    pair k g l (yes y) =
        let a : (k + 1) * w ≡ e * w = rw y in
        let b : k * w ≡ p = omega arith in
        rw b f
    pair k g l (no y) = s.rises k g (omega arith)

-- What a walk by places has passed: all pairs of rows but the last `left`.
pub rises_passed : (w : ℕ) (vs ms : Words) (n left : ℕ) → left < n → ((k : ℕ) → 0 ≤ k → k + left < n - 1 → key_falls (k * w) (k * w + w) vs ms ≡ false) → Rises 0 w vs ms 0 (n - left)
rises_passed w vs ms n left h f = record { rises = λ k g l. pair k g l }
  where
    pair : (k : ℕ) → 0 ≤ k → k + 1 < n - left → key_falls (k * w + 0) (k * w + w + 0) vs ms ≡ false
    pair k g l =
        let a : k * w + 0 ≡ k * w = omega arith in
        let b : k * w + w + 0 ≡ k * w + w = omega arith in
        rw (a, b) (f k g (omega arith))

-- ---- sorted rows
module _ (o : Options) (w : ℕ) (vs ms : Words) (wide : o.by < w) where
  -- In equal groups the keys decide, and rows with the same by-cells are of one group.
  pub equal_falls_key : (p q : ℕ) → p + o.by < length vs → q + o.by < length vs → cmp_group o (row_from w p vs ms) (row_from w q vs ms) ≡ Equal
      → is_greater (cmp_row o (row_from w p vs ms) (row_from w q vs ms)) ≡ key_falls (p + o.by) (q + o.by) vs ms
  equal_falls_key p q a b e =
      ap is_greater (keys_decide o (row_from w p vs ms) (row_from w q vs ms) e) ∙ rw (row_cell w p o.by vs ms wide a, row_cell w q o.by vs ms wide b)

  pub row_falls_key : (p q : ℕ) → p + o.by < length vs → q + o.by < length vs → ((j : ℕ) → j < o.by → cell_at (p + j) vs ms ≡ cell_at (q + j) vs ms)
      → is_greater (cmp_row o (row_from w p vs ms) (row_from w q vs ms)) ≡ key_falls (p + o.by) (q + o.by) vs ms
  row_falls_key p q a b f = equal_falls_key p q a b (same_group_lem o w p q vs ms wide a b f)

  -- One row is passed: its key does not fall.
  pub sorted_on : (p n : ℕ) → 1 < n → is_greater (cmp_row o (row_from w p vs ms) (row_from w (p + w) vs ms)) ≡ false → sorted o (rest w p n vs ms) ≡ sorted o (rest w (p + w) (n - 1) vs ms)
  sorted_on p n h e = sorted_more o w vs ms p n h ∙ rw e

  pub sorted_stop : (p n : ℕ) → 1 < n → is_greater (cmp_row o (row_from w p vs ms) (row_from w (p + w) vs ms)) ≡ true → sorted o (rest w p n vs ms) ≡ false
  sorted_stop p n h e = sorted_more o w vs ms p n h ∙ rw e

  module _ (n : ℕ) (fits : n * w ≤ length vs) (e r : ℕ) (s : SameTo o.by w n vs ms e r) (t : Rises o.by w vs ms e r) where
    pair : (k : ℕ) → e ≤ k → k + 1 < r → is_greater (cmp_row o (row_from w (k * w) vs ms) (row_from w (k * w + w) vs ms)) ≡ false
    pair k g h =
        let m = row_room (k + 1) n w (omega (arith, h, s.within)) in
        row_falls_key (k * w) (k * w + w) (omega arith) (omega arith) (s.same k g h) ∙ t.rises k g h

    walk : (d : ℕ) → e + 1 + d ≤ r → sorted o (rest w (e * w) (n - e) vs ms) ≡ sorted o (rest w ((e + d) * w) (n - (e + d)) vs ms)
    walk zero h = let a : e + 0 ≡ e = omega arith in rw a
    walk (suc d) h =
        let a : (e + suc d) * w ≡ (e + d) * w + w = omega arith in
        let b : n - (e + suc d) ≡ n - (e + d) - 1 = omega arith in
        rw (a, b) (walk d (omega arith) ∙ sorted_on ((e + d) * w) (n - (e + d)) (omega (arith, s.within)) (pair (e + d) (omega arith) (omega arith)))

    -- Whether the rest is sorted is decided from the last of these rows on.
    pub sorted_stretch : sorted o (rest w (e * w) (n - e) vs ms) ≡ sorted o (rest w ((r - 1) * w) (n - (r - 1)) vs ms)
    sorted_stretch =
        let h = s.start in
        let a : e + (r - 1 - e) ≡ r - 1 = omega arith in
        rw a at (walk (r - 1 - e) (omega arith))

-- ---- rows without by-columns
module _ (o : Options) (none : o.by ≡ 0) (w : ℕ) (vs ms : Words) (wide : 0 < w) where
  one_wide : o.by < w
  one_wide = omega arith

  no_cells : (p q : ℕ) → (j : ℕ) → j < o.by → cell_at (p + j) vs ms ≡ cell_at (q + j) vs ms
  no_cells p q j h = absurd (omega arith)

  pub keys_fall : (p q : ℕ) → p < length vs → q < length vs → is_greater (cmp_row o (row_from w p vs ms) (row_from w q vs ms)) ≡ key_falls p q vs ms
  keys_fall p q a b =
      let x : p + o.by ≡ p = omega arith in
      let y : q + o.by ≡ q = omega arith in
      rw (x, y) at (row_falls_key o w vs ms one_wide p q (omega arith) (omega arith) (no_cells p q))

  -- Of the first e rows no key falls: the rest decides.
  pub keys_start : (n e : ℕ) → n * w ≤ length vs → 0 < e → e ≤ n → Rises 0 w vs ms 0 e → sorted o (rows_of w n vs ms) ≡ sorted o (rest w ((e - 1) * w) (n - e + 1) vs ms)
  keys_start n e f g h t =
      let s : SameTo o.by w n vs ms 0 e = record { start = g; within = h; same = λ k x y. no_cells (k * w) (k * w + w) } in
      let r : Rises o.by w vs ms 0 e = rw none t in
      let a : 0 * w ≡ 0 = omega arith in
      let b : n - 0 ≡ n = omega arith in
      let c : n - (e - 1) ≡ n - e + 1 = omega arith in
      ap (sorted o) (rest_all o w vs ms n) ∙ (rw (a, b, c) at (sorted_stretch o w vs ms one_wide n f 0 e s r))
