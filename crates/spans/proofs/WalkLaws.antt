-- What the walks over points and intervals have left to do, and the pairs that they lay. Assumes nothing.
use mathlib.Core.Path.{◌≡◌, refl, sym, ap, ◌∙◌}
use mathlib.Core.Bool.{Bool, true, false, cond, not, ◌&&◌}
use mathlib.Core.List.{List, [], ◌∷◌, ◌++◌, map}
use Prim.Native.Nat.{ℕ, zero, suc, ◌+◌, ◌-◌, ◌*◌, ◌≤◌, ◌<◌}
use native.Mathlib.Nat.{mul-le-mul_right}
use native.Mathlib.Numerals.{add-one}
use native.Mathlib.Omega.{arith}
use lib.IntN.{ℤ, pos}
use lib.ListN.{length, drop, set, length-append, length-map}
use lib.Seq.{drop-drop}
use Rattle.frames.specs.Cells.{Cell, null, value, is_zero, cell_of, rows_of, row_from, cell, is_null, Rows, Words}
use Rattle.order.specs.options.Options.{key_rule}
use Rattle.order.specs.Order.{cmp_cell, is_greater}
use Rattle.order.specs.Requires.{cell_at}
use Rattle.order.proofs.RowLaws.{row_cell}
use Rattle.searching.specs.declared.Stretch.{Stretch}
use Rattle.tables.specs.Lay.{flat, lay_cells}
use Rattle.tables.proofs.LayLaws.{flat_append, lay_none, lay_append}
use Rattle.spans.specs.Span.{pair_row, ascending_points}
use Rattle.spans.specs.Port.{seek_lower, seek_upper, search_sorted, up_from, matches_of, ported_from}
use Rattle.spans.specs.Requires.{Matched}
use Rattle.spans.specs.declared.Bounds.{Bounds}

-- ---- the rows from place p on, n of them
abbrev pub rest : ℕ → ℕ → ℕ → Words → Words → Rows
rest w p n vs ms = rows_of w n (drop p vs) (drop p ms)

pub rest_more : (w p n : ℕ) (vs ms : Words) → 0 < n → rest w p n vs ms ≡ row_from w p vs ms ∷ rest w (p + w) (n - 1) vs ms
unfolding rows_of row_from
rest_more w p n vs ms h =
    let e : n ≡ suc (n - 1) = omega arith in
    rw (e, drop-drop w p vs, drop-drop w p ms) (let z : suc (n - 1) - 1 ≡ n - 1 = omega arith in rw z)

-- ---- the points, one by one
module _ (vs ms : Words) where
  point_is : (p : ℕ) → p < length vs → cell 0 (row_from 1 p vs ms) ≡ cell_at p vs ms
  point_is p h = row_cell 1 p 0 vs ms (omega arith) (omega arith) ∙ (let z : p + 0 ≡ p = omega arith in rw z)

  pub points_none : ascending_points (rows_of 1 0 vs ms) ≡ true
  unfolding ascending_points rows_of
  points_none = refl

  two : (p q : List Cell) (ps : Rows) → ascending_points (p ∷ q ∷ ps) ≡ (not (is_null (cell 0 p)) && not (is_greater (cmp_cell key_rule (cell 0 p) (cell 0 q))) && ascending_points (q ∷ ps))
  unfolding ascending_points
  two p q ps = refl

  one : (p : List Cell) → ascending_points (p ∷ []) ≡ not (is_null (cell 0 p))
  unfolding ascending_points
  one p = refl

  pub points_more : (p n : ℕ) → 1 < n → p + n ≤ length vs → ascending_points (rest 1 p n vs ms)
      ≡ ((not (is_null (cell_at p vs ms)) && not (is_greater (cmp_cell key_rule (cell_at p vs ms) (cell_at (p + 1) vs ms)))) && ascending_points (rest 1 (p + 1) (n - 1) vs ms))
  points_more p n h l =
      rw (
        rest_more 1 p n vs ms (omega arith),
        rest_more 1 (p + 1) (n - 1) vs ms (omega arith),
        two (row_from 1 p vs ms) (row_from 1 (p + 1) vs ms) (rest 1 (p + 1 + 1) (n - 1 - 1) vs ms),
        point_is p (omega arith),
        point_is (p + 1) (omega arith),
      )

  pub points_last : (p n : ℕ) → n ≡ 1 → p < length vs → ascending_points (rest 1 p n vs ms) ≡ not (is_null (cell_at p vs ms))
  unfolding rows_of
  points_last p n e l =
      let z : n - 1 ≡ 0 = omega arith in
      rw (rest_more 1 p n vs ms (omega arith), z, one (row_from 1 p vs ms), point_is p l)

-- ---- the points of an interval
pub present : (v m : ℤ) → is_null (cell_of v m) ≡ false → cell_of v m ≡ value v
present v m e = by (is_zero m) e
  where
    by : (z : Bool) → is_null (cond z null (value v)) ≡ false → cond z null (value v) ≡ value v
    by true f = cc
    by false f = refl

up_none : (s n : ℕ) → n ≡ 0 → up_from s n ≡ []
unfolding up_from
up_none s n e = rw e

no_match : (b : Bounds) (ps : Rows) (x y : Cell) → is_null x ≡ true → matches_of b ps x y ≡ []
no_match b ps null y e = refl
no_match b ps (value l) y e = cc

no_end : (b : Bounds) (ps : Rows) (x y : Cell) → is_null y ≡ true → matches_of b ps x y ≡ []
no_end b ps null y e = refl
no_end b ps (value l) null e = refl
no_end b ps (value l) (value u) e = cc

module _ (b : Bounds) (n : ℕ) (pv pm : Words) (x y : Cell) where
  empty : (s : ℕ) → s ≤ n → matches_of b (rows_of 1 n pv pm) x y ≡ [] → Matched b n pv pm x y (record { start = s; end = s })
  empty s h e = record { upward = omega arith; within = h; points = up_none s (s - s) (omega arith) ∙ sym e }

  pub matched_no_start : is_null x ≡ true → Matched b n pv pm x y (record { start = 0; end = 0 })
  matched_no_start e = empty 0 (omega arith) (no_match b (rows_of 1 n pv pm) x y e)

  pub matched_no_end : is_null y ≡ true → Matched b n pv pm x y (record { start = 0; end = 0 })
  matched_no_end e = empty 0 (omega arith) (no_end b (rows_of 1 n pv pm) x y e)

  module _ (l u : ℤ) (ex : x ≡ value l) (ey : y ≡ value u) (s e : ℕ) (hs : s ≡ search_sorted (seek_lower b) l (rows_of 1 n pv pm)) (he : e ≡ search_sorted (seek_upper b) u (rows_of 1 n pv pm))
      (ns : s ≤ n) (ne : e ≤ n) where
    between : matches_of b (rows_of 1 n pv pm) x y ≡ up_from s (e - s)
    between = rw (ex, ey, hs, he)

    pub matched_some : s ≤ e → Matched b n pv pm x y (record { start = s; end = e })
    matched_some h = record { upward = h; within = ne; points = sym between }

    pub matched_none : e < s → Matched b n pv pm x y (record { start = s; end = s })
    matched_none h = empty s ns (between ∙ up_none s (e - s) (omega arith))

-- ---- the intervals, one by one
up_length : (s n : ℕ) → length (up_from s n) ≡ n
unfolding up_from
up_length s zero = refl
up_length s (suc n) = ap suc (up_length (suc s) n)

module _ (b : Bounds) (n : ℕ) (pv pm : Words) (m : ℕ) (iv im : Words) (hv : m * 2 ≤ length iv) where
  abbrev pub points : Rows
  points = rows_of 1 n pv pm

  -- The pairs of the intervals from i on.
  abbrev pub from : ℕ → Rows
  from i = ported_from b points i (rest 2 (i * 2) (m - i) iv im)

  cons : (i : ℕ) (r : List Cell) (rs : Rows) → ported_from b points i (r ∷ rs) ≡ map (pair_row i) (matches_of b points (cell 0 r) (cell 1 r)) ++ ported_from b points (suc i) rs
  unfolding ported_from
  cons i r rs = refl

  pub from_more : (i : ℕ) → i < m → (r : Stretch) → Matched b n pv pm (cell_at (i * 2) iv im) (cell_at (i * 2 + 1) iv im) r
      → from i ≡ map (pair_row i) (up_from r.start (r.end - r.start)) ++ from (i + 1)
  from_more i h r p =
      let w : i * 2 + 2 ≤ m * 2 = omega (arith, mul-le-mul_right {m = suc i} {n = m} 2 h) in
      let z : i * 2 + 2 ≡ (i + 1) * 2 = omega arith in
      let y : m - i - 1 ≡ m - (i + 1) = omega arith in
      let o : i * 2 + 0 ≡ i * 2 = omega arith in
      rw (
        rest_more 2 (i * 2) (m - i) iv im (omega arith),
        cons i (row_from 2 (i * 2) iv im) (rest 2 (i * 2 + 2) (m - i - 1) iv im),
        row_cell 2 (i * 2) 0 iv im (omega arith) (omega arith),
        row_cell 2 (i * 2) 1 iv im (omega arith) (omega arith),
        o,
        z,
        y,
        p.points,
        ← add-one i,
      )

  pub from_none : (i : ℕ) → m ≤ i → from i ≡ []
  unfolding ported_from rows_of
  from_none i h = let z : m - i ≡ 0 = omega arith in rw z

  pub count_more : (i : ℕ) → i < m → (r : Stretch) → Matched b n pv pm (cell_at (i * 2) iv im) (cell_at (i * 2 + 1) iv im) r
      → length (from i) ≡ (r.end - r.start) + length (from (i + 1))
  count_more i h r p =
      ap length (from_more i h r p)
      ∙ length-append (map (pair_row i) (up_from r.start (r.end - r.start))) (from (i + 1))
      ∙ ap (λ (z : ℕ). z + length (from (i + 1))) (length-map (up_from r.start (r.end - r.start)) (pair_row i) ∙ up_length r.start (r.end - r.start))

-- ---- laying them
flat_pairs : (i : ℕ) (js : List ℕ) → length (flat (map (pair_row i) js)) ≡ 2 * length js
unfolding flat
flat_pairs i [] = omega arith
flat_pairs i (j ∷ js) = omega (arith, flat_pairs i js)

pub flat_wide : (b : Bounds) (ps : Rows) (i : ℕ) (rs : Rows) → length (flat (ported_from b ps i rs)) ≡ 2 * length (ported_from b ps i rs)
unfolding ported_from flat
flat_wide b ps i [] = omega arith
flat_wide b ps i (r ∷ rs) =
    let js : List ℕ = matches_of b ps (cell 0 r) (cell 1 r) in
    let A : Rows = map (pair_row i) js in
    let B : Rows = ported_from b ps (suc i) rs in
    let e = length-append (flat A) (flat B) in
    let l = length-append A B in
    ap length (flat_append A B) ∙ omega (arith, flat_pairs i js, length-map js (pair_row i), flat_wide b ps (suc i) rs)

module _ (cells : ℕ) where
  pub lay_pair : (k i j : ℕ) (out : Words)
      → lay_cells cells k (pair_row i j) out ≡ set (set (set (set out (2 + k) (pos i)) (2 + cells + k) (pos 1)) (2 + (k + 1)) (pos j)) (2 + cells + (k + 1)) (pos 1)
  unfolding lay_cells
  lay_pair k i j out = rw (add-one k)

  more : (k i j : ℕ) (js : List ℕ) (out : Words) → lay_cells cells k (flat (map (pair_row i) (j ∷ js))) out ≡ lay_cells cells (k + 2) (flat (map (pair_row i) js)) (lay_cells cells k (pair_row i j) out)
  unfolding flat
  more k i j js out = lay_append cells k (pair_row i j) (flat (map (pair_row i) js)) out

  up_cons : (s n : ℕ) → 0 < n → up_from s n ≡ s ∷ up_from (s + 1) (n - 1)
  unfolding up_from
  up_cons s zero h = absurd (omega arith)
  up_cons s (suc n) h = let z : suc n - 1 ≡ n = omega arith in rw (z, add-one s)

  pub stretch_more : (k i j end : ℕ) (out : Words) → j < end
      → lay_cells cells k (flat (map (pair_row i) (up_from j (end - j)))) out ≡ lay_cells cells (k + 2) (flat (map (pair_row i) (up_from (j + 1) (end - (j + 1))))) (lay_cells cells k (pair_row i j) out)
  stretch_more k i j end out h =
      let z : end - (j + 1) ≡ end - j - 1 = omega arith in
      rw (up_cons j (end - j) (omega arith), z) (more k i j (up_from (j + 1) (end - j - 1)) out)

  pub stretch_done : (k i j end : ℕ) (out : Words) → end ≤ j → lay_cells cells k (flat (map (pair_row i) (up_from j (end - j)))) out ≡ out
  unfolding flat
  stretch_done k i j end out h = rw (up_none j (end - j) (omega arith)) (lay_none cells k out)

  module _ (b : Bounds) (n : ℕ) (pv pm : Words) (m : ℕ) (iv im : Words) (hv : m * 2 ≤ length iv) where
    pub pairs_more : (k i : ℕ) (out : Words) → i < m → (r : Stretch) → Matched b n pv pm (cell_at (i * 2) iv im) (cell_at (i * 2 + 1) iv im) r
        → lay_cells cells k (flat (from b n pv pm m iv im hv i)) out
        ≡ lay_cells cells (k + 2 * (r.end - r.start)) (flat (from b n pv pm m iv im hv (i + 1))) (lay_cells cells k (flat (map (pair_row i) (up_from r.start (r.end - r.start)))) out)
    pairs_more k i out h r p =
        let js : List ℕ = up_from r.start (r.end - r.start) in
        let A : Rows = map (pair_row i) js in
        let l : length (flat A) ≡ 2 * (r.end - r.start) = flat_pairs i js ∙ ap (λ (z : ℕ). 2 * z) (up_length r.start (r.end - r.start)) in
        ap (λ (z : Rows). lay_cells cells k (flat z) out) (from_more b n pv pm m iv im hv i h r p)
        ∙ ap (λ (z : List Cell). lay_cells cells k z out) (flat_append A (from b n pv pm m iv im hv (i + 1)))
        ∙ lay_append cells k (flat A) (flat (from b n pv pm m iv im hv (i + 1))) out
        ∙ ap (λ (z : ℕ). lay_cells cells (k + z) (flat (from b n pv pm m iv im hv (i + 1))) (lay_cells cells k (flat A) out)) l

    pub pairs_done : (k i : ℕ) (out : Words) → m ≤ i → lay_cells cells k (flat (from b n pv pm m iv im hv i)) out ≡ out
    unfolding flat
    pairs_done k i out h = rw (from_none b n pv pm m iv im hv i h) (lay_none cells k out)
