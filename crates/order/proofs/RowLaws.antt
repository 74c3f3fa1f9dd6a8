-- Rows by the places of their words: the cells of a row, the rows of a stretch, and what a walk over the columns or the rows has left to do. Assumes nothing.
use Rattle.std.specs.Prelude.{Some, None}
use mathlib.Core.Path.{◌≡◌, refl, sym, ◌∙◌, subst}
use mathlib.Core.Bool.{Bool, true, false, cond, not, ◌&&◌, ◌||◌}
use mathlib.Core.List.{List, [], ◌∷◌, ◌++◌, map, append_assoc}
use mathlib.Core.Logic.{◌⊎◌, ⊎_elim}
use Prim.Native.Nat.{ℕ, zero, suc, ◌+◌, ◌-◌, ◌*◌, ◌≤◌, ◌<◌}
use native.Mathlib.Nat.{mul-le-mul_right}
use native.Mathlib.Numerals.{add-one}
use native.Mathlib.Omega.{arith}
use native.Mathlib.Decide.{ℕ_discrete}
use denote.Enum.Declared.{tag_of}
use lib.IntN.{ℤ, pos}
use lib.ListN.{length, take, drop, get_or, set, length-take, length-drop, length-map, length-append, replicate}
use lib.Seq.{get_or-drop, get_or-take, drop-drop, length-take-le, take-suc, set_at}
use Rattle.frames.specs.Cells.{Cell, null, value, is_zero, cell_of, cells_of, rows_of, row_from, cell, is_null, Rows, Words}
use Rattle.order.specs.options.Options.{by_rule}
use Rattle.order.specs.Order.{next, cmp_cell, cmp_first, cmp_row, is_greater, sorted, null_in, null_key}
use Rattle.order.specs.Keyed.{first_from, last_below, five}
use Rattle.order.specs.Requires.{cell_at}
use Rattle.order.specs.declared.options.Options.{Options}
use Rattle.std.specs.declared.cmp.Ordering.{Ordering}
use Rattle.std.specs.declared.cmp.Ordering.TheVariants.{Less, Equal, Greater}
use Rattle.std.specs.contracts.cmp.Ordering.{the_type}
use Rattle.frames.proofs.WordLaws.{rows_at, cells_length, map-append}

-- ---- the cells of a row
cells_at_lem : (vs ms : Words) (j : ℕ) → j < length vs → cell j (cells_of vs ms) ≡ cell_of (get_or vs j (pos 0)) (get_or ms j (pos 0))
unfolding cells_of
cells_at_lem [] ms j h = absurd (omega arith)
cells_at_lem (v ∷ vs) [] j h = refl
cells_at_lem (v ∷ vs) (m ∷ ms) zero h = refl
cells_at_lem (v ∷ vs) (m ∷ ms) (suc j) h = cells_at_lem vs ms j (omega arith)

-- The cell in column j stands j places behind the row's first.
pub row_cell : (w p j : ℕ) (vs ms : Words) → j < w → p + j < length vs → cell j (row_from w p vs ms) ≡ cell_at (p + j) vs ms
unfolding row_from
row_cell w p j vs ms h l =
    let k : j < length (take w (drop p vs)) = simp (length-take, length-drop) (omega arith) in
    cells_at_lem (take w (drop p vs)) (take w (drop p ms)) j k ∙ simp (get_or-take, get_or-drop)

pub row_length : (w p : ℕ) (vs ms : Words) → p + w ≤ length vs → p + w ≤ length ms → length (row_from w p vs ms) ≡ w
unfolding row_from
row_length w p vs ms a b =
    let lv : length (take w (drop p vs)) ≡ w = length-take-le w (drop p vs) (rw (length-drop p vs) (omega arith)) in
    let lm : length (take w (drop p ms)) ≡ w = length-take-le w (drop p ms) (rw (length-drop p ms) (omega arith)) in
    cells_length (take w (drop p vs)) (take w (drop p ms)) (lv ∙ sym lm) ∙ lv

-- Row i of a stretch starts i widths behind its first.
pub rows_from : (w n i : ℕ) (vs ms : Words) → i < n → get_or (rows_of w n vs ms) i [] ≡ row_from w (i * w) vs ms
unfolding row_from
rows_from w n i vs ms h = rows_at w n i vs ms h

pub row_room : (i n w : ℕ) → i < n → i * w + w ≤ n * w
row_room i n w h = omega (arith, mul-le-mul_right {m = suc i} {n = n} w h)

-- A cell is null by its mark alone.
pub null_mark : (v m : ℤ) → is_null (cell_of v m) ≡ is_zero m
null_mark v m = by (is_zero m)
  where
    by : (z : Bool) → is_null (cond z null (value v)) ≡ z
    by true = refl
    by false = refl

-- ---- the groups of two rows, column by column
-- Where Equal has an arm of its own, the other arm's answer decides.
pub next_stop : (x y : Ordering) → (tag_of the_type x ≡ 0) ⊎ (tag_of the_type x ≡ 2) → next x y ≡ x
next_stop Less y t = refl
next_stop Equal y t = absurd (⊎_elim (λ l. omega arith) (λ l. omega arith) t)
next_stop Greater y t = refl

module _ (o : Options) (r s : List Cell) where
  pub first_more : (j : ℕ) (x : Ordering) → cmp_first o j r s ≡ Equal → x ≡ cmp_cell (by_rule o j) (cell j r) (cell j s) → cmp_first o (j + 1) r s ≡ x
  unfolding cmp_first
  first_more j x e q = rw (add-one j, e) (sym q)

  -- What a column has decided, the columns behind it leave.
  pub first_stays : (x : Ordering) → ((y : Ordering) → next x y ≡ x) → (j k : ℕ) → j ≤ k → cmp_first o j r s ≡ x → cmp_first o k r s ≡ x
  unfolding cmp_first
  first_stays x t j zero h e = let z : j ≡ 0 = omega arith in rw z at e
  first_stays x t j (suc k) h e = by (λ l. first_stays x t j k l e) (ℕ_discrete j (suc k))
    where
      by : (j ≤ k → cmp_first o k r s ≡ x) → Dec (j ≡ suc k) → cmp_first o (suc k) r s ≡ x
      by ih (yes d) = rw d at e
      by ih (no d) = rw (ih (omega arith)) (t (cmp_cell (by_rule o k) (cell k r) (cell k s)))

-- ---- a null group
module _ (r : List Cell) where
  pub null_more : (j : ℕ) → null_in j r ≡ false → is_null (cell j r) ≡ false → null_in (j + 1) r ≡ false
  unfolding null_in
  null_more j e q = rw (add-one j, e, q)

  pub null_found : (j k : ℕ) → j < k → is_null (cell j r) ≡ true → null_in k r ≡ true
  unfolding null_in
  null_found j zero h e = absurd (omega arith)
  null_found j (suc k) h e = by (λ l. null_found j k l e) (ℕ_discrete j k)
    where
      or-true : (a : Bool) → (a || true) ≡ true
      or-true true = refl
      or-true false = refl

      by : (j < k → null_in k r ≡ true) → Dec (j ≡ k) → (null_in k r || is_null (cell k r)) ≡ true
      by ih (yes d) = let q : is_null (cell k r) ≡ true = rw d at e in rw q (or-true (null_in k r))
      by ih (no d) = rw (ih (omega arith))

-- ---- the rows of a stretch that are left: n of them, from place p on
unfoldable pub rest : ℕ → ℕ → ℕ → Words → Words → Rows
rest w p n vs ms = rows_of w n (drop p vs) (drop p ms)

module _ (o : Options) (w : ℕ) (vs ms : Words) where
  pub rest_all : (n : ℕ) → rows_of w n vs ms ≡ rest w 0 n vs ms
  unfolding rest
  rest_all n = refl

  pub rest_more : (p n : ℕ) → 0 < n → rest w p n vs ms ≡ row_from w p vs ms ∷ rest w (p + w) (n - 1) vs ms
  unfolding rest rows_of row_from
  rest_more p n h =
      let e : n ≡ suc (n - 1) = omega arith in
      rw (e, drop-drop w p vs, drop-drop w p ms) (let z : suc (n - 1) - 1 ≡ n - 1 = omega arith in rw z)

  -- The next two rows, and the rest from the second of them on.
  pub sorted_more : (p n : ℕ) → 1 < n → sorted o (rest w p n vs ms) ≡ (not (is_greater (cmp_row o (row_from w p vs ms) (row_from w (p + w) vs ms))) && sorted o (rest w (p + w) (n - 1) vs ms))
  unfolding sorted
  sorted_more p n h = rw (rest_more p n (omega arith), rest_more (p + w) (n - 1) (omega arith))

  pub sorted_few : (p n : ℕ) → n ≤ 1 → sorted o (rest w p n vs ms) ≡ true
  unfolding sorted rest rows_of
  sorted_few p zero h = refl
  sorted_few p (suc zero) h = refl
  sorted_few p (suc (suc n)) h = absurd (omega arith)

  pub first_none : (i p : ℕ) → first_from o i (rest w p 0 vs ms) ≡ None
  unfolding first_from rest rows_of
  first_none i p = refl

  pub first_found : (i p n : ℕ) → 0 < n → null_key o (row_from w p vs ms) ≡ false → first_from o i (rest w p n vs ms) ≡ Some i
  unfolding first_from
  first_found i p n h e =
      rw (rest_more p n h) (subst (λ (b : Bool). elim b [ true ↦ first_from o (suc i) (rest w (p + w) (n - 1) vs ms) | false ↦ Some i ] ≡ Some i) (sym e) refl)

  pub first_passed : (i p n : ℕ) → 0 < n → null_key o (row_from w p vs ms) ≡ true → first_from o i (rest w p n vs ms) ≡ first_from o (i + 1) (rest w (p + w) (n - 1) vs ms)
  unfolding first_from
  first_passed i p n h e =
      let t : Rows = rest w (p + w) (n - 1) vs ms in
      rw (rest_more p n h, add-one i) (subst (λ (b : Bool). elim b [ true ↦ first_from o (suc i) t | false ↦ Some i ] ≡ first_from o (suc i) t) (sym e) refl)

module _ (o : Options) (rs : Rows) where
  pub last_found : (i : ℕ) → 0 < i → null_key o (get_or rs (i - 1) []) ≡ false → last_below o rs i ≡ Some (i - 1)
  unfolding last_below
  last_found zero h e = absurd (omega arith)
  last_found (suc i) h e =
      let z : suc i - 1 ≡ i = omega arith in
      let q : null_key o (get_or rs i []) ≡ false = rw z at e in
      rw z (subst (λ (b : Bool). elim b [ true ↦ last_below o rs i | false ↦ Some i ] ≡ Some i) (sym q) refl)

  pub last_passed : (i : ℕ) → 0 < i → null_key o (get_or rs (i - 1) []) ≡ true → last_below o rs i ≡ last_below o rs (i - 1)
  unfolding last_below
  last_passed zero h e = absurd (omega arith)
  last_passed (suc i) h e =
      let z : suc i - 1 ≡ i = omega arith in
      let q : null_key o (get_or rs i []) ≡ true = rw z at e in
      rw z (subst (λ (b : Bool). elim b [ true ↦ last_below o rs i | false ↦ Some i ] ≡ last_below o rs i) (sym q) refl)

  pub last_none : last_below o rs 0 ≡ None
  unfolding last_below
  last_none = refl

-- ---- a row's words, copied one by one
pub five_more : (ws : Words) (j : ℕ) (z : ℤ) → length ws ≡ j → j < 5 → five (ws ++ z ∷ []) ≡ set (five ws) j z
five_more ws j z e h =
    let a : 5 - length ws ≡ suc (4 - length ws) = omega arith in
    let b : 5 - length (ws ++ z ∷ []) ≡ 4 - length ws = simp length-append (omega arith) in
    rw (a, b, append_assoc ws (z ∷ []) (replicate (4 - length ws) (pos 0))) (sym (set_at ws (pos 0) (replicate (4 - length ws) (pos 0)) z j e))

-- ---- products
-- Two rows are among those left; the first of them, or the last, is set apart.
pub two_rows : (n w : ℕ) → 1 < n → w + w ≤ n * w
two_rows n w h = omega (arith, mul-le-mul_right {m = 2} {n = n} w h)

pub one_row : (n w : ℕ) → 0 < n → n * w ≡ (n - 1) * w + w
one_row zero w h = absurd (omega arith)
one_row (suc n) w h = let z : suc n - 1 ≡ n = omega arith in rw z (omega arith)

-- Where Greater has an arm of its own.
pub not_greater_arm : (x : Ordering) → (tag_of the_type x ≡ 0) ⊎ (tag_of the_type x ≡ 1) → is_greater x ≡ false
not_greater_arm Less t = refl
not_greater_arm Equal t = refl
not_greater_arm Greater t = absurd (⊎_elim (λ l. omega arith) (λ l. omega arith) t)

-- ---- a row by its cells, one more at a time
cells_snoc : (vs ms : Words) (v m : ℤ) → length vs ≡ length ms → cells_of (vs ++ v ∷ []) (ms ++ m ∷ []) ≡ cells_of vs ms ++ cell_of v m ∷ []
unfolding cells_of
cells_snoc [] [] v m e = refl
cells_snoc [] (n ∷ ms) v m e = absurd (omega arith)
cells_snoc (u ∷ vs) [] v m e = absurd (omega arith)
cells_snoc (u ∷ vs) (n ∷ ms) v m e = rw (cells_snoc vs ms v m (omega arith))

module _ (j p : ℕ) (vs ms : Words) (hv : p + j < length vs) (hm : p + j < length ms) where
  row_more : row_from (j + 1) p vs ms ≡ row_from j p vs ms ++ cell_at (p + j) vs ms ∷ []
  unfolding row_from
  row_more =
      let lv : j < length (drop p vs) = simp length-drop (omega arith) in
      let lm : j < length (drop p ms) = simp length-drop (omega arith) in
      let e : length (take j (drop p vs)) ≡ length (take j (drop p ms)) = length-take-le j (drop p vs) (omega arith) ∙ sym (length-take-le j (drop p ms) (omega arith)) in
      rw (add-one j, take-suc (drop p vs) j (pos 0) lv, take-suc (drop p ms) j (pos 0) lm, get_or-drop p vs j (pos 0), get_or-drop p ms j (pos 0)) (cells_snoc _ _ _ _ e)

  -- The word of cell j goes to place j.
  pub copy_more : (f : Cell → ℤ) (ws : Words) (z : ℤ) → j < 5 → ws ≡ five (map f (row_from j p vs ms)) → z ≡ f (cell_at (p + j) vs ms) → set ws j z ≡ five (map f (row_from (j + 1) p vs ms))
  copy_more f ws z h e q =
      let l : length (map f (row_from j p vs ms)) ≡ j = length-map (row_from j p vs ms) f ∙ row_length j p vs ms (omega arith) (omega arith) in
      rw (row_more, map-append f (row_from j p vs ms) (cell_at (p + j) vs ms ∷ []), e, q) (sym (five_more (map f (row_from j p vs ms)) j (f (cell_at (p + j) vs ms)) l h))

pub copy_none : (p : ℕ) (vs ms : Words) → row_from 0 p vs ms ≡ []
unfolding row_from cells_of
copy_none p vs ms = refl
