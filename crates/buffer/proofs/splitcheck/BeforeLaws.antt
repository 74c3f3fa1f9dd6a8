-- The row before the split in words, and the check at the split as the code goes. Assumes nothing.
use Rattle.std.specs.Prelude.{Option, Some, None}
use mathlib.Core.Path.{◌≡◌, refl, sym, ap, ◌∙◌}
use mathlib.Core.Bool.{Bool, true, false, cond}
use mathlib.Core.List.{List, []}
use Prim.Native.Nat.{ℕ, zero, suc, ◌+◌, ◌-◌, ◌*◌, ◌≤◌, ◌<◌}
use native.Mathlib.Omega.{arith}
use lib.ListN.{length, take, drop, get_or, length-drop}
use lib.Seq.{take-take, length-take-le}
use Rattle.frames.specs.Cells.{Cell, cells_of, rows_of, row_from, Rows, Words}
use Rattle.order.specs.options.Options.{columns}
use Rattle.order.specs.Order.{cmp_row, is_greater}
use Rattle.order.specs.Keyed.{first_keyed, last_keyed, row_at, recall, remember, remember_at, compared, out_of_order}
use Rattle.order.specs.Requires.{RowAt, RowsIn, KeysIn}
use Rattle.order.specs.declared.options.Options.{Options}
use Rattle.order.specs.declared.Row.{Row}
use Rattle.std.specs.declared.cmp.Ordering.{Ordering}
use Rattle.order.proofs.RowLaws.{row_room}
use Rattle.frames.proofs.WordLaws.{rows_length, rows_at, rows_drop, cells_take}
use Rattle.order.proofs.KeyedLaws.{first_found, last_found}
use Rattle.searching.specs.Reach.{no_prune, prune_by, row_before, bad_split}
use Rattle.buffer.specs.splitcheck.Split.{words_before, has_before, out_of_order_at}
use Rattle.buffer.specs.splitcheck.Requires.{BeforeIn, SplitIn, FoundIn, FoundAmong}
use Rattle.buffer.proofs.area.AreaLaws.{to_end}

-- ---- rows
pub rows_take : (w n s : ℕ) (vs ms : Words) → s ≤ n → take s (rows_of w n vs ms) ≡ rows_of w s vs ms
unfolding rows_of
rows_take w n zero vs ms h = refl
rows_take w zero (suc s) vs ms h = absurd (omega arith)
rows_take w (suc n) (suc s) vs ms h = rw (rows_take w n s (drop w vs) (drop w ms) (omega arith))

-- A row with a key that was found is one of them.
pub last_in : (o : Options) (w n i : ℕ) (vs ms : Words) → last_keyed o (rows_of w n vs ms) ≡ Some i → i < n
last_in o w n i vs ms e = omega (arith, (rw e at (last_found o (rows_of w n vs ms) (length (rows_of w n vs ms)))).1, rows_length w n vs ms)

pub first_in : (o : Options) (w n i : ℕ) (vs ms : Words) → first_keyed o (rows_of w n vs ms) ≡ Some i → i < n
first_in o w n i vs ms e = omega (arith, (rw e at (first_found o 0 (rows_of w n vs ms))).1, rows_length w n vs ms)

-- ---- the row found, and a row before it
module _ (o : Options) (x : List Cell) (rows : Rows) (found : Option ℕ) where
  pub found_at : (i : ℕ) (y : List Cell) (z : Ordering) (b : Bool) → found ≡ Some i → get_or rows i [] ≡ y → z ≡ cmp_row o x y → b ≡ is_greater z → b ≡ out_of_order o (Some x) (row_at rows found)
  found_at i y z b e g f h = rw (e, g, ← f) h

-- A row that is found is there, if it is one of n rows that are.
pub found_in_lem : (o : Options) (w n : ℕ) (found : Option ℕ) (vs ms : Words) → RowsIn o w n vs ms → FoundAmong found n → FoundIn o w found vs ms
found_in_lem o w n found vs ms p h = record {
  few = p.few;
  wide = p.wide;
  values = λ i e. omega (arith, row_room i n w (h i e), p.values);
  marks = λ i e. omega (arith, row_room i n w (h i e), p.marks);
}

-- So are the first and the last row with a key.
pub first_among : (o : Options) (w n : ℕ) (found : Option ℕ) (vs ms : Words) → found ≡ first_keyed o (rows_of w n vs ms) → FoundAmong found n
first_among o w n found vs ms e i h = first_in o w n i vs ms (sym e ∙ h)

pub last_among : (o : Options) (w n : ℕ) (found : Option ℕ) (vs ms : Words) → found ≡ last_keyed o (rows_of w n vs ms) → FoundAmong found n
last_among o w n found vs ms e i h = last_in o w n i vs ms (sym e ∙ h)

pub recall_none : (w : ℕ) (m : Row) → m.some ≡ false → recall w m ≡ None
unfolding recall
recall_none w m e = rw e

pub recall_some : (w : ℕ) (m : Row) → m.some ≡ true → recall w m ≡ Some (row_from w 0 m.values m.marks)
unfolding recall row_from
recall_some w m e = rw e

-- ---- what is remembered
module _ (o : Options) (m : Row) (rows : Rows) (found : Option ℕ) where
  pub remember_nothing : found ≡ None → m ≡ remember_at o m rows found
  remember_nothing e = rw e

  pub remember_at_lem : (i : ℕ) (x : List Cell) → found ≡ Some i → compared o (get_or rows i []) ≡ x → remember x ≡ remember_at o m rows found
  remember_at_lem i x e g = rw (e, g)

-- What is compared of a row, by its words.
pub compared_from : (o : Options) (w p : ℕ) (vs ms : Words) → o.by < w → compared o (row_from w p vs ms) ≡ row_from (columns o) p vs ms
unfolding row_from
compared_from o w p vs ms h =
    cells_take (columns o) (take w (drop p vs)) (take w (drop p ms)) ∙ rw (take-take (columns o) w (drop p vs) (omega arith), take-take (columns o) w (drop p ms) (omega arith))

-- ---- the row before the split
pub words_long : (c w : ℕ) (k : Option ℕ) (held remembered : Words) → c ≤ w → BeforeIn c w k held remembered → c ≤ length (words_before c w held remembered k)
words_long c w (Some i) held remembered l p = rw (length-take-le w (drop (i * w) held) (rw (length-drop (i * w) held) (omega (arith, p.inside i refl)))) l
words_long c w None held remembered l p = rw (length-take-le c remembered p.other) (omega arith)

module _ (w s : ℕ) (vs ms : Words) (m : Row) where
  -- Its cells: of the row that was found, or of the one that is remembered.
  found_row : (i : ℕ) → i < s → row_from w 0 (take w (drop (i * w) vs)) (take w (drop (i * w) ms)) ≡ get_or (rows_of w s vs ms) i []
  unfolding row_from
  found_row i h = rw (take-take w w (drop (i * w) vs) (omega arith), take-take w w (drop (i * w) ms) (omega arith)) (sym (rows_at w s i vs ms h))

  other_row : (c : ℕ) → m.some ≡ true → Some (row_from c 0 (take c m.values) (take c m.marks)) ≡ recall c m
  unfolding row_from recall
  other_row c e = rw (take-take c c m.values (omega arith), take-take c c m.marks (omega arith), e)

  -- The row before the split, by the words of its values and of its marks.
  pub row_before_lem : (o : Options) (k : Option ℕ) → last_keyed o (rows_of w s vs ms) ≡ k
      → row_before o m (rows_of w s vs ms) ≡ cond (has_before k m.some) (Some (cells_of (words_before (columns o) w vs m.values k) (words_before (columns o) w ms m.marks k))) None
  unfolding row_before recall
  row_before_lem o (Some i) e = rw (e, rows_at w s i vs ms (last_in o w s i vs ms e))
  row_before_lem o None e = rw e

-- ---- the check at the split
-- With the split at hand it is the check of a prune that is one.
pub bad_split_is : (o : Options) (m : Row) (i : ℕ) (left held : Rows) → bad_split o m i left held ≡ cond (no_prune left held) false (out_of_order_at o m (prune_by o i left held) held)
unfolding bad_split out_of_order_at
bad_split_is o m i left held = refl

module _ {o : Options} {s w n : ℕ} {vs ms : Words} (p : SplitIn o s w n vs ms) where
  pub long : (xs : Words) → n * w ≤ length xs → (s * w ≤ length xs) × ((n - s) * w ≤ length xs - s * w)
  long xs h =
      let e : n ≡ s + (n - s) = omega (arith, p.place) in
      let f : n * w ≡ (s + (n - s)) * w = ap (λ (z : ℕ). z * w) e in
      (omega arith, omega arith)

  pub keys_in : KeysIn o w s ms
  keys_in = record { few = p.rows.few; wide = p.rows.wide; marks = (long ms p.rows.marks).0 }

  pub before_in : (k : Option ℕ) (xs remembered : Words) → last_keyed o (rows_of w s vs ms) ≡ k → n * w ≤ length xs → columns o ≤ length remembered → BeforeIn (columns o) w k xs remembered
  before_in k xs remembered e h l = record {
    inside = λ i g. omega (arith, row_room i s w (last_in o w s i vs ms (e ∙ g)), (long xs h).0);
    other = l;
  }

  -- The rows behind the split, as parts that are lent.
  abbrev pub lent : Words → Words
  lent xs = take (length xs - s * w) (drop (s * w) xs)

  pub behind_in : RowsIn o w (n - s) (lent vs) (lent ms)
  behind_in =
      let a = long vs p.rows.values in
      let b = long ms p.rows.marks in
      record {
        few = p.rows.few;
        wide = p.rows.wide;
        values = rw (to_end (s * w) vs, length-drop (s * w) vs) a.1;
        marks = rw (to_end (s * w) ms, length-drop (s * w) ms) b.1;
      }

  behind_rows : rows_of w (n - s) (lent vs) (lent ms) ≡ drop s (rows_of w n vs ms)
  behind_rows = rw (to_end (s * w) vs, to_end (s * w) ms) (rows_drop w n s vs ms p.place)

  pub front_in : (m : Row) (k : Option ℕ) (v x : Words) → last_keyed o (rows_of w s vs ms) ≡ k → columns o ≤ length m.values → columns o ≤ length m.marks
      → v ≡ words_before (columns o) w vs m.values k → x ≡ words_before (columns o) w ms m.marks k → RowAt o 0 v x
  front_in m k v x e hv hm ev em =
      let a = words_long (columns o) w k vs m.values p.rows.wide (before_in k vs m.values e p.rows.values hv) in
      let b = words_long (columns o) w k ms m.marks p.rows.wide (before_in k ms m.marks e p.rows.marks hm) in
      let c : columns o ≤ length v = rw ev a in
      let d : columns o ≤ length x = rw em b in
      record { few = p.rows.few; values = omega arith; marks = omega arith }

  pub split_none : (m : Row) (k : Option ℕ) → last_keyed o (rows_of w s vs ms) ≡ k → has_before k m.some ≡ false → false ≡ out_of_order_at o m s (rows_of w n vs ms)
  unfolding out_of_order_at row_before
  split_none m (Some i) e h = cc
  split_none m None e h = rw (rows_take w n s vs ms p.place, e, recall_none (columns o) m h)

  -- What the row of those words is to the rows behind the split decides.
  pub split_says : (m : Row) (k : Option ℕ) (v x : Words) (b : Bool) → last_keyed o (rows_of w s vs ms) ≡ k → has_before k m.some ≡ true
      → v ≡ words_before (columns o) w vs m.values k → x ≡ words_before (columns o) w ms m.marks k
      → ((wp : ℕ) → o.by < wp → b ≡ out_of_order o (Some (row_from wp 0 v x)) (row_at (rows_of w (n - s) (lent vs) (lent ms)) (first_keyed o (rows_of w (n - s) (lent vs) (lent ms)))))
      → b ≡ out_of_order_at o m s (rows_of w n vs ms)
  unfolding out_of_order_at row_before
  split_says m (Some i) v x b e h ev em f =
      rw (rows_take w n s vs ms p.place, e, ← behind_rows, ← found_row w s vs ms m i (last_in o w s i vs ms e), ← ev, ← em) (f w p.rows.wide)
  split_says m None v x b e h ev em f =
      rw (rows_take w n s vs ms p.place, e, ← behind_rows, ← other_row w s vs ms m (columns o) h, ← ev, ← em) (f (columns o) (omega arith))
