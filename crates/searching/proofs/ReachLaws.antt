-- Narrowing column by column, need more by its tests, the split and its step back: each as the code goes, over any rows. Assumes nothing.
use mathlib.Core.Path.{◌≡◌}
use mathlib.Core.Bool.{true, false}
use mathlib.Core.List.{List, []}
use Prim.Native.Nat.{ℕ, ◌+◌, ◌-◌, ◌*◌, ◌≤◌, ◌<◌}
use native.Mathlib.Nat.{mul-le-mul_right}
use native.Mathlib.Numerals.{add-one}
use native.Mathlib.Omega.{arith}
use borrow.Author.Tests.{lt-ltb, le-ltb, le-leb, lt-leb, eq-eqb, ne_eqb}
use lib.Dec.{leb}
use lib.ListN.{length, get_or}
use Rattle.frames.specs.Cells.{Cell, cell, Rows, Words}
use Rattle.order.specs.options.Options.{by_rule, strategy_of}
use Rattle.order.specs.Order.{key_of}
use Rattle.order.specs.Requires.{RowAt, RowsIn}
use Rattle.order.proofs.RowLaws.{row_room}
use Rattle.order.specs.declared.options.Options.{Options}
use Rattle.order.specs.declared.options.Strategy.{Strategy}
use Rattle.order.specs.declared.options.Strategy.TheVariants.{Backward, Forward, Nearest}
use Rattle.searching.specs.Search.{find}
use Rattle.searching.specs.Reach.{Range, narrow_by, narrow, narrowed, find_key, seek_of, key_needs_more, row_needs_more, need_more, step_back, split_at, prune_by}
use Rattle.searching.specs.declared.Seek.TheVariants.{AtLeast, Above}
use Rattle.searching.specs.Requires.{ColumnIn}
use Rattle.searching.proofs.Bounds.{narrow_inside}

-- ---- rows that are there
module _ {o : Options} {w n : ℕ} {vs ms : Words} (p : RowsIn o w n vs ms) where
  pub row_at : (i : ℕ) → i < n → RowAt o (i * w) vs ms
  row_at i h =
      let r = row_room i n w h in
      record { few = p.few; values = omega (arith, p.wide, p.values); marks = omega (arith, p.wide, p.marks) }

  pub column_in : (j e : ℕ) → j < w → e ≤ n → ColumnIn j w e vs ms
  column_in j e h l =
      let k = mul-le-mul_right {m = e} {n = n} w l in
      record { wide = h; values = omega (arith, p.values); marks = omega (arith, p.marks) }

-- ---- narrowing
module _ (o : Options) (held : Rows) (t : List Cell) where
  pub narrow_column : (j : ℕ) (v : Cell) (s : Range) (a b : ℕ) → cell j t ≡ v → a ≡ find AtLeast (by_rule o j) j v held s.start s.end → b ≡ find Above (by_rule o j) j v held a s.end
      → ◌≡◌ {A = Range} (record { start = a; end = b }) (narrow_by o held t j s)
  unfolding narrow_by
  narrow_column j v s a b e f g = rw (g, f, e)

  pub narrow_none : (n : ℕ) → length held ≡ n → ◌≡◌ {A = Range} (record { start = 0; end = n }) (narrow o held t 0)
  unfolding narrow
  narrow_none n e = rw e

  pub narrow_more : (j : ℕ) (r s : Range) → r ≡ narrow o held t j → s ≡ narrow_by o held t j r → s ≡ narrow o held t (j + 1)
  unfolding narrow
  narrow_more j r s e f = rw (add-one j, ← e) f

  -- What is narrowed ends at or before the last row.
  pub narrow_end : (j n : ℕ) (r : Range) → length held ≡ n → r ≡ narrow o held t j → r.end ≤ n
  narrow_end j n r l e = let w = (narrow_inside o t held j).within in rw (e, ← l) w

-- ---- need more, by the left key
module _ (o : Options) (v : Cell) (held : Rows) (r : Range) (g n : ℕ) (l : length held ≡ n) where
  abbrev First : Strategy → Type 0
  First s = g ≡ find_key o (seek_of s o.allow_eq) v held r.start r.end

  pub key_past : (s : Strategy) → First s → n ≤ g → true ≡ key_needs_more o s v held r
  unfolding key_needs_more
  key_past Backward e h = rw (← e, l, le-leb n g h)
  key_past Forward e h = rw (← e, l, le-leb n g h)
  key_past Nearest e h = rw (← e, l, le-leb n g h)

  pub key_backward : First Backward → g < n → false ≡ key_needs_more o Backward v held r
  unfolding key_needs_more
  key_backward e h = rw (← e, l, lt-leb n g h)

  pub key_forward : First Forward → g < n → false ≡ key_needs_more o Forward v held r
  unfolding key_needs_more
  key_forward e h = rw (← e, l, lt-leb n g h)

  pub key_nearest : (k : ℕ) → First Nearest → g < n → k ≡ find_key o Above (key_of o (get_or held g [])) held g r.end → leb n k ≡ key_needs_more o Nearest v held r
  unfolding key_needs_more
  key_nearest k e h f = rw (← e, l, lt-leb n g h, ← f)

-- ---- need more, by the counts and the stretch
module _ (o : Options) (left held : Rows) (m n : ℕ) (ll : length left ≡ m) (lh : length held ≡ n) where
  pub more_no_left : m ≡ 0 → false ≡ need_more o left held
  unfolding need_more
  more_no_left h = rw (ll, eq-eqb m 0 h)

  module _ (some : m ≡ 0 → ⊥) where
    pub more_no_held : n ≡ 0 → true ≡ need_more o left held
    unfolding need_more row_needs_more
    more_no_held h = rw (ll, ne_eqb m 0 some, lh, eq-eqb n 0 h)

    module _ (held-some : n ≡ 0 → ⊥) (t : List Cell) (last : get_or left (m - 1) [] ≡ t) (r : Range) (e : r ≡ narrowed o held t) where
      pub more_start : r.start ≡ n → true ≡ need_more o left held
      unfolding need_more row_needs_more
      more_start h = rw (ll, ne_eqb m 0 some, lh, ne_eqb n 0 held-some, last, ← e, eq-eqb r.start n h)

      pub more_end : (r.start ≡ n → ⊥) → r.end < n → false ≡ need_more o left held
      unfolding need_more row_needs_more
      more_end g h = rw (ll, ne_eqb m 0 some, lh, ne_eqb n 0 held-some, last, ← e, ne_eqb r.start n g, lt-ltb r.end n h)

      pub more_key : (r.start ≡ n → ⊥) → n ≤ r.end → (v : Cell) → key_of o t ≡ v → key_needs_more o (strategy_of o) v held r ≡ need_more o left held
      unfolding need_more row_needs_more
      more_key g h v k = rw (ll, ne_eqb m 0 some, lh, ne_eqb n 0 held-some, last, ← e, ne_eqb r.start n g, le-ltb r.end n h, k)

-- ---- the split
module _ (o : Options) (t : List Cell) (held : Rows) where
  -- Without by-columns all rows are left.
  pub narrowed_all : (n : ℕ) → o.by ≡ 0 → length held ≡ n → ◌≡◌ {A = Range} (record { start = 0; end = n }) (narrowed o held t)
  unfolding narrow
  narrowed_all n h l = rw (h, ← l)

  pub split_is : (r : Range) (v : Cell) (at : ℕ) → r ≡ narrowed o held t → key_of o t ≡ v → at ≡ find_key o AtLeast v held r.start r.end → step_back (strategy_of o) r.start at ≡ split_at o t held
  unfolding split_at
  split_is r v at e k f = rw (← e, k, ← f)

module _ (o : Options) (i : ℕ) (left held : Rows) (m n : ℕ) (ll : length left ≡ m) (lh : length held ≡ n) where
  pub prune_no_left : m ≡ 0 → 0 ≡ prune_by o i left held
  unfolding prune_by
  prune_no_left h = rw (ll, eq-eqb m 0 h)

  pub prune_no_held : (m ≡ 0 → ⊥) → n ≡ 0 → 0 ≡ prune_by o i left held
  unfolding prune_by
  prune_no_held g h = rw (ll, ne_eqb m 0 g, lh, eq-eqb n 0 h)

  pub prune_split : (m ≡ 0 → ⊥) → (n ≡ 0 → ⊥) → (t : List Cell) → get_or left i [] ≡ t → split_at o t held ≡ prune_by o i left held
  unfolding prune_by
  prune_split g h t e = rw (ll, ne_eqb m 0 g, lh, ne_eqb n 0 h, e)
