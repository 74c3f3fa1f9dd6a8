-- How far the held rows serve a left row: narrowing, need more, the split of a prune. Assumes nothing.
use Rattle.std.specs.Prelude.{Bool, true, false, cond, ◌||◌, List, [], ℕ, zero, suc, ◌-◌, max, ltb, leb, eqb, length, get_or, take, drop, Some, None, Option}
use Rattle.frames.specs.Cells.{Cell, cell, Rows}
use Rattle.order.specs.options.Options.{by_rule, key_rule, strategy_of, columns}
use Rattle.order.specs.Order.{key_of}
use Rattle.order.specs.Keyed.{first_keyed, last_keyed, row_at, recall, out_of_order}
use Rattle.order.specs.declared.options.Options.{Options}
use Rattle.order.specs.declared.Row.{Row}
use Rattle.order.specs.declared.options.Strategy.{Strategy}
use Rattle.order.specs.declared.options.Strategy.TheVariants.{Backward, Forward, Nearest}
use Rattle.searching.specs.Search.{find}
use Rattle.searching.specs.declared.Seek.{Seek}
use Rattle.searching.specs.declared.Seek.TheVariants.{AtLeast, Above}

-- A stretch of rows, start..end.
pub record Range : Type 0 where
  pub start : ℕ
  pub end : ℕ

-- SCOPE 7.3: one step of narrowing, by the by-value in column j.
unfoldable pub narrow_by : Options → Rows → List Cell → ℕ → Range → Range
narrow_by o held t j r =
    let s = find AtLeast (by_rule o j) j (cell j t) held r.start r.end in
    record { start = s; end = find Above (by_rule o j) j (cell j t) held s r.end }

-- Narrowing by the first j by-values, one after another.
unfoldable pub narrow : Options → Rows → List Cell → ℕ → Range
narrow o held t zero = record { start = 0; end = length held }
narrow o held t (suc j) = narrow_by o held t j (narrow o held t j)

-- By all b by-values.
abbrev pub narrowed : Options → Rows → List Cell → Range
narrowed o held t = narrow o held t o.by

-- The first row of a range whose key meets the key v.
abbrev pub find_key : Options → Seek → Cell → Rows → ℕ → ℕ → ℕ
find_key o k v held lower upper = find k key_rule o.by v held lower upper

-- SCOPE 7.5: which test the search for the key uses.
abbrev pub seek_of : Strategy → Bool → Seek
seek_of Backward eq = cond eq Above AtLeast
seek_of Forward eq = cond eq AtLeast Above
seek_of Nearest eq = Above

-- SCOPE 7.5, 7.6: more is needed, as far as the key decides.
unfoldable pub key_needs_more : Options → Strategy → Cell → Rows → Range → Bool
key_needs_more o Backward v held r = leb (length held) (find_key o (seek_of Backward o.allow_eq) v held r.start r.end)
key_needs_more o Forward v held r = leb (length held) (find_key o (seek_of Forward o.allow_eq) v held r.start r.end)
key_needs_more o Nearest v held r =
    let g = find_key o Above v held r.start r.end in
    cond (leb (length held) g) true (leb (length held) (find_key o Above (key_of o (get_or held g [])) held g r.end))

-- SCOPE 7.2, 7.4 to 7.6: more is needed for the left row t.
unfoldable pub row_needs_more : Options → List Cell → Rows → Bool
row_needs_more o t held =
    let r = narrowed o held t in
    cond (eqb (length held) 0) true
    (cond (eqb r.start (length held)) true
    (cond (ltb r.end (length held)) false
    (key_needs_more o (strategy_of o) (key_of o t) held r)))

-- SCOPE 7.1: more is needed for a left frame; its last row decides.
unfoldable pub need_more : Options → Rows → Rows → Bool
need_more o left held = cond (eqb (length left) 0) false (row_needs_more o (get_or left (length left - 1) []) held)

-- SCOPE 11.2: from the result of the search to the split.
abbrev pub step_back : Strategy → ℕ → ℕ → ℕ
step_back Backward start at = max (at - 1) start
step_back Forward start at = at
step_back Nearest start at = max (at - 1) start

-- SCOPE 11.2: the split of a prune by the left row t.
unfoldable pub split_at : Options → List Cell → Rows → ℕ
split_at o t held =
    let r = narrowed o held t in
    step_back (strategy_of o) r.start (find_key o AtLeast (key_of o t) held r.start r.end)

-- SCOPE 11.1: when a prune does nothing.
abbrev pub no_prune : Rows → Rows → Bool
no_prune left held = eqb (length left) 0 || eqb (length held) 0

-- SCOPE 11.3: how many held rows a prune by row i of the left frame drops.
unfoldable pub prune_by : Options → ℕ → Rows → Rows → ℕ
prune_by o i left held = cond (no_prune left held) 0 (split_at o (get_or left i []) held)

-- The row at a place among the dropped ones, or the other row if there is no such place.
abbrev pub row_or : Rows → Option (List Cell) → Option ℕ → Option (List Cell)
row_or before other (Some i) = Some (get_or before i [])
row_or before other None = other

-- SCOPE 11.4: the row that is compared at the split, of the dropped rows and the remembered row m.
unfoldable pub row_before : Options → Row → Rows → Option (List Cell)
row_before o m before = row_or before (recall (columns o) m) (last_keyed o before)

-- SCOPE 11.4: the split is out of order.
unfoldable pub bad_split : Options → Row → ℕ → Rows → Rows → Bool
bad_split o m i left held =
    let s = prune_by o i left held in
    cond (no_prune left held) false (out_of_order o (row_before o m (take s held)) (row_at (drop s held) (first_keyed o (drop s held))))
