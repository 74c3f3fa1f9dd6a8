-- Where a group stands among rows of subtotals without marks. Assumes nothing.
use Rattle.std.specs.Prelude.{◌≡◌, Bool, true, false, List, [], ℕ, ◌+◌, ◌-◌, ◌*◌, ◌≤◌, ◌<◌, pos, length, get_or}
use Rattle.frames.specs.Cells.{Cell, value, Words}
use Rattle.order.specs.options.Options.{Few}
use Rattle.order.specs.declared.options.Options.{Options}
use Rattle.order.specs.declared.options.Terms.{Terms}
use Rattle.order.specs.Order.{cmp_cell, cmp_group}
use Rattle.order.specs.Requires.{cell_at}
use Rattle.std.specs.declared.cmp.Ordering.{Ordering}
use Rattle.std.specs.declared.cmp.Ordering.TheVariants.{Less, Equal, Greater}
use Rattle.sales.specs.salegroup.Group.{plain}

-- The group of row i against a group.
abbrev pub cmp_at : Options → ℕ → Words → List Cell → ℕ → Ordering
cmp_at o w body g i = cmp_group o (plain o.by (i * w) body) g

-- The rows up to `high` are there, each w wide, and a left row at q; the search is among those from `low` on.
pub record PlaceIn (o : Options) (w low high : ℕ) (body : Words) (q : ℕ) (vs ms : Words) : Type 0 where
  pub compare : Few o
  pub wide : o.by < w
  pub range : low ≤ high
  pub rows : high * w ≤ length body
  pub values : q + o.by < length vs
  pub marks : q + o.by < length ms

-- Among the rows from `low` to `high`: row r is of the group g; or, where none is, g belongs before row r and behind the row before it.
pub record Placed (o : Options) (w low high : ℕ) (body : Words) (g : List Cell) (r : ℕ) (here : Bool) : Type 0 where
  pub least : low ≤ r
  pub within : r ≤ high
  pub yes : here ≡ true → (r < high) × (cmp_at o w body g r ≡ Equal)
  pub no : here ≡ false → (low < r → cmp_at o w body g (r - 1) ≡ Less) × (r < high → cmp_at o w body g r ≡ Greater)

-- The by-value of row i against that of the left row at q, where groups have one and it has no list.
abbrev pub cmp_one : Terms → ℕ → Words → ℕ → Words → Words → ℕ → Ordering
cmp_one o w body q vs ms i = cmp_cell (record { descending = get_or o.descending 0 false; nulls_last = get_or o.nulls_last 0 false; codes = [] }) (value (get_or body (i * w) (pos 0))) (cell_at q vs ms)

-- The rows up to `high` are there, each w wide, and the first word of a left row at q.
pub record SingleIn (w low high : ℕ) (body : Words) (q : ℕ) (vs ms : Words) : Type 0 where
  pub wide : 0 < w
  pub range : low ≤ high
  pub rows : high * w ≤ length body
  pub values : q < length vs
  pub marks : q < length ms

-- The same as Placed, by any comparison of the rows.
pub record PlacedBy (f : ℕ → Ordering) (low high r : ℕ) (here : Bool) : Type 0 where
  pub least : low ≤ r
  pub within : r ≤ high
  pub yes : here ≡ true → (r < high) × (f r ≡ Equal)
  pub no : here ≡ false → (low < r → f (r - 1) ≡ Less) × (r < high → f r ≡ Greater)
