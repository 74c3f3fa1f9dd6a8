-- Rows of subtotals that words hold, and what a sale makes of them. Assumes nothing.
use Rattle.std.specs.Prelude.{◌≡◌, Bool, true, false, List, [], ◌∷◌, ◌++◌, map, ℕ, suc, ◌+◌, ◌-◌, ◌*◌, ◌≤◌, ◌<◌, ℤ, pos, nat_abs, length, take, drop, get_or}
use Rattle.std.specs.Int.Signed.{le_z}
use Rattle.frames.specs.Cells.{Cell, value, value_word, Words, row_from}
use Rattle.frames.specs.Frame.{pairs_fine}
use Rattle.order.specs.declared.options.Options.{Options}
use Rattle.order.specs.Order.{cmp_group, null_group}
use Rattle.std.specs.declared.cmp.Ordering.TheVariants.{Less, Equal, Greater}
use Rattle.tables.specs.Table.{words_of}
use Rattle.takings.specs.Subtotals.{Subtotal, insert, ascending, row_of, most_amount, most_sales}

-- The by-values of a group: so many, none of them null.
pub record Plain (b : ℕ) (t : Subtotal) : Type 0 where
  pub long : length t.group ≡ b
  pub full : map value (map value_word t.group) ≡ t.group

abbrev pub EachPlain : ℕ → List Subtotal → Type 0
EachPlain b [] = Unit {0}
EachPlain b (t ∷ ts) = Plain b t × EachPlain b ts

-- The words begin with the rows of the table ts, in group order, each of b by-values, total and sale count; the words behind them are those of b₀.
pub record Held (o : Options) (n : ℕ) (ts : List Subtotal) (b₀ body : Words) : Type 0 where
  pub rows : length ts ≡ n
  pub words : body ≡ words_of value_word (map row_of ts) ++ drop (n * suc (suc o.by)) b₀
  pub long : length body ≡ length b₀
  pub order : ascending o ts ≡ true
  pub each : EachPlain o.by ts

-- The row in place i of a table.
abbrev nothing : Subtotal
nothing = record { group = []; total = pos 0; count = 0 }

abbrev pub sub_at : List Subtotal → ℕ → Subtotal
sub_at ts i = get_or ts i nothing

-- In the table ts: row r is of the group g; or, where none is, g belongs before row r and behind the row before it.
pub record Stands (o : Options) (ts : List Subtotal) (g : List Cell) (r : ℕ) (here : Bool) : Type 0 where
  pub within : r ≤ length ts
  pub yes : here ≡ true → (r < length ts) × (cmp_group o (sub_at ts r).group g ≡ Equal)
  pub no : here ≡ false → (0 < r → cmp_group o (sub_at ts (r - 1)).group g ≡ Less) × (r < length ts → cmp_group o (sub_at ts r).group g ≡ Greater)

-- The sale of a left row.
abbrev pub unit_of : Options → List Cell → ℤ → Subtotal
unit_of o x amount = record { group = take o.by x; total = amount; count = 1 }

-- A total and a count to which a sale can be added.
pub record Addable (total count : ℤ) : Type 0 where
  pub total_is : nat_abs total ≤ most_sales * most_amount
  pub count_is : nat_abs count ≤ most_sales
  pub sold : le_z (pos 0) count ≡ true

pub record AddIn (a q by : ℕ) (vs : Words) (amount : ℤ) (body : Words) : Type 0 where
  pub there : q + by ≤ length vs
  pub room : a + by + 2 ≤ length body
  pub addable : Addable (get_or body (a + by) (pos 0)) (get_or body (a + by + 1) (pos 0))
  pub small : nat_abs amount ≤ most_amount

pub record OpenIn (a end q by : ℕ) (vs body : Words) : Type 0 where
  pub there : q + by ≤ length vs
  pub range : a ≤ end
  pub room : end + (by + 2) ≤ length body

-- n rows are there and one more has room; `row` is one of them, if it is of the sale's group, or their end; sums stay within a word.
pub record PutIn (by n row : ℕ) (here : Bool) (q : ℕ) (vs : Words) (amount : ℤ) (body : Words) : Type 0 where
  pub few : by ≤ 4
  pub room : n * suc (suc by) + suc (suc by) ≤ length body
  pub there : q + by < length vs
  pub range : row ≤ n
  pub is : here ≡ true → row < n
  pub small : nat_abs amount ≤ most_amount
  pub addable : here ≡ true → Addable (get_or body (row * suc (suc by) + by) (pos 0)) (get_or body (row * suc (suc by) + by + 1) (pos 0))

-- Whatever table the words held, they hold it with the sale added, if its place was told; r says how many rows it has.
pub record Inserted (o : Options) (n row : ℕ) (here : Bool) (q : ℕ) (vs ms : Words) (amount : ℤ) (body : Words) (r : ℕ) (body' : Words) : Type 0 where
  pub holds : (ts : List Subtotal) (b₀ : Words) → length vs ≤ length ms → pairs_fine vs ms ≡ true → null_group o (row_from (suc o.by) q vs ms) ≡ false
      → Stands o ts (take o.by (row_from (suc o.by) q vs ms)) row here → Held o n ts b₀ body → Held o r (insert o (unit_of o (row_from (suc o.by) q vs ms) amount) ts) b₀ body'
