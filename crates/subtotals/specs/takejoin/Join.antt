-- Two tables of subtotals, side by side. Assumes nothing.
use Rattle.std.specs.Prelude.{◌≡◌, true, false, List, [], ◌∷◌, ℕ, suc, ◌+◌, ◌*◌, ◌≤◌, ◌<◌, ℤ, pos, nat_abs, length, get_or}
use Rattle.std.specs.Int.Signed.{le_z}
use Rattle.frames.specs.Cells.{Words, row_from}
use Rattle.frames.specs.Frame.{pairs_fine}
use Rattle.order.specs.Requires.{RowsIn}
use Rattle.order.specs.options.Options.{Few}
use Rattle.order.specs.declared.options.Options.{Options}
use Rattle.std.specs.declared.cmp.Ordering.{Ordering}
use Rattle.std.specs.declared.cmp.Ordering.TheVariants.{Less, Equal, Greater}
use Rattle.tables.specs.Requires.{rest}
use Rattle.takings.specs.Subtotals.{Subtotal, cmp_sub, plus, subtotals_of, most_sales}
use Rattle.subtotals.specs.subtables.Sheet.{beyond_words, count_words}

-- Which subtotal is next.
abbrev pub side : Options → List Subtotal → List Subtotal → Ordering
side o [] us = Greater
side o (t ∷ ts) [] = Less
side o (t ∷ ts) (u ∷ us) = cmp_sub o t u

-- The two tables as one, in group order where both are.
unfoldable pub joined : Options → List Subtotal → List Subtotal → List Subtotal
joined o [] us = us
joined o (t ∷ ts) [] = t ∷ ts
joined o (t ∷ ts) (u ∷ us) =
    elim (cmp_sub o t u) [
      | Less ↦ t ∷ joined o ts (u ∷ us)
      | Equal ↦ plus t u ∷ joined o ts us
      | Greater ↦ u ∷ joined o (t ∷ ts) us
    ]

-- The subtotals from row i on, of n rows that are each w wide.
abbrev pub subs_from : Options → ℕ → ℕ → ℕ → Words → Words → List Subtotal
subs_from o w i n vs ms = subtotals_of o (rest w i n vs ms)

-- n rows are there, and i is one of them or their end.
pub record NextRow (o : Options) (w n i : ℕ) (vs ms : Words) : Type 0 where
  pub rows : RowsIn o w n vs ms
  pub within : i ≤ n

-- Both tables are there.
pub record Both (o : Options) (w na : ℕ) (av am : Words) (nb : ℕ) (bv bm : Words) : Type 0 where
  pub first : RowsIn o w na av am
  pub second : RowsIn o w nb bv bm

-- The subtotal that row i tells, by its words: b by-values, its total and its sale count.
abbrev pub told : ℕ → ℕ → ℕ → Words → Words → Subtotal
told b w i vs ms = record { group = row_from b (i * w) vs ms; total = get_or vs (i * w + b) (pos 0); count = nat_abs (get_or vs (i * w + b + 1) (pos 0)) }

-- A group of b by-values is at p, the count is not negative, and its row has room.
pub record SubRoom (m k p b : ℕ) (vs ms : Words) (count : ℤ) (out : Words) : Type 0 where
  pub values : p + b ≤ length vs
  pub marks : p + b ≤ length ms
  pub paired : length vs ≤ length ms
  pub fine : pairs_fine vs ms ≡ true
  pub sold : le_z (pos 0) count ≡ true
  pub there : k + b + 2 ≤ m
  pub room : 2 + 2 * m ≤ length out

-- A table of subtotals within the bounds: n rows, each of b by-values, total and sale count.
pub record Account (b w n : ℕ) (vs ms : Words) : Type 0 where
  pub values : n * w ≤ length vs
  pub marks : n * w ≤ length ms
  pub width : w ≡ suc (suc b)
  pub paired : length vs ≤ length ms
  pub fine : pairs_fine vs ms ≡ true
  pub within : beyond_words b w n vs ≡ false
  pub few : count_words b w n vs ≤ most_sales

-- Row i is there, and its cells from k on, of m, have room.
pub record OneRoom (b w n i : ℕ) (vs ms : Words) (m k : ℕ) (out : Words) : Type 0 where
  pub account : Account b w n vs ms
  pub is : i < n
  pub there : k + w ≤ m
  pub room : 2 + 2 * m ≤ length out

-- Both are there, and m cells, which are those of the joined table, have room.
pub record JoinRoom (o : Options) (w na : ℕ) (av am : Words) (nb : ℕ) (bv bm : Words) (m : ℕ) (out : Words) : Type 0 where
  pub compare : Few o
  pub first : Account o.by w na av am
  pub second : Account o.by w nb bv bm
  pub counted : m ≡ length (joined o (subs_from o w 0 na av am) (subs_from o w 0 nb bv bm)) * w
  pub room : 2 + 2 * m ≤ length out
