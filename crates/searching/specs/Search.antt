-- Binary search over the held rows. Assumes nothing.
use Rattle.std.specs.Prelude.{Bool, true, false, not, [], ℕ, zero, suc, ◌+◌, ◌-◌, ◌/◌, ltb, get_or}
use Rattle.frames.specs.Cells.{Cell, cell, Rows}
use Rattle.order.specs.options.Options.{Rule}
use Rattle.order.specs.Order.{is_less, is_greater, cmp_cell}
use Rattle.std.specs.declared.cmp.Ordering.{Ordering}
use Rattle.searching.specs.declared.Seek.{Seek}
use Rattle.searching.specs.declared.Seek.TheVariants.{AtLeast, Above}

-- SCOPE 6.2: the search by halving, with fuel for its steps; as many as the range has rows are enough.
unfoldable pub search_for : ℕ → (ℕ → Bool) → ℕ → ℕ → ℕ
search_for zero p lower upper = lower
search_for (suc fuel) p lower upper =
    elim (ltb lower upper) [
      | true ↦
          elim (p ((lower + upper) / 2)) [
            | true ↦ search_for fuel p lower ((lower + upper) / 2)
            | false ↦ search_for fuel p (suc ((lower + upper) / 2)) upper
          ]
      | false ↦ lower
    ]

-- With fuel enough.
unfoldable pub search : (ℕ → Bool) → ℕ → ℕ → ℕ
search p lower upper = search_for (upper - lower) p lower upper

-- SCOPE 6.4: the two tests, by how a cell compares with the one that is sought.
abbrev pub meets : Seek → Ordering → Bool
meets AtLeast x = not (is_less x)
meets Above x = is_greater x

-- The first row of lower..upper whose cell in column j meets the cell v, by the column's rule.
unfoldable pub find : Seek → Rule → ℕ → Cell → Rows → ℕ → ℕ → ℕ
find k rule j v rows lower upper = search (λ i. meets k (cmp_cell rule (cell j (get_or rows i [])) v)) lower upper
