-- What a join writes whose right rows are a merged table, in any frames: the whole-table matches over that table. The statement. Assumes nothing.
use Rattle.std.specs.Prelude.{◌≡◌, true, false, List, map}
use Rattle.frames.specs.Cells.{Rows, Words}
use Rattle.order.specs.options.Options.{refused_options}
use Rattle.order.specs.Order.{sorted}
use Rattle.order.specs.declared.options.Options.{Options}
use Rattle.lists.specs.Lists.{Call}
use Rattle.lists.specs.WholeTables.{lefts, rights, turned_rows, matches, due_over, Correct, Each}
use Rattle.books.specs.Merge.{merge}

-- SCOPE 19.11: any list of calls whose accepted right rows are the merged table, however it is cut in frames and whatever else the list has: what it writes are the
-- matches of the whole-table rule over the merged table, and each is right as the whole-table theorem says.
pub record SeasonOf (o : Options) (l r : Words) (calls : List Call) (house festival : Rows) : Type 0 where
  pub whole_table : matches o l r calls ≡ map (due_over o (merge o house festival)) (turned_rows o l r calls)
  pub none_exactly : Each (Correct o (merge o house festival)) (turned_rows o l r calls) (matches o l r calls)

abbrev pub Season : Type 0
Season =
    (o : Options) → refused_options o ≡ false → (l r : Words) (calls : List Call) (house festival : Rows) → sorted o house ≡ true → sorted o festival ≡ true
    → rights o l r calls ≡ merge o house festival → sorted o (lefts o l r calls) ≡ true → SeasonOf o l r calls house festival
