-- By the whole-table theorem: the merge of two sorted books is sorted. Assumes nothing.
use mathlib.Core.Path.{◌≡◌, sym, subst}
use mathlib.Core.Bool.{true}
use mathlib.Core.List.{map}
use Rattle.frames.specs.Cells.{Rows}
use Rattle.order.specs.Order.{sorted}
use Rattle.lists.specs.WholeTables.{turned_rows, matches, due_over, Correct, Each}
use Rattle.lists.proofs.WholeTableTheorem.{whole_table_theorem}
use Rattle.books.proofs.MergeLaws.{merge_laws}
use Rattle.schedules.specs.bookjoin.Season.{Season}

pub season : Season
season o fine l r calls house festival h f e s =
    let t = subst (λ (rows : Rows). sorted o rows ≡ true) (sym e) ((merge_laws o house festival).in_order h f) in
    let d = whole_table_theorem o fine l r calls in
    record {
      whole_table = subst (λ (rows : Rows). matches o l r calls ≡ map (due_over o rows) (turned_rows o l r calls)) e (d.whole_table (s, t));
      none_exactly = subst (λ (rows : Rows). Each (Correct o rows) (turned_rows o l r calls) (matches o l r calls)) e (d.none_exactly (s, t));
    }
