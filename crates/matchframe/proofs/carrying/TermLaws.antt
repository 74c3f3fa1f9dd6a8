-- Of spreading rows, options with a list and without one are the same. Assumes nothing.
use mathlib.Core.Path.{◌≡◌, ap}
use mathlib.Core.List.{List}
use Prim.Native.Nat.{ℕ}
use lib.ListN.{length}
use Rattle.frames.specs.Cells.{Rows, Words}
use Rattle.order.specs.options.Options.{with_list, without_list}
use Rattle.order.specs.declared.options.Terms.{Terms}
use Rattle.order.proofs.TermLaws.{rows_terms}
use Rattle.tables.specs.Lay.{flat, lay_cells}
use Rattle.matching.proofs.TermLaws.{answers_terms}
use Rattle.matchframe.specs.carrying.Spread.{choices_from, spread, SpreadIn}

module _ (t : Terms) (codes : Words) (rising : List ℕ) where
  pub spread_in_terms : (n wl : ℕ) (lv lm : Words) (wr nr : ℕ) (rv rm : Words) (number m : ℕ) (out : Words) → SpreadIn (with_list t codes rising) n wl lv lm wr nr rv rm number m out → SpreadIn (without_list t) n wl lv lm wr nr rv rm number m out
  spread_in_terms n wl lv lm wr nr rv rm number m out h = record {
    left = rows_terms t codes rising wl n lv lm h.left;
    right = rows_terms t codes rising wr nr rv rm h.right;
    carried = h.carried;
    wide = h.wide;
    numbers = h.numbers;
    within = h.within;
    room = h.room;
    chosen = h.chosen;
  }

  pub spread_terms : (number : ℕ) (rights lefts : Rows) (m : ℕ) (out : Words) → spread (without_list t) number rights lefts m out ≡ spread (with_list t codes rising) number rights lefts m out
  unfolding spread
  spread_terms number rights lefts m out = ap (λ (rs : Rows). lay_cells m 0 (flat rs) out) (answers_terms t codes rising number rights lefts (choices_from m out 0 (length lefts)))
