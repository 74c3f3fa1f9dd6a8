-- A search by key is the same with a list and without one. Assumes nothing.
use mathlib.Core.Path.{◌≡◌, refl}
use mathlib.Core.List.{List}
use Prim.Native.Nat.{ℕ}
use Rattle.frames.specs.Cells.{Cell, Rows, Words}
use Rattle.order.specs.options.Options.{with_list, without_list}
use Rattle.order.specs.declared.options.Terms.{Terms}
use Rattle.order.specs.declared.options.Strategy.{Strategy}
use Rattle.order.specs.declared.options.Strategy.TheVariants.{Backward, Forward, Nearest}
use Rattle.searching.specs.Reach.{Range, key_needs_more}

-- Whether more is needed by a key.
pub key_terms : (t : Terms) (codes : Words) (rising : List ℕ) (s : Strategy) (v : Cell) (held : Rows) (r : Range)
    → key_needs_more (without_list t) s v held r ≡ key_needs_more (with_list t codes rising) s v held r
unfolding key_needs_more
key_terms t codes rising Backward v held r = refl
key_terms t codes rising Forward v held r = refl
key_terms t codes rising Nearest v held r = refl
