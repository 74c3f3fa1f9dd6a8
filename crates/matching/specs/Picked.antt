-- The row that the strategy picks, told without a search: it qualifies, and none that qualifies is better. Assumes nothing.
use Rattle.std.specs.Prelude.{◌≡◌, Bool, true, false, ◌&&◌, ◌||◌, List, [], ℕ, ◌<◌, ltb, eqb, length, get_or}
use Rattle.frames.specs.Cells.{Cell, Rows}
use Rattle.order.specs.options.Options.{strategy_of, key_rule}
use Rattle.order.specs.Order.{key_of, distance, cmp_cell, is_greater, is_equal}
use Rattle.order.specs.declared.options.Options.{Options}
use Rattle.order.specs.declared.options.Strategy.{Strategy}
use Rattle.order.specs.declared.options.Strategy.TheVariants.{Backward, Forward, Nearest}
use Rattle.matching.specs.Match.{qualifies}

-- SCOPE 10.3: for the left row x, right row s at place k is preferred to right row r at place i.
unfoldable pub better : Options → Strategy → List Cell → ℕ → List Cell → ℕ → List Cell → Bool
better o Backward x k s i r = ltb i k
better o Forward x k s i r = ltb k i
better o Nearest x k s i r =
    ltb (distance (key_of o s) (key_of o x)) (distance (key_of o r) (key_of o x))
    || (eqb (distance (key_of o s) (key_of o x)) (distance (key_of o r) (key_of o x))
    && (is_greater (cmp_cell key_rule (key_of o s) (key_of o r)) || (is_equal (cmp_cell key_rule (key_of o s) (key_of o r)) && ltb i k)))

-- SCOPE 14.3: right row i qualifies for x, and no row that qualifies is preferred to it.
pub record Picked (o : Options) (rights : Rows) (x : List Cell) (i : ℕ) : Type 0 where
  pub there : i < length rights
  pub fit : qualifies o x (get_or rights i []) ≡ true
  pub best : (k : ℕ) → k < length rights → qualifies o x (get_or rights k []) ≡ true → better o (strategy_of o) x k (get_or rights k []) i (get_or rights i []) ≡ false

-- No right row qualifies for x.
abbrev pub NoneQualifies : Options → Rows → List Cell → Type 0
NoneQualifies o rights x = (k : ℕ) → k < length rights → qualifies o x (get_or rights k []) ≡ false
