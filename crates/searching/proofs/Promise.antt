-- What the buffer promises the layers above of a split and of a row that needs no more: facts of order alone, by strategy. Assumes nothing.
use mathlib.Core.Path.{◌≡◌}
use mathlib.Core.Bool.{Bool, true, false, not}
use mathlib.Core.List.{List, []}
use mathlib.Core.Logic.{◌⊎◌}
use Prim.Native.Nat.{ℕ, ◌≤◌, ◌<◌}
use lib.ListN.{length, get_or}
use Rattle.frames.specs.Cells.{Cell, Rows}
use Rattle.order.specs.options.Options.{strategy_of}
use Rattle.order.specs.Order.{cmp_group, cmp_row}
use Rattle.order.proofs.OrderLaws.{AtMost, cmp_key}
use Rattle.order.specs.declared.options.Options.{Options}
use Rattle.std.specs.declared.cmp.Ordering.TheVariants.{Less, Equal}
use Rattle.order.specs.declared.options.Strategy.{Strategy}
use Rattle.order.specs.declared.options.Strategy.TheVariants.{Backward, Forward, Nearest}

-- The first row that stays, row p, has t's group and a lesser key than t.
pub record Covered (o : Options) (t : List Cell) (held : Rows) (p : ℕ) : Type 0 where
  pub there : p < length held
  pub group : cmp_group o (get_or held p []) t ≡ Equal
  pub key : cmp_key o (get_or held p []) t ≡ Less

-- Why row r, before the split p by the left row t, matters to no left row from t on. Forward: it is less than t.
-- Backward and Nearest: its group is before t's, or a row that stays stands between the two.
abbrev pub Dropped : Options → Strategy → List Cell → Rows → ℕ → List Cell → Type 0
Dropped o Backward t held p r = (cmp_group o r t ≡ Less) ⊎ Covered o t held p
Dropped o Forward t held p r = cmp_row o r t ≡ Less
Dropped o Nearest t held p r = (cmp_group o r t ≡ Less) ⊎ Covered o t held p

pub record Split (o : Options) (t : List Cell) (held : Rows) (p : ℕ) : Type 0 where
  pub within : p ≤ length held
  pub dropped : (i : ℕ) → i < p → Dropped o (strategy_of o) t held p (get_or held i [])

-- Row r is past row l: greater, or where equal is enough at least as great.
abbrev pub Past : Options → Bool → List Cell → List Cell → Type 0
Past o true l r = cmp_row o l r ≡ Less
Past o false l r = AtMost (cmp_row o) l r

-- A held row that is past l, and that the later row f is not before.
pub record Reached (o : Options) (strict : Bool) (l : List Cell) (held : Rows) (f : List Cell) : Type 0 where
  pub at : ℕ
  pub there : at < length held
  pub past : Past o strict l (get_or held at [])
  pub later : AtMost (cmp_row o) (get_or held at []) f

-- A held row that is greater than l, and less than the later row f.
pub record Between (o : Options) (l : List Cell) (held : Rows) (f : List Cell) : Type 0 where
  pub at : ℕ
  pub there : at < length held
  pub past : cmp_row o l (get_or held at []) ≡ Less
  pub later : cmp_row o (get_or held at []) f ≡ Less

-- Why a row f that comes behind the held rows changes no match of a left row up to l. Backward: it is past l itself.
-- Forward: a held row before it is past l. Nearest: a held row stands strictly between the two.
abbrev pub Enough : Options → Strategy → List Cell → Rows → List Cell → Type 0
Enough o Backward l held f = Past o o.allow_eq l f
Enough o Forward l held f = Reached o (not o.allow_eq) l held f
Enough o Nearest l held f = Between o l held f

-- Or its group is after l's.
abbrev pub Settled : Options → List Cell → Rows → List Cell → Type 0
Settled o l held f = (cmp_group o l f ≡ Less) ⊎ Enough o (strategy_of o) l held f
